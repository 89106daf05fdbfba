use Rattle.std.proofs.Common.{◌≡◌, ◌++◌, ◌∙◌, ◌∷◌, [], List, ℕ, ap, subst, sym, take}
use Rattle.std.specs.List.{flat_map}
use Rattle.std.proofs.lemmas.List.{take_all, take_more}
use Rattle.picture_page.proofs.PageLemmas.{after_markup}
use Rattle.picture_page.specs.Tags.{tag_bytes}
use Rattle.picture_page.specs.declared.tag.Tag.TheVariants as tag
use Rattle.recordings.specs.declared.recording.Event.{Event}
use Rattle.player_page.specs.Pages.{marker_bytes}
use Rattle.player_page.proofs.LineLemmas.{none_yet, one_more}
use Rattle.player_page.proofs.page.push_markers.Goals as goal

abbrev one : Event → List ℕ
one e = marker_bytes e.time e.change

pub loop-event-init : goal.loop-event-init
loop-event-init c = record {
  adds = c.in_ok-markup.ensures.adds;
  bytes = none_yet one (tag_bytes tag.PlayerControls) _ _ c.in_ok-markup.ensures.bytes;
}

pub loop-event-preserved : goal.loop-event-preserved
loop-event-preserved c =
    let events = c.args.events.now in
    let i = c.loop-event.event-index in
    let event = c.event-item.result in
    record {
      adds = after_markup _ _ _ _ c.loop-event.invariant.adds c.in_ok-push_marker.ensures.adds;
      bytes = one_more one (tag_bytes tag.PlayerControls) c.args.page.now c.loop-event.page _ events i event
          (take_more events i event c.loop-event-test.true
          ∙ ap (λ (e : Event). take i events ++ e ∷ []) (sym c.event-item.is))
          c.loop-event.invariant.bytes c.in_ok-push_marker.ensures.bytes;
    }

pub returns-clause-bytes : goal.returns-clause-bytes
returns-clause-bytes c =
    subst (λ (es : List Event). c.loop-event.page ≡ c.args.page.now ++ (tag_bytes tag.PlayerControls ++ flat_map one es))
    (take_all c.loop-event.event-index c.args.events.now c.loop-event-test.false) c.loop-event.invariant.bytes
