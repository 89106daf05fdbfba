use Rattle.std.proofs.Common.{◌≡◌, ◌++◌, ◌+◌, ◌∷◌, [], sym, ap, ap₂, ◌∙◌, take, subst}
use Rattle.std.proofs.lemmas.List.{map-append, take_more}
use Rattle.charset_filter.specs.Filter.{HasRead}
use Rattle.recordings.specs.Recorded.{deed_of, said}
use Rattle.recordings.specs.declared.recording.Event.{Event}
use Rattle.screentext_command.specs.Drawn.{drawn_after}
use Rattle.screentext_command.proofs.DrawnLemmas.{drawn_after-more, outputs, outputs-more}
use Rattle.screentext_command.proofs.outputs.drawn_events.Goals as goal

pub loop-event-preserved : goal.loop-event-preserved
loop-event-preserved c =
    let es = c.args.events.now in
    let i = c.loop-event.event-index in
    let e = c.event-item.result in
    let before = said (take i es) in
    let inv = c.loop-event.invariant in
    let deed = deed_of e.change in
    let more : said (take (i + 1) es) ≡ before ++ (e.time, deed) ∷ [] =
    ap said (take_more es i e c.loop-event-test.true ∙ ap (λ x. take i es ++ x ∷ []) (sym c.event-item.is))
    ∙ map-append (λ (x : Event). (x.time, deed_of x.change)) (take i es) (e ∷ []) in
    record {
      reads = subst (λ bs. HasRead c.drawn_change.new.filter bs) (outputs-more before e.time deed
          ∙ ap outputs (sym more))
          (c.in_ok-change.ensures.reads _ inv.reads);
      drawn = ap said c.in_ok-push.ensures.items
          ∙ (map-append (λ (x : Event). (x.time, deed_of x.change)) _ _
          ∙ (ap₂ (λ ms d. ms ++ (e.time, d) ∷ []) inv.drawn (c.in_ok-change.ensures.drawn _ inv.reads)
          ∙ (sym (drawn_after-more before e.time deed) ∙ ap (drawn_after []) (sym more))));
    }
