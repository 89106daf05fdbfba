use Rattle.std.proofs.Common.{◌≡◌, ◌++◌, ◌∙◌, OnOk, ap, string_bytes, subst, sym}
use Rattle.picture_page.proofs.PageLemmas.{if_added, if_joined}
use Rattle.picture_page.specs.Page.{escaped}
use Rattle.picture_page.specs.Tags.{tag_bytes}
use Rattle.picture_page.specs.declared.tag.Tag.TheVariants as tag
use Rattle.recordings.specs.declared.recording.Change.{Change}
use Rattle.player_page.specs.Heads.{seconds_bytes}
use Rattle.player_page.specs.Pages.{marker_bytes}
use Rattle.player_page.proofs.page.push_marker.Goals as goal

pub returns-in_ok-name-in-Marker-clause-adds : goal.returns-in_ok-name-in-Marker-clause-adds
returns-in_ok-name-in-Marker-clause-adds c =
    if_added _ _ _ _ _ c.in_ok-push_seconds-in-Marker.ensures.adds
    (if_added _ _ _ _ _ c.in_ok-markup-in-Marker.ensures.adds
    (if_added _ _ _ _ _ c.in_ok-name-in-Marker.ensures.adds c.markup-in-Marker.ensures.adds))

pub returns-in_ok-name-in-Marker-clause-bytes : goal.returns-in_ok-name-in-Marker-clause-bytes
returns-in_ok-name-in-Marker-clause-bytes c =
    let time = c.args.event.now.time in
    let name = string_bytes c.in-Marker.name in
    subst (λ (change : Change). OnOk c.markup-in-Marker.result (c.markup-in-Marker.new.self ≡ c.args.page.now
    ++ marker_bytes c.args.event.now.time change)) (sym c.in-Marker.is)
    (if_joined _ c.args.page.now c.push_seconds.new.page _ (seconds_bytes tag.MarkerTime time) _
    c.in_ok-push_seconds-in-Marker.ensures.bytes
    (if_joined _ c.push_seconds.new.page c.markup.new.self _ (tag_bytes tag.MarkerName) _
    c.in_ok-markup-in-Marker.ensures.bytes
    (if_joined _ c.markup.new.self c.name.new.self _ (escaped name) (tag_bytes tag.MarkerEnd)
    (c.in_ok-name-in-Marker.ensures.bytes ∙ ap (λ bs. c.markup.new.self ++ escaped bs) c.as_str.ensures.value)
    c.markup-in-Marker.ensures.bytes)))
