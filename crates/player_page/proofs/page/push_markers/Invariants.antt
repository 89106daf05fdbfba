use Rattle.std.proofs.Common.{◌≡◌, ◌++◌, [], take}
use Rattle.std.specs.List.{flat_map}
use Rattle.picture_page.specs.Page.{Adds}
use Rattle.picture_page.specs.Tags.{tag_bytes}
use Rattle.picture_page.specs.declared.tag.Tag.TheVariants as tag
use Rattle.player_page.specs.Pages.{marker_bytes}
use Rattle.player_page.proofs.page.push_markers.Given as goal

-- the controls and the markers so far, and no text
abbrev pub invariant-loop-event : goal.invariant-loop-event
invariant-loop-event l = record {
  adds : Adds l.fn.page l.page [];
  bytes : l.page ≡ l.fn.page ++ (tag_bytes tag.PlayerControls
      ++ flat_map (λ e. marker_bytes e.time e.change) (take l.event-index l.events));
}
