use Rattle.std.proofs.Common.{◌≡◌, ◌++◌, false, [], take}
use Rattle.std.specs.List.{flat_map}
use Rattle.picture_page.specs.Page.{Adds}
use Rattle.picture_page.specs.Seen.{Draws}
use Rattle.row_pictures.specs.Svg.{area_data}
use Rattle.row_pictures.proofs.glyph.push_glyph.Given as goal

-- the rectangles so far
abbrev pub invariant-loop-area : goal.invariant-loop-area
invariant-loop-area l = record {
  adds : Adds l.fn.page l.page [];
  seen : Draws l.fn.page l.page false false [];
  bytes : l.page ≡ l.fn.page ++ flat_map (area_data l.x) (take l.area-index l.area-items);
}
