use Rattle.std.proofs.Common.{◌≡◌, ◌+◌, ◌++◌, false, []}
use Rattle.picture_page.specs.Page.{Adds}
use Rattle.picture_page.specs.Seen.{Draws}
use Rattle.row_pictures.specs.Svg.{glyphs, pixels}
use Rattle.row_pictures.proofs.svg.push_glyphs.Given as goal

-- the cells so far, and where the next one is
abbrev pub invariant-loop-cell : goal.invariant-loop-cell
invariant-loop-cell l = record {
  adds : Adds l.fn.page l.page [];
  seen : Draws l.fn.page l.page false false [];
  bytes : l.page ≡ l.fn.page ++ glyphs l.col l.run l.cell-index;
  place : l.x ≡ pixels (l.col + l.cell-index);
}
