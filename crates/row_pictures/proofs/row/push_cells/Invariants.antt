use Rattle.std.proofs.Common.{◌≡◌, ◌++◌, take}
use Rattle.picture_page.specs.Page.{Adds, escaped}
use Rattle.row_pictures.specs.Text.{row_text}
use Rattle.row_pictures.proofs.row.push_cells.Given as goal

abbrev pub invariant-loop-cell : goal.invariant-loop-cell
invariant-loop-cell l = record {
  adds : Adds l.fn.page l.page (row_text (take l.cell-index l.cells));
  bytes : l.page ≡ l.fn.page ++ escaped (row_text (take l.cell-index l.cells));
}
