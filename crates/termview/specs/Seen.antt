-- What a view shows of the bytes that it has parsed, and the parts of it.
use Rattle.std.specs.Prelude.{ℕ, List, Option, Some, None, ◌&&◌, nat_lt, if◌then◌else◌}
use Rattle.vte_core.specs.Shapes.{events}
use Rattle.vte.specs.Performed.{calls_of_all}
use Rattle.vt100_cells.specs.Cell.{CellView}
use Rattle.vt100_rows.specs.Text.{line_text}
use Rattle.terminal_model.specs.Term.{Size, Term, blank_term}
use Rattle.termview.specs.Step.{view_steps}

-- what a blank terminal shows after the calls that a parser makes for these bytes
abbrev pub seen : Size → List ℕ → Term
seen z bytes = view_steps z (calls_of_all None (events 1024 bytes)) blank_term

-- the cell at a place, if it is on the screen
abbrev pub cell_shown : Size → Term → ℕ → ℕ → Option CellView
cell_shown z t r k = if nat_lt r z.rows && nat_lt k z.cols then Some (t.cell r k) else None

-- the text of a row, without the empty columns at its end
abbrev pub text_shown : Size → Term → ℕ → List ℕ
text_shown z t r = line_text (t.cell r) 0 z.cols
