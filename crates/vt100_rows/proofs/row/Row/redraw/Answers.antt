use Rattle.std.proofs.Common.{◌≤◌, ◌<◌, arith, sym, subst, length, List}
use Rattle.std.specs.Prelude.{string_bytes}
use Rattle.vt100_cells.specs.Cell.{CellView}
use Rattle.vt100_cells.specs.Cells.{cell_at}
use Rattle.vt100_cells.specs.Line.{IsPaired}
use Rattle.row_drawing.proofs.WritesLemmas.{appended_none}
use Rattle.vt100_rows.proofs.FormsLemmas.{wrote_row_none}
use Rattle.vt100_rows.proofs.row.Row.redraw.Goals as goal

pub returns-then-cols-place : goal.returns-then-cols-place
returns-then-cols-place c =
    let outside : length c.args.self.now.cells ≤ c.args.place.start = omega (arith, c.cols-cols.ensures) in
    appended_none _ (wrote_row_none c.args.self.now c.args.place.start c.args.place.width c.args.place.row
    c.args.place.above c.args.pen.now
    (string_bytes c.args.contents.now) outside)

pub invariant_of-drawing : goal.invariant_of-drawing
invariant_of-drawing c = record {
  few = subst (λ (xs : List CellView). length xs < 65536) (sym c.deref.ensures.value) c.self.invariant.row.narrow;
  paired = subst (λ (xs : List CellView). IsPaired (cell_at xs)) (sym c.deref.ensures.value)
      c.self.invariant.row.paired;
}
