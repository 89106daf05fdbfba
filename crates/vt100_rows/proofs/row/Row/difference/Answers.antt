use Rattle.std.proofs.Common.{◌≤◌, ◌<◌, arith, sym, subst, length, min, List}
use Rattle.std.specs.Prelude.{string_bytes}
use Rattle.vt100_cells.specs.Cell.{CellView}
use Rattle.vt100_cells.specs.Cells.{cell_at}
use Rattle.vt100_cells.specs.Line.{IsPaired}
use Rattle.row_drawing.proofs.WritesLemmas.{appended_none}
use Rattle.vt100_rows.proofs.FormsLemmas.{wrote_difference_none, wrote_difference_same}
use Rattle.vt100_rows.proofs.row.Row.difference.Goals as goal

pub returns-then-is_drawn : goal.returns-then-is_drawn
returns-then-is_drawn c =
    let drawn = c.is_drawn.ensures in
    let yes = c.if-is_drawn.true in
    appended_none _ (wrote_difference_same c.args.self.now c.args.prev.now c.args.place.start c.args.place.width
    c.args.place.row c.args.place.above
    c.args.place.was_above c.args.pen.now (string_bytes c.args.contents.now) (drawn.row yes) (drawn.above yes)
    (drawn.closed yes) (drawn.kept yes))

pub returns-then-cols-place : goal.returns-then-cols-place
returns-then-cols-place c =
    let v = c.args.self.now in
    let earlier = c.args.prev.now in
    let outside : min (length v.cells) (length earlier.cells) ≤ c.args.place.start =
    omega (arith, c.cols.ensures, c.cols-2.ensures, c.min-cols.ensures) in
    appended_none _ (wrote_difference_none v earlier c.args.place.start c.args.place.width c.args.place.row
    c.args.place.above c.args.place.was_above c.args.pen.now
    (string_bytes c.args.contents.now) outside)

pub invariant_of-drawing : goal.invariant_of-drawing
invariant_of-drawing c = record {
  few = subst (λ (xs : List CellView). length xs < 65536) (sym c.deref.ensures.value) c.self.invariant.row.narrow;
  paired = subst (λ (xs : List CellView). IsPaired (cell_at xs)) (sym c.deref.ensures.value)
      c.self.invariant.row.paired;
}
