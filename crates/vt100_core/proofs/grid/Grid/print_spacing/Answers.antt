use Rattle.std.proofs.Common.{arith, refl}
use Rattle.std.proofs.lemmas.Grind.{common_steps}
use Rattle.vt100_cells.specs.Cell.{cell_of}
use Rattle.vt100_cells.proofs.CellLemmas.{IsCell-of}
use Rattle.vt100_cells.proofs.WidthLemmas.{drawn-is}
use Rattle.vt100_core.proofs.GridLemmas.{IsGrid-at}
use Rattle.vt100_core.proofs.TextLemmas.{IsGrid-put_at, span_of-cell}
use Rattle.vt100_core.proofs.CursorRow.{cursor_row-fits}
use Rattle.vt100_core.proofs.grid.Grid.print_spacing.Goals as goal

pub invariant_of-self : goal.invariant_of-self
invariant_of-self c =
    let d = drawn-is c.args.c c.args.columns c.requires.drawn in
    IsGrid-at (IsGrid-put_at c.args.self.now (cell_of c.args.c c.args.attrs) c.args.attrs c.args.columns
    (rw (← c.self.view_is) c.self.invariant) c.requires.allocated
    (IsCell-of c.args.c c.args.attrs c.ranges.c.0 d.0 (omega (arith, d.1, c.requires.some))) refl
    (span_of-cell c.args.c c.args.columns c.args.attrs d.1 c.requires.some) c.requires.fits)
    (grind (arith, common_steps))

pub put-requires-clause-in_row : goal.put-requires-clause-in_row
put-requires-clause-in_row c =
    cursor_row-fits _ c.self.view_is c.self.invariant c.requires.allocated c.from.ensures
    c.index_mut.ensures.value c.requires.fits
