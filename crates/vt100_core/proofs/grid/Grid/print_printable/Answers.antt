use Rattle.std.proofs.Common.{arith, refl}
use Rattle.std.proofs.lemmas.Grind.{common_steps}
use Rattle.vt100_cells.specs.Cell.{cell_of}
use Rattle.vt100_cells.proofs.CellLemmas.{IsCell-printable}
use Rattle.vt100_cells.proofs.WidthLemmas.{printable-is}
use Rattle.vt100_core.proofs.GridLemmas.{IsGrid-at}
use Rattle.vt100_core.proofs.TextLemmas.{IsGrid-put_at, span_of-cell}
use Rattle.vt100_core.proofs.CursorRow.{cursor_row-fits}
use Rattle.vt100_core.proofs.grid.Grid.print_printable.Goals as goal

pub invariant_of-self : goal.invariant_of-self
invariant_of-self c =
    let a = c.args.attrs.now in
    let d = printable-is c.args.c c.requires.printable in
    IsGrid-at (IsGrid-put_at c.args.self.now (cell_of c.args.c a) a 1
    (rw (← c.self.view_is) c.self.invariant) c.requires.allocated
    (IsCell-printable c.args.c a c.requires.printable) refl
    (span_of-cell c.args.c 1 a d.1 (omega arith)) c.requires.fits)
    (grind (arith, common_steps))

pub put_printable-requires-clause-in_row : goal.put_printable-requires-clause-in_row
put_printable-requires-clause-in_row c =
    omega (
      arith,
      cursor_row-fits 1 c.self.view_is c.self.invariant c.requires.allocated c.from.ensures
          c.index_mut.ensures.value c.requires.fits,
    )
