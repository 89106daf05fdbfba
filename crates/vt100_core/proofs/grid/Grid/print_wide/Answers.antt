use Rattle.std.proofs.Common.{arith}
use Rattle.std.proofs.lemmas.Grind.{common_steps}
use Rattle.vt100_core.proofs.GridLemmas.{IsGrid-at}
use Rattle.vt100_core.proofs.TextLemmas.{IsGrid-put_at, span_of-wide}
use Rattle.vt100_core.proofs.CursorRow.{cursor_row-fits}
use Rattle.vt100_core.proofs.grid.Grid.print_wide.Goals as goal

pub invariant_of-self : goal.invariant_of-self
invariant_of-self c =
    IsGrid-at
    (IsGrid-put_at c.args.self.now c.args.cell c.args.attrs 2 (rw (← c.self.view_is) c.self.invariant)
    c.requires.allocated c.requires.valid c.requires.text
    (span_of-wide c.args.cell c.requires.wide) c.requires.fits)
    (grind (arith, common_steps))

pub put_cell-requires-clause-in_row : goal.put_cell-requires-clause-in_row
put_cell-requires-clause-in_row c =
    let fits = cursor_row-fits _ c.self.view_is c.self.invariant c.requires.allocated c.from.ensures
    c.index_mut.ensures.value c.requires.fits in
    omega (arith, fits, span_of-wide c.args.cell c.requires.wide)
