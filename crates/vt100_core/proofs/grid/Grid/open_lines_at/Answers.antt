use Rattle.std.proofs.Common.{arith}
use Rattle.std.proofs.lemmas.Grind.{common_steps}
use Rattle.vt100_core.proofs.GridLemmas.{allocated-again, IsGrid-at, IsGrid-lines_opened}
use Rattle.vt100_core.proofs.grid.Grid.open_lines_at.Goals as goal

pub invariant_of-self : goal.invariant_of-self
invariant_of-self c =
    let width = c.self.inside.size.cols.value in
    let moved = c.open_lines.ensures width c.self.invariant.sheet.each in
    IsGrid-at
    (IsGrid-lines_opened c.args.self.now c.args.first c.args.count (rw (← c.self.view_is) c.self.invariant)
    c.requires.allocated)
    (grind (arith, common_steps, moved))

pub returns-clause-grid : goal.returns-clause-grid
returns-clause-grid c =
    let width = c.self.inside.size.cols.value in
    let moved = c.open_lines.ensures width c.self.invariant.sheet.each in
    grind (arith, common_steps, moved)

pub returns-clause-allocated : goal.returns-clause-allocated
returns-clause-allocated c = allocated-again _ c.self.view_is c.requires.allocated
    (c.open_lines.ensures c.self.inside.size.cols.value c.self.invariant.sheet.each)
