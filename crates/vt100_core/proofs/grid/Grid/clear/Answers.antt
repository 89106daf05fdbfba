use Rattle.std.proofs.Common.{◌-◌, ap}
use Rattle.vt100_core.specs.GridFields.{grid_of}
use Rattle.vt100_core.proofs.GridLemmas.{IsGrid-at}
use Rattle.vt100_core.proofs.BlankLemmas.{IsGrid-cleared, clears}
use Rattle.vt100_core.proofs.grid.Grid.clear.Goals as goal

pub invariant_of-self : goal.invariant_of-self
invariant_of-self c =
    let own = c.self.inside in
    let width = own.size.cols.value in
    let reset = c.reset_all.ensures width c.self.invariant.sheet.each in
    IsGrid-at (IsGrid-cleared c.args.self.now (rw (← c.self.view_is) c.self.invariant))
    (clears (grid_of own) c.args.self.now _ _ c.self.view_is
    reset
    (ap (λ k. k - 1) c.rows.ensures))

pub returns : goal.returns
returns c =
    let own = c.self.inside in
    let width = own.size.cols.value in
    let reset = c.reset_all.ensures width c.self.invariant.sheet.each in
    clears (grid_of own) c.args.self.now _ _ c.self.view_is
    reset
    (ap (λ k. k - 1) c.rows.ensures)
