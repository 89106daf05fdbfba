use Rattle.std.proofs.Common.{arith, sym, ◌∙◌}
use Rattle.vt100_core.proofs.RepeatLemmas.{counted, uncounted, gives-first}
use Rattle.vt100_core.proofs.grid.Grid.give_first.Goals as goal

pub returns-then-self-clause-grid : goal.returns-then-self-clause-grid
returns-then-self-clause-grid g c =
    counted c.self.view_is c.self.invariant c.requires.allocated c.requires.first c.requires.last _ c.requires.none
    c.if-self.true (omega arith)

pub returns-then-self-clause-sink : goal.returns-then-self-clause-sink
returns-then-self-clause-sink g c =
    gives-first c.self.view_is c.self.invariant c.requires.allocated c.requires.first c.requires.last _ _ _
    c.requires.none c.give_first.ensures

pub returns-else-self-clause-grid : goal.returns-else-self-clause-grid
returns-else-self-clause-grid g c =
    sym c.self.view_is ∙ uncounted c.self.view_is c.self.invariant c.requires.allocated c.requires.first c.requires.last c.if-self.false

pub returns-else-self-clause-sink : goal.returns-else-self-clause-sink
returns-else-self-clause-sink g c =
    gives-first c.self.view_is c.self.invariant c.requires.allocated c.requires.first c.requires.last _ _ _
    c.requires.none c.give_first.ensures
