use Rattle.vt100_core.specs.GridFields.{grid_of}
use Rattle.vt100_core.proofs.BlankLemmas.{IsGrid-filled}
use Rattle.vt100_core.proofs.grid.Grid.allocate_rows.Goals as goal

pub invariant_of-self : goal.invariant_of-self
invariant_of-self c =
    IsGrid-filled (grid_of c.self.inside) c.in_ok-self-inside.field-0 c.self.invariant
    c.in_ok-self-inside.ensures
