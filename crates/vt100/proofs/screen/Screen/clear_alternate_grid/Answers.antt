use Rattle.vt100.proofs.ProperScreens.{cleared_shown, cleared_other}
use Rattle.vt100.proofs.screen.Screen.clear_alternate_grid.Goals as goal

pub invariant_of-self : goal.invariant_of-self
invariant_of-self c = cleared_shown c.self.inside _ c.self.invariant c.clear.ensures

pub invariant_of-self-else-self : goal.invariant_of-self-else-self
invariant_of-self-else-self c = cleared_other c.self.inside _ c.self.invariant c.clear-else-self.ensures
