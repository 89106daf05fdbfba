use Rattle.std.proofs.Common.{rules}
use Rattle.screen_model.proofs.ProperSheets.{proper_fed_up}
use Rattle.vt100.proofs.ProperScreens.{drawn_screen}
use Rattle.vt100.proofs.screen.wrapped.WrappedScreen.ri.Goals as goal

pub invariant_of-self : goal.invariant_of-self
invariant_of-self g c = drawn_screen _ _ _ c.self.invariant c.row_dec_scroll.ensures.allocated (search rules)
    (rw c.row_dec_scroll.ensures.grid (proper_fed_up c.self.inside.0.0.grid 1))
