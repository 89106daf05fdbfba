use Rattle.std.proofs.Common.{◌∙◌, ap, refl}
use Rattle.vt100_core.specs.Copy.{visible_as_drawn}
use Rattle.vt100_core.proofs.VisibleLemmas.{some-fitted}
use Rattle.screen_model.specs.Call.{ScreenView}
use Rattle.vt100.proofs.CopyLemmas.{visible-proper}
use Rattle.vt100.proofs.screen.Screen.clone_visible.Goals as goal

pub with_sheet-requires-clause-drawn : goal.with_sheet-requires-clause-drawn
with_sheet-requires-clause-drawn c =
    rw c.in_ok-grid.ensures (some-fitted c.self.inside.grid (visible_as_drawn c.self.inside.grid).rows
    c.self.invariant.shown refl)

pub with_sheet-requires-clause-proper : goal.with_sheet-requires-clause-proper
with_sheet-requires-clause-proper c =
    λ live. visible-proper c.self.inside c.in_ok-grid.grid c.self.invariant c.is_allocated.ensures.valid
    c.in_ok-grid.ensures (ap (λ (v : ScreenView). v.failed) c.self.view_is ∙ live)
