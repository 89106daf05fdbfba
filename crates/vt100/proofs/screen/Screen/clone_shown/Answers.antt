use Rattle.std.proofs.Common.{◌∙◌, ap}
use Rattle.screen_model.specs.Call.{ScreenView}
use Rattle.vt100.proofs.CopyLemmas.{drawn-proper}
use Rattle.vt100.proofs.screen.Screen.clone_shown.Goals as goal

pub with_sheet-requires-clause-proper : goal.with_sheet-requires-clause-proper
with_sheet-requires-clause-proper c =
    λ live. drawn-proper c.self.inside c.in_ok-grid.grid c.self.invariant c.in_ok-grid.ensures
    (ap (λ (v : ScreenView). v.failed) c.self.view_is ∙ live)
