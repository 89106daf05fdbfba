use Rattle.std.proofs.Common.{◌∙◌, ap}
use Rattle.screen_model.specs.Call.{ScreenView}
use Rattle.vt100.proofs.CopyLemmas.{drawn-proper}
use Rattle.vt100.proofs.screen.Screen.copy_shown.Goals as goal

pub with_sheet-requires-clause-proper : goal.with_sheet-requires-clause-proper
with_sheet-requires-clause-proper c =
    λ live. drawn-proper c.other.inside c.copy_drawn.new.self c.other.invariant c.copy_drawn.ensures
    (ap (λ (v : ScreenView). v.failed) c.other.view_is ∙ live)
