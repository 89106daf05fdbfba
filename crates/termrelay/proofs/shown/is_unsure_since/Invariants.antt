use Rattle.std.proofs.Common.{◌≡◌, false}
use Rattle.screen_model.specs.Shown.{shown_state}
use Rattle.termrelay.specs.Frame.{any_below, asks_for_emoji}
use Rattle.termrelay.proofs.shown.is_unsure_since.Given as goal

-- none so far
abbrev pub invariant-loop-row : goal.invariant-loop-row
invariant-loop-row l =
    any_below l.row (λ r. any_below l.now.state.shown.width
    (λ k. asks_for_emoji ((shown_state l.now.state).cell r k))) ≡ false
