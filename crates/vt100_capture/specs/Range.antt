-- The state before and after a capture of a range of rows.
use Rattle.std.specs.Prelude.{◌≡◌, ◌⊎◌, ⊤}
use Rattle.std.proofs.Common.{inl}
use denote.Ref.{MutBor}
use Rattle.vt100_capture.specs.Capture.{CaptureView, new_capture}
use Rattle.vt100_capture.specs.declared.state.BasicFormattedCaptureRange.{BasicFormattedCaptureRange}
use Rattle.vt100_capture.specs.declared.state.BasicFormattedCaptureRange.TheVariants.{Full, Visible}

-- the given state, or a new one
abbrev pub start_of : BasicFormattedCaptureRange → CaptureView
start_of (Full state) = state.now
start_of Visible = new_capture

-- a state that was given is s at the end
abbrev pub LeavesState : CaptureView → BasicFormattedCaptureRange
    → (MutBor CaptureView × Unit {0}) ⊎ (Unit {0} ⊎ ⊥) → Type 0
LeavesState s (Full old) (inl new) = new.0.now ≡ s
LeavesState s (Full old) _ = ⊥
LeavesState s Visible _ = ⊤
