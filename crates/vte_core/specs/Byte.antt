-- What the parser's functions do with a byte: the parser (p) and the performer (old) before it, and after it (r, new).
use Rattle.std.specs.Prelude.{◌≡◌, ℕ}
use Rattle.vte_core.specs.Event.{Event, Performs}
use Rattle.vte_core.specs.StepEvents.{step_events, byte_events}
use Rattle.vte_core.specs.Pending.{Pending, events_of_byte, after_byte, byte_rest, byte_reported}
use Rattle.vte_core.specs.Standing.{IsAt}
use Rattle.vte_core.specs.declared.parser.Parser.{Parser}
use Rattle.vte_core.specs.declared.parser.State.{State}

-- From any state that the parser was in, it is in the one after the byte. The performer has gone through events that
-- the parser's fields say, and they are those of the byte after what was pending.
pub record ReadsByte {S : Type 0} (step : S → Event → S
    → Type 0) (n : ℕ) (p : Parser n) (old : S) (b : ℕ) (r : Parser n) (new : S) : Type 0 where
  pub state_after : (q : Pending) → IsAt n p q → IsAt n r (after_byte q b)
  pub reported : Performs step old (step_events n p r b) new
  pub is_reported : (q : Pending) → IsAt n p q → step_events n p r b ≡ events_of_byte n q b

-- what `ReadsByte` says, of a byte other than ESC in the state s
pub record ReadsOther {S : Type 0} (step : S → Event → S
    → Type 0) (n : ℕ) (s : State) (p : Parser n) (old : S) (b : ℕ) (r : Parser n) (new : S) : Type 0 where
  pub state_after : (q : Pending) → IsAt n p q → IsAt n r (byte_rest q b)
  pub reported : Performs step old (byte_events n s p r b) new
  pub is_reported : (q : Pending) → IsAt n p q → byte_events n s p r b ≡ byte_reported n q b
