-- The frames of a client that gets each one as soon as it is made.
use Rattle.std.specs.Prelude.{ℕ, Bool, true, false, List, [], ◌∷◌, Option}
use Rattle.terminal_model.specs.Term.{Shown}
use Rattle.vt100_core.specs.Picture.{grid_size}
use Rattle.screen_model.specs.State.{State}
use Rattle.screen_model.specs.Shown.{shown_state}
use Rattle.screen_model.specs.Made.{Fed, made}
use Rattle.termrelay.specs.Answers.{ClientState, answer_for, after_answer}
use Rattle.termrelay.specs.declared.answer.Answer.{Answer}
use Rattle.termrelay.specs.declared.answer.Answer.TheVariants.{TooLong}

-- the state of a new screen that keeps no rows, after a program's bytes
abbrev pub state_after : ℕ → ℕ → List ℕ → State
state_after rows cols bytes = made rows cols 0 (Fed bytes ∷ [])

-- a client for which no bytes wait
abbrev pub idle : Option Shown → ClientState
idle base = record { owed = []; base = base }

-- the answer to its request for a frame of this screen
abbrev pub answer_on : State → Option Shown → Answer
answer_on now base = answer_for now (idle base)

-- the client after that answer
abbrev pub asked_on : State → Option Shown → ClientState
asked_on now base = after_answer (grid_size now.shown) (shown_state now) (idle base) (answer_on now base)

-- the same for the screen that these bytes make
unfoldable pub answered : ℕ → ℕ → List ℕ → Option Shown → Answer
answered rows cols bytes base = answer_on (state_after rows cols bytes) base

unfoldable pub asked : ℕ → ℕ → List ℕ → Option Shown → ClientState
asked rows cols bytes base = asked_on (state_after rows cols bytes) base

-- the frame would be too long
abbrev pub is_overlong : Answer → Bool
is_overlong TooLong = true
is_overlong answer = false
