-- What a far terminal should show, judged only by the history of its session.
use Rattle.std.specs.Prelude.{◌≡◌, ℕ, ◌-◌, nat_le, List, [], ◌∷◌, ◌++◌, length, Option, Some, None, if◌then◌else◌}
use Rattle.terminal_model.specs.Term.{Size, Shown, blank_shown}
use Rattle.vt100_core.specs.Picture.{grid_size}
use Rattle.screen_model.specs.State.{State}
use Rattle.screen_model.specs.Shown.{shown_state}
use Rattle.screen_model.specs.Made.{made}
use Rattle.termrelay.specs.Answers.{is_frame}
use Rattle.termrelay.specs.declared.answer.Answer.TheVariants.{Unsure}
use Rattle.relay_theorem.specs.History.{Entry}

-- the screen's state at an entry's moment, on a hub whose first size was rows and cols
abbrev pub state_at : ℕ → ℕ → Entry → State
state_at rows cols e = made rows cols 0 e.moment

abbrev pub size_at : ℕ → ℕ → Entry → Size
size_at rows cols e = grid_size (state_at rows cols e).shown

abbrev pub shown_at : ℕ → ℕ → Entry → Shown
shown_at rows cols e = shown_state (state_at rows cols e)

-- the frames' texts, one after another
abbrev pub texts : List Entry → List ℕ
texts [] = []
texts (e ∷ es) = e.text ++ texts es

-- the last frame, if there is one: `last` if the entry brings none
abbrev pub frame_or : Option Entry → Entry → Option Entry
frame_or last e = if is_frame e.answer then Some e else last

abbrev pub last_frame : Option Entry → List Entry → Option Entry
last_frame last [] = last
last_frame last (e ∷ es) = last_frame (frame_or last e) es

-- the entries whose texts lie wholly in the first k bytes
abbrev pub whole_in : List Entry → ℕ → List Entry
whole_in [] k = []
whole_in (e ∷ es) k = if nat_le (length e.text) k then e ∷ whole_in es (k - length e.text) else []

-- the last frame whose text lies wholly in the first k bytes
abbrev pub last_whole : Option Entry → List Entry → ℕ → Option Entry
last_whole last es k = last_frame last (whole_in es k)

-- what was shown at the frame's moment, or a blank screen without a frame
abbrev pub judged : ℕ → ℕ → Option Entry → Shown
judged rows cols None = blank_shown
judged rows cols (Some e) = shown_at rows cols e

-- the frame's screen had no cell with U+FE0F
abbrev pub IsSure : Option Entry → Type 0
IsSure None = Unit {0}
IsSure (Some e) = e.answer ≡ Unsure → ⊥

-- what is shown is the screen at that frame's moment, unless that screen had U+FE0F
abbrev pub IsShownRight : ℕ → ℕ → Shown → Option Entry → Type 0
IsShownRight rows cols shown last = IsSure last → shown ≡ judged rows cols last
