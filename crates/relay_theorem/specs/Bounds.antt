-- The length of frames, and of the pending bytes.
use Rattle.std.specs.Prelude.{◌≡◌, ℕ, ◌*◌, ◌<◌, ◌≤◌, false, List, length, IfSome}
use Rattle.std.specs.List.{AllByRecursion}
use Rattle.vte.specs.Hold.{limit}
use Rattle.termrelay.specs.Frame.{IsShortFrame}
use Rattle.termrelay.specs.declared.answer.Answer.TheVariants.{TooLong}
use Rattle.termrelay.specs.Hub.{clients_in}
use Rattle.termrelay.specs.Calls.{Call}
use Rattle.termrelay.specs.declared.runs.call.Reply.{Reply}
use Rattle.relay_theorem.specs.History.{Story, size_of_story}
use Rattle.relay_theorem.specs.Laws.{IsSession}

-- Each frame of a session has at most 1,024 bytes for each cell, and 1,024 more. The same bound holds for the bytes
-- that wait for its client while the session hasn't ended.
abbrev pub EachSessionIsBounded : Type 0
EachSessionIsBounded = (rows cols : ℕ) (calls : List Call) (replies : List Reply) (n : ℕ) (t : Story)
    → (s : IsSession rows cols calls replies n t)
    → AllByRecursion (λ e. IsShortFrame (size_of_story t) e.text) t.entries
    × (t.session.ended ≡ false
    → IfSome (clients_in s.hub t.session.client) (λ c. IsShortFrame (size_of_story t) c.owed))

-- Whatever the session's size, each frame is below the buffer's limit, so that a view can buffer it whole. A longer
-- frame isn't made.
abbrev pub EachFrameFitsTheHold : Type 0
EachFrameFitsTheHold = (rows cols : ℕ) (calls : List Call) (replies : List Reply) (n : ℕ) (t : Story)
    → IsSession rows cols calls replies n t → AllByRecursion (λ e. length e.text < limit) t.entries

-- On a screen of at most 2,000 cells, no answer is `TooLong`.
abbrev pub NoSmallFrameIsTooLong : Type 0
NoSmallFrameIsTooLong = (rows cols : ℕ) (calls : List Call) (replies : List Reply) (n : ℕ) (t : Story)
    → IsSession rows cols calls replies n t → t.session.rows * t.session.cols ≤ 2000
    → AllByRecursion (λ e. e.answer ≡ TooLong → ⊥) t.entries
