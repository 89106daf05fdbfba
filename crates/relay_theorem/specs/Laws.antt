-- Laws of histories: facts about every session, after any calls with any replies.
use Rattle.std.specs.Prelude.{◌≡◌, ℕ, Bool, true, false, List, [], ◌∷◌, ◌++◌, Option, Some, None, slice_get, is_some}
use Rattle.std.specs.Prelude.{if◌then◌else◌}
use Rattle.std.specs.List.{list_any}
use Rattle.terminal_model.specs.Term.{Size, Shown}
use Rattle.screen_model.specs.Holds.{IsSide, AreActs}
use Rattle.termrelay.specs.Frame.{frame_text}
use Rattle.termrelay.specs.Answers.{ClientState, is_frame, answer_for}
use Rattle.termrelay.specs.Hub.{HubState, clients_in}
use Rattle.termrelay.specs.Calls.{Call}
use Rattle.termrelay.specs.declared.runs.call.Reply.{Reply}
use Rattle.relay_theorem.specs.History.{Entry, Story, as_reported, fresh, size_of_story, is_on, RunsReported}
use Rattle.relay_theorem.specs.Judge.{state_at, size_at, shown_at, texts}

-- what was shown at the last frame, if there was one, and the text of that frame
abbrev pub base_then : ℕ → ℕ → Option Shown → Entry → Option Shown
base_then rows cols base e = if is_frame e.answer then Some (shown_at rows cols e) else base

-- what was shown at the last frame after these answers; `base` if none brings a frame
abbrev pub base_after : ℕ → ℕ → Option Shown → List Entry → Option Shown
base_after rows cols base [] = base
base_after rows cols base (e ∷ es) = base_after rows cols (base_then rows cols base e) es

-- the text of the last frame; `text` if there is no frame
abbrev pub last_text : List ℕ → List Entry → List ℕ
last_text text [] = text
last_text text (e ∷ es) = last_text (if is_frame e.answer then e.text else text) es

-- An answer to a session of size z, whose last frame showed `base`, on a hub whose first size was rows and cols. The
-- screen had the session's size. The answer depends only on the screen's state, the base and the bytes that were
-- pending then. A frame is made from the base and what was shown.
pub record IsAnswered (rows cols : ℕ) (z : Size) (base : Option Shown) (e : Entry) : Type 0 where
  pub acts : AreActs rows cols 0 e.moment
  pub size : size_at rows cols e ≡ z
  pub owed : List ℕ
  pub answer : e.answer ≡ answer_for (state_at rows cols e) (record { owed = owed; base = base })
  pub text : e.text ≡ (if is_frame e.answer then frame_text z base (shown_at rows cols e) else [])

-- answers, one after another: each frame starts from what was shown at the one before it
abbrev pub AreAnswered : ℕ → ℕ → Size → Option Shown → List Entry → Type 0
AreAnswered rows cols z base [] = Unit {0}
AreAnswered rows cols z base (e ∷ es) =
    IsAnswered rows cols z base e × AreAnswered rows cols z (base_then rows cols base e) es

-- The bytes pumped and the bytes that wait for the client are the frames' texts. The pending bytes are a suffix of
-- the last frame, so at most one frame is pending. The hub keeps what was shown at that frame.
pub record IsServed (rows cols : ℕ) (t : Story) (c : ClientState) : Type 0 where
  pub bytes : t.session.pumped ++ c.owed ≡ texts t.entries
  pub read : List ℕ
  pub owed : read ++ c.owed ≡ last_text [] t.entries
  pub base : c.base ≡ base_after rows cols None t.entries

-- facts about a session, for these clients at each key
pub record IsReported (rows cols : ℕ) (clients : ℕ → Option ClientState) (t : Story) : Type 0 where
  pub height : IsSide t.session.rows
  pub width : IsSide t.session.cols
  pub entries : AreAnswered rows cols (size_of_story t) None t.entries
  -- while the session hasn't ended
  pub served : t.session.ended ≡ false
      → (c : ClientState) × (clients t.session.client ≡ Some c) × IsServed rows cols t c
  -- always, the bytes pumped are a prefix of the frames' texts
  pub left : List ℕ
  pub prefix : t.session.pumped ++ left ≡ texts t.entries

-- the n-th session of a hub whose first size was rows and cols, after these calls with these replies
pub record IsSession (rows cols : ℕ) (calls : List Call) (replies : List Reply) (n : ℕ) (t : Story) : Type 0 where
  pub height : IsSide rows
  pub width : IsSide cols
  pub hub : HubState as_reported
  pub stories : List Story
  pub ran : RunsReported (fresh rows cols) [] calls replies hub stories
  pub is : slice_get stories n ≡ Some t

-- these facts hold for each session, after any calls with any replies
abbrev pub EachSessionIsReported : Type 0
EachSessionIsReported = (rows cols : ℕ) (calls : List Call) (replies : List Reply) (n : ℕ) (t : Story)
    → (s : IsSession rows cols calls replies n t) → IsReported rows cols (clients_in s.hub) t

-- at most one item of the list passes the test
abbrev pub AtMostOne : {A : Type 0} → (A → Bool) → List A → Type 0
AtMostOne test [] = Unit {0}
AtMostOne test (x ∷ xs) = (test x ≡ true → list_any test xs ≡ false) × AtMostOne test xs

-- After any calls, there is a client at a key exactly when a session of that key hasn't ended. No two such sessions
-- have the same key.
abbrev pub EachClientHasASession : Type 0
EachClientHasASession = (rows cols : ℕ) (calls : List Call) (replies : List Reply)
    (hub : HubState as_reported) (stories : List Story) (key : ℕ) → IsSide rows → IsSide cols
    → RunsReported (fresh rows cols) [] calls replies hub stories
    → (is_some (clients_in hub key) ≡ list_any (is_on key) stories) × AtMostOne (is_on key) stories
