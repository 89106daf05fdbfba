-- A session depends only on its own calls.
use Rattle.std.specs.Prelude.{◌≡◌, ℕ, ◌-◌, ◌==◌, Bool, true, false, List, [], ◌∷◌, ◌++◌, map, Option, Some, None}
use Rattle.std.specs.Prelude.{if◌then◌else◌}
use Rattle.std.specs.List.{list_any}
use Rattle.screen_model.specs.Made.{Act, Fed, Resized}
use Rattle.termrelay.specs.Answers.{ClientState}
use Rattle.termrelay.specs.Hub.{clients_in}
use Rattle.termrelay.specs.Calls.{Call, Feed, Resize, Attach, Detach, Frame, Pump, Fork}
use Rattle.termrelay.specs.Log.{SessionView, LogView}
use Rattle.termrelay.specs.declared.runs.call.Take.{Take}
use Rattle.termrelay.specs.declared.runs.call.Reply.{Reply}
use Rattle.termrelay.specs.declared.runs.call.Reply.TheVariants.{Done, Attached, Refused}
use Rattle.termrelay.specs.declared.error.HubError.TheVariants.{Memory}
use Rattle.relay_theorem.specs.History.{Story}
use Rattle.relay_theorem.specs.Laws.{IsSession}
use Rattle.relay_theorem.specs.Logged.{IsLogged}

-- whether the call failed for want of memory
abbrev pub is_out_of_memory : Reply → Bool
is_out_of_memory (Refused Memory) = true
is_out_of_memory reply = false

-- ---- a session's own calls

-- One of a session's own calls: a feed or a resize of the program's screen, its attach, its request for a frame, a pump
-- of it to a scripted writer, and its detach.
pub data Own : Type 0 where
  Acts : Act → Own
  Comes : Own
  Asks : Own
  Pumped : List Take → Own
  Leaves : Own

-- the feed or resize of the program's screen by a call with this reply, if it is one
abbrev pub acts_of : Call → Reply → List Act
acts_of (Feed bytes) Done = Fed bytes ∷ []
acts_of (Resize rows cols) Done = Resized rows cols ∷ []
acts_of call reply = []

-- the own call, of the session that lives at a key, that this call is, if it is one
abbrev pub own_at : ℕ → Call → Reply → Option Own
own_at key (Feed bytes) Done = Some (Acts (Fed bytes))
own_at key (Resize rows cols) Done = Some (Acts (Resized rows cols))
own_at key (Detach other) Done = if other == key then Some Leaves else None
own_at key (Frame other) reply = if other == key then Some Asks else None
own_at key (Pump other takes) reply = if other == key then Some (Pumped takes) else None
own_at key call reply = None

-- a session ends at its detach, and at a resize
abbrev pub ends : Own → Bool
ends (Acts (Resized rows cols)) = true
ends Leaves = true
ends own = false

-- an own call, if there is one, and the later ones unless it ends the session
abbrev pub own_then : Option Own → List Own → List Own
own_then None later = later
own_then (Some own) later = if ends own then own ∷ [] else own ∷ later

-- the own calls of the session that lives at a key, from here to its end
abbrev pub own_of : ℕ → List Call → List Reply → List Own
own_of key (call ∷ calls) (reply ∷ replies) = own_then (own_at key call reply) (own_of key calls replies)
own_of key calls replies = []

-- an own call as a list; empty if there is no call
abbrev pub own_list : Option Own → List Own
own_list None = []
own_list (Some own) = own ∷ []

-- at this key are these own calls, and the other keys are unchanged
abbrev pub own_put : (ℕ → List Own) → ℕ → List Own → ℕ → List Own
own_put owns key own other = if other == key then own else owns other

-- The own calls of the n-th session that begins by these calls. Before them the session that lives at each key had
-- these own calls (`owns`), and the screen these feeds and resizes (`acts`). An attach's session has the feeds and
-- resizes before it, and then its attach. A fork's session has the own calls of the one that was forked, and then a
-- pump that takes all the bytes that waited then.
abbrev pub own_since : (ℕ → List Own) → List Own → ℕ → List Call → List Reply → List Own
own_since owns acts n (Attach ∷ calls) (Attached key ∷ replies) =
    if n == 0 then (acts ++ Comes ∷ []) ++ own_of key calls replies
    else own_since (own_put owns key (acts ++ Comes ∷ [])) acts (n - 1) calls replies
own_since owns acts n (Fork old ∷ calls) (Attached key ∷ replies) =
    if n == 0 then (owns old ++ Pumped [] ∷ []) ++ own_of key calls replies
    else own_since (own_put owns key (owns old ++ Pumped [] ∷ [])) acts (n - 1) calls replies
own_since owns acts n (call ∷ calls) (reply ∷ replies) =
    own_since (λ key. owns key ++ own_list (own_at key call reply)) (acts ++ map Acts (acts_of call reply)) n calls
    replies
own_since owns acts n calls replies = []

-- the own calls of the n-th session of a new hub, to its end
abbrev pub own_calls : ℕ → List Call → List Reply → List Own
own_calls n calls replies = own_since (λ key. []) [] n calls replies

-- the call on a hub that an own call is, for a session at this key
abbrev pub alone : ℕ → Own → Call
alone key (Acts (Fed bytes)) = Feed bytes
alone key (Acts (Resized rows cols)) = Resize rows cols
alone key Comes = Attach
alone key Asks = Frame key
alone key (Pumped takes) = Pump key takes
alone key Leaves = Detach key

-- ---- laws

-- Two sessions are alike: they have the same size, the same bytes were pumped to them, and both have ended or both
-- not. While they haven't ended, the same bytes wait for their clients after the same last frame.
pub record AreAlike (s z : SessionView) (these those : ℕ → Option ClientState) : Type 0 where
  pub rows : s.rows ≡ z.rows
  pub cols : s.cols ≡ z.cols
  pub pumped : s.pumped ≡ z.pumped
  pub ended : s.ended ≡ z.ended
  pub clients : s.ended ≡ false → these s.client ≡ those z.client

-- Sessions of two runs with the same own calls are alike, and are answered the same, whatever the other calls were.
abbrev pub SessionsAreIsolated : Type 0
SessionsAreIsolated = (rows cols : ℕ) (calls others : List Call) (replies answers : List Reply) (n m : ℕ) (t u : Story)
    → (s : IsSession rows cols calls replies n t) → (z : IsSession rows cols others answers m u)
    → list_any is_out_of_memory replies ≡ false → list_any is_out_of_memory answers ≡ false
    → own_calls n calls replies ≡ own_calls m others answers
    → AreAlike t.session u.session (clients_in s.hub) (clients_in z.hub) × (t.entries ≡ u.entries)

-- A session of a new hub that gets only these own calls.
pub record IsIsolated (rows cols key : ℕ) (own : List Own) : Type 0 where
  pub replies : List Reply
  pub story : Story
  pub session : IsSession rows cols (map (alone key) own) replies 0 story
  pub fed : list_any is_out_of_memory replies ≡ false
  pub same : own_calls 0 (map (alone key) own) replies ≡ own

-- each session's own calls can be made on a new hub without the others, at any key
abbrev pub EachSessionIsIsolated : Type 0
EachSessionIsIsolated = (rows cols : ℕ) (calls : List Call) (replies : List Reply) (n : ℕ) (t : Story) (key : ℕ)
    → IsSession rows cols calls replies n t → list_any is_out_of_memory replies ≡ false
    → IsIsolated rows cols key (own_calls n calls replies)

-- The own calls are made alone, and get any replies. If the attach gets the key and no call fails for want of memory,
-- the one session is like the first, gets the same answers, and has these own calls.
abbrev pub EachLoneSessionIsAlike : Type 0
EachLoneSessionIsAlike = (rows cols : ℕ) (calls : List Call) (replies answers : List Reply) (n : ℕ) (t u : Story)
    (key : ℕ) → (s : IsSession rows cols calls replies n t)
    → (z : IsSession rows cols (map (alone key) (own_calls n calls replies)) answers 0 u)
    → list_any is_out_of_memory replies ≡ false → list_any is_out_of_memory answers ≡ false → u.session.client ≡ key
    → AreAlike t.session u.session (clients_in s.hub) (clients_in z.hub) × (t.entries ≡ u.entries)
    × (own_calls 0 (map (alone key) (own_calls n calls replies)) answers ≡ own_calls n calls replies)

-- sessions of two logs with the same own calls are alike
abbrev pub LoggedSessionsAreIsolated : Type 0
LoggedSessionsAreIsolated = (rows cols : ℕ) (calls others : List Call) (l k : LogView) (n m : ℕ) (s z : SessionView)
    → (a : IsLogged rows cols calls l n s) → (b : IsLogged rows cols others k m z)
    → list_any is_out_of_memory l.replies ≡ false → list_any is_out_of_memory k.replies ≡ false
    → own_calls n calls l.replies ≡ own_calls m others k.replies
    → AreAlike s z (clients_in a.after) (clients_in b.after)

-- a session of a log is like the one in a log of only its own calls
abbrev pub EachLoggedLoneSessionIsAlike : Type 0
EachLoggedLoneSessionIsAlike = (rows cols : ℕ) (calls : List Call) (l k : LogView) (n : ℕ) (s z : SessionView) (key : ℕ)
    → (a : IsLogged rows cols calls l n s)
    → (b : IsLogged rows cols (map (alone key) (own_calls n calls l.replies)) k 0 z)
    → list_any is_out_of_memory l.replies ≡ false → list_any is_out_of_memory k.replies ≡ false → z.client ≡ key
    → AreAlike s z (clients_in a.after) (clients_in b.after)
