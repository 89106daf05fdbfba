-- The log of a run of calls: the replies, and the sessions that the attaches began.
use Rattle.std.specs.Prelude.{◌≡◌, ℕ, ◌<◌, ◌==◌, ◌&&◌, Bool, true, false, not, List, [], ◌∷◌, ◌++◌, map, length, take}
use Rattle.std.specs.Prelude.{Option, Some, None, Result, Ok, Err, if◌then◌else◌}
use Rattle.std.specs.List.{list_any}
use Rattle.termrelay.specs.Answers.{ClientState}
use Rattle.termrelay.specs.Hub.{Telling, HubState, as_kept, size_in, clients_in}
use Rattle.termrelay.specs.Calls.{Call, Resize, Attach, Detach, Pump, Fork, taken_by, IsCall, Serves, RunsBeside}
use Rattle.termrelay.specs.declared.runs.call.Take.{Take}
use Rattle.termrelay.specs.declared.runs.call.Reply.{Reply}
use Rattle.termrelay.specs.declared.runs.call.Reply.TheVariants.{Done, Attached}
use Rattle.termrelay.specs.declared.error.HubError.{HubError}
use Rattle.termrelay.specs.declared.error.HubError.TheVariants.{Memory, Failed, UnknownClient, Write}

-- The log of one client: its key, the screen's size at its attach, the bytes pumped to it, and whether it has ended.
-- All frames of the client that it was forked from, up to the fork, count as pumped to a fork.
pub record SessionView : Type 0 where
  pub client : ℕ
  pub rows : ℕ
  pub cols : ℕ
  pub pumped : List ℕ
  pub ended : Bool

-- a log: a reply for each call, and the sessions in the order of their attaches and forks
pub record LogView : Type 0 where
  pub replies : List Reply
  pub sessions : List SessionView

abbrev pub empty_log : LogView
empty_log = record { replies = []; sessions = [] }

-- ---- sessions

-- whether the session is of this key, and hasn't ended
abbrev pub is_of : ℕ → SessionView → Bool
is_of key s = not s.ended && (s.client == key)

-- the list, with the last item that passes the test changed by f
abbrev pub change_last : {A : Type 0} → (A → Bool) → (A → A) → List A → List A
change_last test f [] = []
change_last test f (x ∷ xs) =
    if list_any test xs then x ∷ change_last test f xs
    else if test x then f x ∷ xs
    else x ∷ xs

-- a list of only the last item that passes the test; empty if no item does
abbrev pub last_that : {A : Type 0} → (A → Bool) → List A → List A
last_that test [] = []
last_that test (x ∷ xs) =
    if list_any test xs then last_that test xs
    else if test x then x ∷ []
    else []

-- the last item that passes the test is at this index
pub record IsLast {A : Type 0} (test : A → Bool) (xs : List A) (at : ℕ) : Type 0 where
  pub prefix : List A
  pub last : A
  pub back : List A
  pub parts : xs ≡ prefix ++ last ∷ back
  pub place : length prefix ≡ at
  pub is : test last ≡ true
  pub none : list_any test back ≡ false

-- a session at its attach to a hub h
abbrev pub begun : {way : Telling} → HubState way → ℕ → SessionView
begun h key = record { client = key; rows = (size_in h).rows; cols = (size_in h).cols; pumped = []; ended = false }

-- the session after its end
abbrev pub ended : SessionView → SessionView
ended s = record s { ended = true }

-- the session after these bytes were pumped
abbrev pub grown : List ℕ → SessionView → SessionView
grown bytes s = record s { pumped = s.pumped ++ bytes }

-- the bytes that wait for the client; no bytes if there is no client
abbrev pub bytes_owed : Option ClientState → List ℕ
bytes_owed None = []
bytes_owed (Some c) = c.owed

-- the session of a fork with this key, if its client's session was this one, and these bytes were still pending
abbrev pub branched : ℕ → List ℕ → SessionView → SessionView
branched key owed s = record s { client = key; pumped = s.pumped ++ owed; ended = false }

-- the bytes that a scripted writer takes of those that wait for the client; no bytes if there is no client
abbrev pub bytes_taken : List Take → Option ClientState → List ℕ
bytes_taken takes None = []
bytes_taken takes (Some c) = take (taken_by takes (length c.owed)) c.owed

-- The sessions after a call on a hub h that gets this reply. An attach begins a session. A detach ends the last session
-- of its key that hasn't ended, a pump's bytes are added to that session, and a fork begins one by it. A resize ends
-- all sessions.
abbrev pub sessions_after : {way : Telling} → HubState way → Call → Reply → List SessionView → List SessionView
sessions_after h (Resize rows cols) Done ss = map ended ss
sessions_after h Attach (Attached key) ss = ss ++ begun h key ∷ []
sessions_after h (Detach key) Done ss = change_last (is_of key) ended ss
sessions_after h (Pump key takes) reply ss = change_last (is_of key) (grown (bytes_taken takes (clients_in h key))) ss
sessions_after h (Fork key) (Attached new) ss =
    ss ++ map (branched new (bytes_owed (clients_in h key))) (last_that (is_of key) ss)
sessions_after h call reply ss = ss

-- a call takes the hub h to g, and its log l to m
abbrev pub ServesLogged : HubState as_kept → Call → HubState as_kept → LogView → LogView → Type 0
ServesLogged h call g l m =
    (reply : Reply) × IsCall call × Serves h call reply g × (m.replies ≡ l.replies ++ reply ∷ [])
    × (m.sessions ≡ sessions_after h call reply l.sessions)

-- ---- runs

-- Calls, one after another, take a hub h and its sessions ss to k and ts. All their numbers fit the code's types.
abbrev pub RunsLogged : HubState as_kept → List SessionView → List Call → List Reply → HubState as_kept
    → List SessionView → Type 0
RunsLogged = RunsBeside sessions_after

-- all the calls were made: the log has their replies in addition, and its sessions are those after the calls
abbrev pub MadeAll : HubState as_kept → LogView → List Call → HubState as_kept → LogView → Type 0
MadeAll h l calls g m =
    (replies : List Reply) × (m.replies ≡ l.replies ++ replies) × RunsLogged h l.sessions calls replies g m.sessions

-- A run of calls takes a hub h to g, and its log l to m. All calls were made; or an allocation for the log failed, and
-- the calls before that one were made.
abbrev pub RunsCalls : HubState as_kept → LogView → List Call → Result (Unit {0}) HubError → HubState as_kept → LogView
    → Type 0
RunsCalls h l calls (Ok u) g m = MadeAll h l calls g m
RunsCalls h l calls (Err Memory) g m = (n : ℕ) × (n < length calls) × MadeAll h l (take n calls) g m
RunsCalls h l calls (Err Failed) g m = ⊥
RunsCalls h l calls (Err UnknownClient) g m = ⊥
RunsCalls h l calls (Err (Write e)) g m = ⊥
