-- The history of a hub and its clients, by the calls and their replies.
use Rattle.std.specs.Prelude.{◌≡◌, ℕ, Bool, true, false, List, [], ◌∷◌, ◌++◌, map, Option, Some, None, if◌then◌else◌}
use Rattle.terminal_model.specs.Term.{Size}
use Rattle.screen_model.specs.Made.{Act, bytes_fed, events_added, made}
use Rattle.vt100.specs.Memory.{some_may_allocate}
use Rattle.termrelay.specs.Frame.{frame_text}
use Rattle.termrelay.specs.Answers.{ClientState, is_frame}
use Rattle.termrelay.specs.Hub.{Telling, HubState, size_in, shown_in, clients_in, no_clients}
use Rattle.termrelay.specs.declared.answer.Answer.{Answer}
use Rattle.termrelay.specs.declared.runs.call.Reply.{Reply}
use Rattle.termrelay.specs.declared.runs.call.Reply.TheVariants.{Done, Attached, Answered}
use Rattle.termrelay.specs.Calls.{Call, Resize, Attach, Detach, Frame, Pump, Fork, RunsBeside}
use Rattle.termrelay.specs.Log.{SessionView, is_of, change_last, last_that, begun, ended, grown, branched, bytes_owed}
use Rattle.termrelay.specs.Log.{bytes_taken}

-- ---- hubs

-- a hub's first size, what was fed and resized since, and whether it has failed
pub record Past : Type 0 where
  pub rows : ℕ
  pub cols : ℕ
  pub acts : List Act
  pub failed : Bool

-- a hub described by its history: its past, and the client at each key
abbrev pub as_reported : Telling
as_reported = record {
  Parser = Past;
  screen = λ p. record { state = made p.rows p.cols 0 p.acts; failed = p.failed };
  goes = λ p act q. q ≡ record p { acts = p.acts ++ act ∷ [] };
  fails = λ p bytes q.
      (some_may_allocate (events_added (bytes_fed p.acts) bytes) (made p.rows p.cols 0 p.acts) ≡ true)
      × (q ≡ record p { failed = true });
  Clients = ℕ → Option ClientState;
  client = λ clients. clients;
}

-- a new hub of this size
abbrev pub fresh : ℕ → ℕ → HubState as_reported
fresh rows cols = record {
  parser = record { rows = rows; cols = cols; acts = []; failed = false };
  clients = no_clients;
}

-- ---- sessions

-- an answer to a client's request for a frame: all feeds and resizes before it, and the frame's text (empty without a
-- frame)
pub record Entry : Type 0 where
  pub moment : List Act
  pub answer : Answer
  pub text : List ℕ

-- a session, with the answers to its requests for frames
pub record Story : Type 0 where
  pub session : SessionView
  pub entries : List Entry

abbrev pub size_of_session : SessionView → Size
size_of_session s = record { rows = s.rows; cols = s.cols }

abbrev pub size_of_story : Story → Size
size_of_story t = size_of_session t.session

-- whether the session is of this key, and hasn't ended
abbrev pub is_on : ℕ → Story → Bool
is_on key t = is_of key t.session

-- the story with its session changed by f
abbrev pub with_session : (SessionView → SessionView) → Story → Story
with_session f t = record t { session = f t.session }

abbrev pub with_entries : List Entry → Story → Story
with_entries es t = record t { entries = t.entries ++ es }

-- the entry for an answer to the client at a key, if there is one
abbrev pub entries_of : HubState as_reported → Option ClientState → Answer → List Entry
entries_of h None answer = []
entries_of h (Some c) answer = record {
  moment = h.parser.acts;
  answer = answer;
  text = if is_frame answer then frame_text (size_in h) c.base (shown_in h) else [];
} ∷ []

-- The stories after a call on a hub h that gets this reply. Their sessions change as those of a log. An answer is added
-- to the last story of its key whose session hasn't ended. A fork's story has the answers of the one that it was forked
-- from.
abbrev pub stories_after : HubState as_reported → Call → Reply → List Story → List Story
stories_after h (Resize rows cols) Done ts = map (with_session ended) ts
stories_after h Attach (Attached key) ts = ts ++ record { session = begun h key; entries = [] } ∷ []
stories_after h (Detach key) Done ts = change_last (is_on key) (with_session ended) ts
stories_after h (Frame key) (Answered answer) ts =
    change_last (is_on key) (with_entries (entries_of h (clients_in h key) answer)) ts
stories_after h (Pump key takes) reply ts =
    change_last (is_on key) (with_session (grown (bytes_taken takes (clients_in h key)))) ts
stories_after h (Fork key) (Attached new) ts =
    ts ++ map (with_session (branched new (bytes_owed (clients_in h key)))) (last_that (is_on key) ts)
stories_after h call reply ts = ts

-- ---- runs

-- Calls, one after another, take a hub h and its stories to another hub and its stories. All their numbers fit the
-- code's types.
abbrev pub RunsReported : HubState as_reported → List Story → List Call → List Reply → HubState as_reported → List Story
    → Type 0
RunsReported = RunsBeside stories_after
