-- The calls on a hub and the logs of runs, as histories.
use Rattle.std.specs.Prelude.{◌≡◌, ℕ, ◌==◌, Bool, true, false, List, [], map, length, drop, Some, Result}
use Rattle.std.specs.declared.io.Error.{Error}
use Rattle.vt100.specs.Parsing.{ParserIsAfter}
use Rattle.termrelay.specs.Answers.{ClientState}
use Rattle.termrelay.specs.Hub.{Telling, HubState, as_kept, is_failed, clients_in, IsNewHub, PumpsClient}
use Rattle.termrelay.specs.Calls.{Call, Pump, taken_by, done, Serves, Runs}
use Rattle.termrelay.specs.Log.{SessionView, RunsLogged}
use Rattle.termrelay.specs.declared.runs.call.Take.{Take}
use Rattle.termrelay.specs.declared.runs.call.Reply.{Reply}
use Rattle.termrelay.specs.declared.runs.call.Reply.TheVariants.{Done, Refused}
use Rattle.termrelay.specs.declared.error.HubError.{HubError}
use Rattle.termrelay.specs.declared.error.HubError.TheVariants.{Write}
use Rattle.relay_theorem.specs.History.{Story, as_reported, fresh, RunsReported}

-- ---- pumps

-- the reply to a pump that has taken all pending bytes, and to one that hasn't
abbrev pub IsPumpReply : Bool → Reply → Type 0
IsPumpReply true reply = reply ≡ Done
IsPumpReply false reply = (e : Error) × (reply ≡ Refused (Write e))

-- A pump to a scripted writer takes the bytes that the script says, and the others stay pending. Its reply says
-- whether all were taken. This holds for any way to describe a hub.
abbrev pub EachPumpTakesAsReported : Telling → Type 0
EachPumpTakesAsReported way = (h g : HubState way) (key : ℕ) (takes : List Take) (reply : Reply) (c : ClientState)
    → clients_in h key ≡ Some c → Serves h (Pump key takes) reply g
    → IsPumpReply (taken_by takes (length c.owed) == length c.owed) reply
    × (clients_in g key ≡ Some (record c { owed = drop (taken_by takes (length c.owed)) c.owed }))

-- For each pump there is a scripted writer to which the same bytes are pumped. So each pump is a call of a run.
abbrev pub EachPumpIsServed : {S : Type 0} → (S → List ℕ → Result ℕ Error → S → Type 0) → Type 0
EachPumpIsServed {S} step = (h g : HubState as_kept) (key : ℕ) (s t : S) (result : Result (Unit {0}) HubError)
    → PumpsClient step h key s result t g → (takes : List Take) × Serves h (Pump key takes) (done result) g

-- ---- hubs and histories

-- A hub h is as its history u says. Both have failed, or the parser of h is in the state after all feeds and resizes.
-- The same client is at each key.
pub record Matches (h : HubState as_kept) (u : HubState as_reported) : Type 0 where
  pub failed : is_failed h ≡ is_failed u
  pub parser : is_failed u ≡ false → ParserIsAfter h.parser u.parser.rows u.parser.cols 0 u.parser.acts
  pub clients : clients_in h ≡ clients_in u

-- any calls on a new hub are a history with the same replies
abbrev pub EachRunHasAHistory : Type 0
EachRunHasAHistory = (rows cols : ℕ) (calls : List Call) (replies : List Reply) (h g : HubState as_kept)
    → IsNewHub rows cols h → Runs h calls replies g
    → (u : HubState as_reported) × Runs (fresh rows cols) calls replies u × Matches g u

-- the calls and their replies determine the history: the hub after them, and the list of stories
abbrev pub EachHistoryIsOne : Type 0
EachHistoryIsOne = (h g k : HubState as_reported) (ts us vs : List Story) (calls : List Call) (replies : List Reply)
    → RunsReported h ts calls replies g us → RunsReported h ts calls replies k vs → (g ≡ k) × (us ≡ vs)

-- The calls of a run on a new hub with an empty log are a history. The log's sessions are those of its stories.
abbrev pub EachLogHasAHistory : Type 0
EachLogHasAHistory = (rows cols : ℕ) (calls : List Call) (replies : List Reply) (h g : HubState as_kept)
    (ss : List SessionView) → IsNewHub rows cols h → RunsLogged h [] calls replies g ss
    → (u : HubState as_reported) × (ts : List Story) × RunsReported (fresh rows cols) [] calls replies u ts
    × Matches g u × (map (λ t. t.session) ts ≡ ss)
