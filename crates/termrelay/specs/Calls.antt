-- Calls on a hub, one after another: the reply to each, and the hub after it.
use Rattle.std.specs.Prelude.{◌≡◌, ℕ, ◌+◌, ◌-◌, ◌==◌, nat_le, List, [], ◌∷◌, length, min, Result, Ok, Err}
use Rattle.std.specs.Prelude.{if◌then◌else◌}
use Rattle.std.specs.Option.{option_map}
use Rattle.std.specs.declared.io.Error.{Error}
use Rattle.screen_model.specs.Holds.{IsSide}
use Rattle.termrelay.specs.Hub.{Telling, HubState, Feeds, Resizes, Attaches, Detaches, Frames, PumpsClient}
use Rattle.termrelay.specs.Joins.{Redraws, Forks}
use Rattle.termrelay.specs.declared.answer.Answer.{Answer}
use Rattle.termrelay.specs.declared.error.HubError.{HubError}
use Rattle.termrelay.specs.declared.runs.call.Take.{Take}
use Rattle.termrelay.specs.declared.runs.call.Take.TheVariants.{Bytes, Fault}
use Rattle.termrelay.specs.declared.runs.call.Reply.{Reply}
use Rattle.termrelay.specs.declared.runs.call.Reply.TheVariants.{Done, Attached, Answered, Redrawn, Refused}
use Rattle.termrelay.specs.declared.runs.call.Call.{Call as Given}
use Rattle.termrelay.specs.declared.runs.call.Call.TheVariants as given

-- ---- scripted writers

-- One write of these bytes to a scripted writer: its script, the result of the write, and the rest of the script. After
-- the end of the script a write takes all bytes.
abbrev pub WritesAsReported : List Take → List ℕ → Result ℕ Error → List Take → Type 0
WritesAsReported [] bytes answer rest = (answer ≡ Ok (length bytes)) × (rest ≡ [])
WritesAsReported (Bytes n ∷ takes) bytes answer rest = (answer ≡ Ok (min n (length bytes))) × (rest ≡ takes)
WritesAsReported (Fault ∷ takes) bytes answer rest = ((e : Error) × (answer ≡ Err e)) × (rest ≡ takes)

-- how many of n bytes a scripted writer takes in a pump
unfoldable pub taken_by : List Take → ℕ → ℕ
taken_by [] n = n
taken_by (Fault ∷ takes) n = 0
taken_by (Bytes m ∷ takes) n =
    if m == 0 then 0
    else if nat_le n m then n
    else m + taken_by takes (n - m)

-- ---- calls

-- a call, with numbers and lists for its arguments
pub data Call : Type 0 where
  Feed : List ℕ → Call
  Resize : (rows cols : ℕ) → Call
  Attach : Call
  -- these three are on the client of a key
  Detach : ℕ → Call
  Frame : ℕ → Call
  -- to a scripted writer: the results of its first writes are given, and each later write takes all bytes
  Pump : ℕ → List Take → Call
  -- these two are on the client of a key too
  Fork : ℕ → Call
  Redraw : ℕ → Call

-- the value of a `Call` of the code
abbrev pub call_of : Given → Call
call_of (given.Feed bytes) = Feed bytes.now
call_of (given.Resize rows cols) = Resize rows.value cols.value
call_of given.Attach = Attach
call_of (given.Detach client) = Detach client
call_of (given.Frame client) = Frame client
call_of (given.Pump client takes) = Pump client takes.now
call_of (given.Fork client) = Fork client
call_of (given.Redraw client) = Redraw client

-- the call's numbers fit the code's types
abbrev pub IsCall : Call → Type 0
IsCall (Resize rows cols) = IsSide rows × IsSide cols
IsCall call = Unit {0}

-- ---- replies

abbrev pub replied : {A : Type 0} → (A → Reply) → Result A HubError → Reply
replied reply (Ok x) = reply x
replied reply (Err e) = Refused e

abbrev pub done : Result (Unit {0}) HubError → Reply
done result = replied (λ u. Done) result

-- For each way to describe a hub:
module _ {way : Telling} where
  -- a request for a redraw of the client at a key gets this reply
  abbrev pub IsRedrawn : HubState way → ℕ → Reply → Type 0
  IsRedrawn h key (Redrawn redraw) = Redraws h key (Ok (option_map (λ text. text.items) redraw))
  IsRedrawn h key (Refused e) = Redraws h key (Err e)
  IsRedrawn h key reply = ⊥

  -- a call takes the hub h to g, with this reply
  abbrev pub Serves : HubState way → Call → Reply → HubState way → Type 0
  Serves h (Feed bytes) reply g =
      (result : Result (Unit {0}) HubError) × Feeds h bytes result g × (reply ≡ done result)
  Serves h (Resize rows cols) reply g =
      (result : Result (Unit {0}) HubError) × Resizes h rows cols result g × (reply ≡ done result)
  Serves h Attach reply g = (result : Result ℕ HubError) × Attaches h result g × (reply ≡ replied Attached result)
  Serves h (Detach key) reply g =
      (result : Result (Unit {0}) HubError) × Detaches h key result g × (reply ≡ done result)
  Serves h (Frame key) reply g =
      (result : Result Answer HubError) × Frames h key result g × (reply ≡ replied Answered result)
  Serves h (Pump key takes) reply g =
      (result : Result (Unit {0}) HubError) × (rest : List Take)
      × PumpsClient WritesAsReported h key takes result rest g × (reply ≡ done result)
  Serves h (Fork key) reply g = (result : Result ℕ HubError) × Forks h key result g × (reply ≡ replied Attached result)
  Serves h (Redraw key) reply g = IsRedrawn h key reply × (g ≡ h)

  -- Calls, one after another, take a hub h to k, with these replies. All their numbers fit the code's types.
  abbrev pub Runs : HubState way → List Call → List Reply → HubState way → Type 0
  Runs h [] [] k = k ≡ h
  Runs h (call ∷ calls) (reply ∷ replies) k =
      (g : HubState way) × IsCall call × Serves h call reply g × Runs g calls replies k
  Runs h [] (reply ∷ replies) k = ⊥
  Runs h (call ∷ calls) [] k = ⊥

  -- The same calls also take a value b to c: `after` gives the value after one call on a hub with its reply.
  abbrev pub RunsBeside : {B : Type 0} → (HubState way → Call → Reply → B → B) → HubState way → B → List Call
      → List Reply → HubState way → B → Type 0
  RunsBeside after h b [] [] k c = (k ≡ h) × (c ≡ b)
  RunsBeside after h b (call ∷ calls) (reply ∷ replies) k c =
      (g : HubState way) × IsCall call × Serves h call reply g
      × RunsBeside after g (after h call reply b) calls replies k c
  RunsBeside after h b [] (reply ∷ replies) k c = ⊥
  RunsBeside after h b (call ∷ calls) [] k c = ⊥
