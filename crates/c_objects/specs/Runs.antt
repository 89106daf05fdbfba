-- Calls from C on one hub. They are a run of the library's calls.
use Rattle.std.specs.Prelude.{◌≡◌, ℕ, ◌<◌, ◌^◌, ℤ, pos, negsuc, List, [], ◌∷◌, ◌++◌, map, take}
use Rattle.std.specs.Prelude.{Option, Some, None, Result}
use Rattle.std.specs.declared.io.Error.{Error}
use Rattle.termrelay.specs.Answers.{ClientState}
use Rattle.termrelay.specs.Calls as asked
use Rattle.termrelay.specs.Calls.{Call, done, replied}
use Rattle.termrelay.specs.Hub.{HubState, as_kept, clients_in}
use Rattle.termrelay.specs.Log.{SessionView, begun, ended, grown, change_last, is_of, RunsLogged}
use Rattle.termrelay.specs.declared.answer.Answer.{Answer}
use Rattle.termrelay.specs.declared.runs.call.Reply.{Reply}
use Rattle.termrelay.specs.declared.runs.call.Reply.TheVariants.{Attached as WasAttached, Answered}
use Rattle.termrelay.specs.declared.runs.call.Take.{Take}
use Rattle.termrelay.specs.declared.error.HubError.{HubError}
use Rattle.c_objects.specs.Codes.{IsRefusal, ok, code_of, frame_code}
use Rattle.c_objects.specs.Hubs.{Feeds, Resizes, Attached, Attaches, Detaches, Frames, Sends}

-- a call from C, by its values
pub data FromC : Type 0 where
  Feed : List ℕ → FromC
  Resize : (rows cols : ℕ) → FromC
  -- what was in the caller's memory for the key before, and what is there afterwards
  Attach : (old new : ℕ) → FromC
  -- the next three are about the client of a key
  Detach : ℕ → FromC
  Frame : ℕ → FromC
  -- the first `count` pending bytes were sent
  Sent : (key count : ℕ) → FromC

-- its numbers of rows and columns fit in 16 bits
abbrev pub IsFromC : FromC → Type 0
IsFromC (Resize rows cols) = (rows < 2 ^ 16) × (cols < 2 ^ 16)
IsFromC call = Unit {0}

-- what the call does to a hub, and the number that it returns
abbrev pub Does : FromC → HubState as_kept → ℤ → HubState as_kept → Type 0
Does (Feed bytes) h code g = Feeds bytes h code g
Does (Resize rows cols) h code g = Resizes rows cols h code g
Does (Attach old new) h code g = Attaches old new h code g
Does (Detach key) h code g = Detaches key h code g
Does (Frame key) h code g = Frames key h code g
Does (Sent key count) h code g = Sends key count h code g

-- ---- what a client was handed

-- the first n bytes that wait for the client with this key, if there is one
abbrev pub prefix_owed : ℕ → Option ClientState → List ℕ
prefix_owed n None = []
prefix_owed n (Some c) = take n c.owed

-- The sessions after a call from C that succeeded on a hub h. An attach begins one. A detach ends the last open one of
-- its key, and a resize ends all. Sent bytes go to the last open one of their key.
abbrev pub sessions_done : HubState as_kept → FromC → List SessionView → List SessionView
sessions_done h (Feed bytes) ss = ss
sessions_done h (Resize rows cols) ss = map ended ss
sessions_done h (Attach old new) ss = ss ++ begun h new ∷ []
sessions_done h (Detach key) ss = change_last (is_of key) ended ss
sessions_done h (Frame key) ss = ss
sessions_done h (Sent key n) ss = change_last (is_of key) (grown (prefix_owed n (clients_in h key))) ss

-- the sessions after a call from C that may have been refused
abbrev pub sessions_after : HubState as_kept → FromC → ℤ → List SessionView → List SessionView
sessions_after h call (pos n) ss = sessions_done h call ss
sessions_after h call (negsuc n) ss = ss

-- calls from C, one after another, with the numbers that they return: they take the hub h and the sessions ss to k and
-- ts
abbrev pub RunsFromC : HubState as_kept → List SessionView → List (FromC × ℤ) → HubState as_kept → List SessionView
    → Type 0
RunsFromC h ss [] k ts = (k ≡ h) × (ts ≡ ss)
RunsFromC h ss ((call, code) ∷ calls) k ts =
    (g : HubState as_kept) × IsFromC call × Does call h code g
    × RunsFromC g (sessions_after h call code ss) calls k ts

-- ---- the library's calls that correspond to these

-- the reply to a call that C gets this number for
abbrev pub IsDone : ℤ → Reply → Type 0
IsDone code reply = (answer : Result (Unit {0}) HubError) × (code ≡ code_of answer) × (reply ≡ done answer)

-- The library's call that corresponds to a call from C, its reply, and the number that C gets for it. Sent bytes are
-- a pump to a writer that takes that many bytes, and then may fail.
abbrev pub IsCallOf : FromC → ℤ → Call → Reply → Type 0
IsCallOf (Feed bytes) code call reply = (call ≡ asked.Feed bytes) × IsDone code reply
IsCallOf (Resize rows cols) code call reply = (call ≡ asked.Resize rows cols) × IsDone code reply
IsCallOf (Attach old new) code call reply =
    (call ≡ asked.Attach) × (answer : Result ℕ HubError) × Attached answer old new code
    × (reply ≡ replied WasAttached answer)
IsCallOf (Detach key) code call reply = (call ≡ asked.Detach key) × IsDone code reply
IsCallOf (Frame key) code call reply =
    (call ≡ asked.Frame key) × (answer : Result Answer HubError) × (code ≡ frame_code answer)
    × (reply ≡ replied Answered answer)
IsCallOf (Sent key count) code call reply = (takes : List Take) × (call ≡ asked.Pump key takes) × (code ≡ ok)

-- the library's calls that correspond to calls from C, in order, with their replies
pub data AreCallsOf : List (FromC × ℤ) → List Call → List Reply → Type 0 where
  none : AreCallsOf [] [] []
  -- a call of the library
  asks : {made : List (FromC × ℤ)} {calls : List Call} {replies : List Reply} (c : FromC) (code : ℤ) (call : Call)
      (reply : Reply)
      → IsCallOf c code call reply → AreCallsOf made calls replies
      → AreCallsOf ((c, code) ∷ made) (call ∷ calls) (reply ∷ replies)
  -- a refusal to which no call of the library corresponds
  refuses : {made : List (FromC × ℤ)} {calls : List Call} {replies : List Reply} (c : FromC) (code : ℤ)
      → IsRefusal code → AreCallsOf made calls replies → AreCallsOf ((c, code) ∷ made) calls replies

-- Such calls are a run of the library's calls, with the same hub, and with sessions that were handed the same bytes.
-- This holds for every error with which a writer may stop after it has taken some bytes.
abbrev pub EachRunFromCIsLogged : Type 0
EachRunFromCIsLogged = (e : Error) (h k : HubState as_kept) (ss ts : List SessionView) (made : List (FromC × ℤ))
    → RunsFromC h ss made k ts
    → (calls : List Call) × (replies : List Reply) × AreCallsOf made calls replies × RunsLogged h ss calls replies k ts
