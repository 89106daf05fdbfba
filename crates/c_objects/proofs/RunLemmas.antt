-- A call from C is one call of the library, or no call if nothing changes.
use Rattle.std.proofs.Common.{◌≡◌, ◌≢◌, ◌⊎◌, ℕ, zero, suc, ◌+◌, ◌<◌, ◌≤◌, ℤ, pos, negsuc, List, [], ◌∷◌}
use Rattle.std.proofs.Common.{length, drop, min, Result, Ok, Err, Option, Some, None}
use Rattle.std.proofs.Common.{inl, inr, refl, sym, ap, subst, arith}
use Rattle.std.proofs.lemmas.Bool.Decides.{nat_tests}
use Rattle.std.specs.declared.io.Error.{Error}
use Rattle.screen_model.specs.Holds.{IsSide}
use Rattle.byte_streams.specs.Pump.{Pumps}
use Rattle.termrelay.specs.Answers.{ClientState}
use Rattle.termrelay.specs.Hub as hub
use Rattle.termrelay.specs.Hub.{HubState, as_kept, clients_in, pump_answer, Puts}
use Rattle.termrelay.specs.Calls as call
use Rattle.termrelay.specs.Calls.{Call, WritesAsReported, taken_by, IsCall, Serves, done, replied}
use Rattle.termrelay.specs.Log as log
use Rattle.termrelay.specs.Log.{SessionView, is_of, RunsLogged}
use Rattle.termrelay.specs.declared.runs.call.Take.{Take}
use Rattle.termrelay.specs.declared.runs.call.Take.TheVariants.{Bytes, Fault}
use Rattle.termrelay.specs.declared.runs.call.Reply.{Reply}
use Rattle.termrelay.specs.declared.runs.call.Reply.TheVariants.{Attached as WasAttached, Answered, Refused}
use Rattle.termrelay.specs.declared.error.HubError.{HubError}
use Rattle.termrelay.specs.declared.error.HubError.TheVariants.{Memory, Failed, UnknownClient, Write}
use Rattle.c_objects.specs.Codes.{IsRefusal, ok, unknown_client, not_owed, code_of}
use Rattle.c_objects.specs.Hubs.{Attached, Sends}
use Rattle.c_objects.specs.Runs.{FromC, Feed, Resize, Attach, Detach, Frame, Sent, IsFromC, Does, sessions_after}
use Rattle.c_objects.specs.Runs.{IsCallOf, AreCallsOf, none, asks, refuses, EachRunFromCIsLogged}

-- The hub h and the sessions ss become g and ts by the library call that corresponds to a call from C. If that was
-- refused there is no such call.
abbrev Steps : FromC → ℤ → HubState as_kept → List SessionView → HubState as_kept → List SessionView → Type 0
Steps from code h ss g ts =
    ((g ≡ h) × (ts ≡ ss) × IsRefusal code)
    ⊎ ((c : Call) × (reply : Reply) × IsCall c × Serves h c reply g × (ts ≡ log.sessions_after h c reply ss)
    × IsCallOf from code c reply)

-- ---- calls that have a reply

feed-same : (h : HubState as_kept) (bytes : List ℕ) (code : ℤ) (ss : List SessionView)
    → sessions_after h (Feed bytes) code ss ≡ ss
feed-same h bytes (pos n) ss = refl
feed-same h bytes (negsuc n) ss = refl

frame-same : (h : HubState as_kept) (key : ℕ) (code : ℤ) (ss : List SessionView)
    → sessions_after h (Frame key) code ss ≡ ss
frame-same h key (pos n) ss = refl
frame-same h key (negsuc n) ss = refl

resized : (h g : HubState as_kept) (rows cols : ℕ) (ss : List SessionView) (answer : Result (Unit {0}) HubError)
    → IsSide rows × IsSide cols → hub.Resizes h rows cols answer g
    → Steps (Resize rows cols) (code_of answer) h ss g (sessions_after h (Resize rows cols) (code_of answer) ss)
resized h g rows cols ss (Ok tt) is did =
    inr (call.Resize rows cols, done (Ok tt), is, (Ok tt, did, refl), refl, (refl, (Ok tt, refl, refl)))
resized h g rows cols ss (Err Memory) is did = inr (
  call.Resize rows cols,
  done (Err Memory),
  is,
  (Err Memory, did, refl),
  refl,
  (refl, (Err Memory, refl, refl)),
)
resized h g rows cols ss (Err Failed) is did = inr (
  call.Resize rows cols,
  done (Err Failed),
  is,
  (Err Failed, did, refl),
  refl,
  (refl, (Err Failed, refl, refl)),
)
resized h g rows cols ss (Err UnknownClient) is did = absurd did
resized h g rows cols ss (Err (Write e)) is did = absurd did

attached : (h g : HubState as_kept) (old new : ℕ) (code : ℤ) (ss : List SessionView) (answer : Result ℕ HubError)
    → hub.Attaches h answer g → Attached answer old new code
    → Steps (Attach old new) code h ss g (sessions_after h (Attach old new) code ss)
attached h g old new code ss (Ok key) did (code_is, is) = rw (code_is, is) (inr (
  call.Attach,
  WasAttached key,
  tt,
  (Ok key, did, refl),
  refl,
  (refl, Ok key, (refl, refl), refl),
))
attached h g old new code ss (Err Memory) did (code_is, is) = rw code_is (inr (
  call.Attach,
  Refused Memory,
  tt,
  (Err Memory, did, refl),
  refl,
  (refl, Err Memory, (refl, is), refl),
))
attached h g old new code ss (Err Failed) did (code_is, is) = rw code_is (inr (
  call.Attach,
  Refused Failed,
  tt,
  (Err Failed, did, refl),
  refl,
  (refl, Err Failed, (refl, is), refl),
))
attached h g old new code ss (Err UnknownClient) did a = absurd did
attached h g old new code ss (Err (Write e)) did a = absurd did

detached : (h g : HubState as_kept) (key : ℕ) (ss : List SessionView) (answer : Result (Unit {0}) HubError)
    → hub.Detaches h key answer g
    → Steps (Detach key) (code_of answer) h ss g (sessions_after h (Detach key) (code_of answer) ss)
detached h g key ss (Ok tt) did =
    inr (call.Detach key, done (Ok tt), tt, (Ok tt, did, refl), refl, (refl, (Ok tt, refl, refl)))
detached h g key ss (Err Memory) did =
    inr (call.Detach key, done (Err Memory), tt, (Err Memory, did, refl), refl, (refl, (Err Memory, refl, refl)))
detached h g key ss (Err Failed) did =
    inr (call.Detach key, done (Err Failed), tt, (Err Failed, did, refl), refl, (refl, (Err Failed, refl, refl)))
detached h g key ss (Err UnknownClient) did =
    inr (
      call.Detach key,
      done (Err UnknownClient),
      tt,
      (Err UnknownClient, did, refl),
      refl,
      (refl, (Err UnknownClient, refl, refl)),
    )
detached h g key ss (Err (Write e)) did =
    inr (
      call.Detach key,
      done (Err (Write e)),
      tt,
      (Err (Write e), did, refl),
      refl,
      (refl, (Err (Write e), refl, refl)),
    )

-- ---- bytes that were sent, as a pump

-- a writer that takes the first `count` of these bytes, and no others
record Taking (owed : List ℕ) (count : ℕ) : Type 0 where
  takes : List Take
  answer : Result (Unit {0}) Error
  rest : List Take
  pumps : Pumps WritesAsReported takes owed answer count rest
  taken : taken_by takes (length owed) ≡ count

some-bytes : (x : ℕ) (xs : List ℕ) → x ∷ xs ≢ []
some-bytes x xs = λ is. omega (arith, ap length is)

faults : (e : Error) (x : ℕ) (xs : List ℕ) → Pumps WritesAsReported (Fault ∷ []) (x ∷ xs) (Err e) 0 []
faults e x xs = Pumps.fault (some-bytes x xs) ((e, refl), refl)

takes-none : Error → (owed : List ℕ) → Taking owed 0
unfolding taken_by
takes-none e [] = record { takes = []; answer = Ok tt; rest = []; pumps = Pumps.all; taken = refl }
takes-none e (x ∷ xs) =
    record { takes = Fault ∷ []; answer = Err e; rest = []; pumps = faults e x xs; taken = refl }

-- the result of a pump to a writer that takes no further bytes
left-answer : Error → List ℕ → Result (Unit {0}) Error
left-answer e [] = Ok tt
left-answer e (x ∷ xs) = Err e

left-takes : List ℕ → List Take
left-takes [] = Fault ∷ []
left-takes (x ∷ xs) = []

left : (e : Error) (owed : List ℕ) → Pumps WritesAsReported (Fault ∷ []) owed (left-answer e owed) 0 (left-takes owed)
unfolding left-answer left-takes
left e [] = Pumps.all
left e (x ∷ xs) = faults e x xs

taken-some : (n count : ℕ) → 0 < count → count ≤ n → taken_by (Bytes count ∷ Fault ∷ []) n ≡ count
unfolding taken_by
taken-some n count some fits = grind (arith, nat_tests)

takes-some : Error → (owed : List ℕ) (count : ℕ) → 0 < count → count ≤ length owed → owed ≢ [] → Taking owed count
takes-some e owed count some fits ne =
    let whole : min count (length owed) ≡ count = omega (arith, fits) in
    let end : min count (length owed) + 0 ≡ count = omega (arith, fits) in
    record {
      takes = Bytes count ∷ Fault ∷ [];
      answer = left-answer e (drop count owed);
      rest = left-takes (drop count owed);
      pumps = subst (λ n. Pumps WritesAsReported (Bytes count ∷ Fault ∷ []) owed (left-answer e (drop count owed)) n
          (left-takes (drop count owed))) end
          (Pumps.some (Fault ∷ []) count 0 ne some (ap Ok (sym whole), refl) (left e (drop count owed)));
      taken = taken-some (length owed) count some fits;
    }

taking : Error → (owed : List ℕ) (count : ℕ) → count ≤ length owed → Taking owed count
taking e owed zero fits = takes-none e owed
taking e [] (suc n) fits = absurd (omega (arith, fits))
taking e (x ∷ xs) (suc n) fits = takes-some e (x ∷ xs) (suc n) (omega arith) fits (some-bytes x xs)

sent-to : (e : Error) (h g : HubState as_kept) (key count : ℕ) (ss : List SessionView) (c : ClientState)
    → clients_in h key ≡ Some c → count ≤ length c.owed → Puts h key (Some (record c { owed = drop count c.owed })) g
    → Steps (Sent key count) ok h ss g (sessions_after h (Sent key count) ok ss)
sent-to e h g key count ss c is fits puts =
    let t : Taking c.owed count = taking e c.owed count fits in
    let answer : Result (Unit {0}) HubError = pump_answer t.answer in
    inr (
      call.Pump key t.takes,
      done answer,
      tt,
      (answer, t.rest, rw is (t.answer, count, t.pumps, refl, puts), refl),
      rw (is, t.taken) refl,
      (t.takes, refl, refl),
    )

sent : (e : Error) (h g : HubState as_kept) (key count : ℕ) (code : ℤ) (ss : List SessionView)
    (slot : Option ClientState)
    → clients_in h key ≡ slot → Sends key count h code g
    → Steps (Sent key count) code h ss g (sessions_after h (Sent key count) code ss)
sent e h g key count code ss None is did =
    let missing : (code ≡ unknown_client) × (g ≡ h) = rw is at did in
    rw missing.0 (inl (missing.1, refl, tt))
sent e h g key count code ss (Some c) is did =
    let some : ((count ≤ length c.owed) × (code ≡ ok) × Puts h key (Some (record c { owed = drop count c.owed })) g)
    ⊎ ((length c.owed < count) × (code ≡ not_owed) × (g ≡ h)) = rw is at did in
    elim some [
      | inl (fits, code_is, puts) ↦ rw code_is (sent-to e h g key count ss c is fits puts)
      | inr (more, code_is, same) ↦ rw code_is (inl (same, refl, tt))
    ]

-- ---- one call, and a run

step : (e : Error) (h g : HubState as_kept) (c : FromC) (code : ℤ) (ss : List SessionView) → IsFromC c → Does c h code g
    → Steps c code h ss g (sessions_after h c code ss)
step e h g (Feed bytes) code ss is (answer, did, code_is) = inr (
  call.Feed bytes,
  done answer,
  tt,
  (answer, did, refl),
  feed-same h bytes code ss,
  (refl, (answer, code_is, refl)),
)
step e h g (Resize rows cols) code ss fits (inl (no_cells, code_is, same)) = rw code_is (inl (same, refl, tt))
step e h g (Resize rows cols) code ss fits (inr (some_rows, some_cols, answer, did, code_is)) =
    rw code_is (resized h g rows cols ss answer ((some_rows, fits.0), (some_cols, fits.1)) did)
step e h g (Attach old new) code ss is (answer, did, attach) = attached h g old new code ss answer did attach
step e h g (Detach key) code ss is (answer, did, code_is) = rw code_is (detached h g key ss answer did)
step e h g (Frame key) code ss is did = inr (
  call.Frame key,
  replied Answered did.answer,
  tt,
  (did.answer, did.frames, refl),
  frame-same h key code ss,
  (refl, did.answer, did.code_is, refl),
)
step e h g (Sent key count) code ss is did = sent e h g key count code ss (clients_in h key) refl did

-- calls from C are a run of the library's calls
abbrev IsRun : HubState as_kept → List SessionView → List (FromC × ℤ) → HubState as_kept → List SessionView → Type 0
IsRun h ss made k ts =
    (calls : List Call) × (replies : List Reply) × AreCallsOf made calls replies × RunsLogged h ss calls replies k ts

stepped : (h g k : HubState as_kept) (ss us ts : List SessionView) (c : FromC) (code : ℤ) (made : List (FromC × ℤ))
    → Steps c code h ss g us → IsRun g us made k ts → IsRun h ss ((c, code) ∷ made) k ts
stepped h g k ss us ts c code made (inl (same, kept, refused)) (calls, replies, are, runs) =
    (calls, replies, refuses c code refused are, rw (same, kept) at runs)
stepped h g k ss us ts c code made (inr (x, reply, is, serves, kept, is_of)) (calls, replies, are, runs) =
    (x ∷ calls, reply ∷ replies, asks c code x reply is_of are, (g, is, serves, rw kept at runs))

pub runs-logged : EachRunFromCIsLogged
runs-logged e h k ss ts [] (same, kept) = ([], [], none, (same, kept))
runs-logged e h k ss ts ((c, code) ∷ made) (g, is, did, later) =
    stepped h g k ss (sessions_after h c code ss) ts c code made (step e h g c code ss is did)
    (runs-logged e g k (sessions_after h c code ss) ts made later)
