-- The bytes that a scripted writer takes.
use Rattle.std.proofs.Common.{◌≡◌, ◌∙◌, ◌≢◌, ℕ, ◌+◌, ◌-◌, ◌<◌, List, [], ◌∷◌}
use Rattle.std.proofs.Common.{◌++◌, take, drop, length, min, Option, Some, None, Result, Ok, Err, refl, sym, ap}
use Rattle.std.proofs.Common.{arith, length-drop, length-append, take-append-drop, append_assoc}
use Rattle.std.specs.Prelude.{MatchOption}
use Rattle.std.proofs.Math.Seq.{take-append_seam}
use Rattle.std.proofs.lemmas.Bool.{eq-eqb}
use Rattle.std.proofs.lemmas.Bool.Decides.{nat_tests}
use Rattle.std.specs.declared.io.Error.{Error}
use Rattle.byte_streams.specs.Pump.{Pumps, all, nothing, fault, some}
use Rattle.termrelay.specs.Answers.{ClientState}
use Rattle.termrelay.specs.Hub.{Telling, HubState, clients_in, Puts, PumpsFrom}
use Rattle.termrelay.specs.Calls.{WritesAsReported, taken_by, Pump, Serves}
use Rattle.termrelay.specs.Log.{bytes_taken}
use Rattle.termrelay.specs.declared.runs.call.Take.{Take}
use Rattle.termrelay.specs.declared.runs.call.Take.TheVariants.{Bytes, Fault}
use Rattle.termrelay.specs.declared.runs.call.Reply.{Reply}

pub takes-nothing : (takes : List Take) → taken_by takes 0 ≡ 0
unfolding taken_by
takes-nothing [] = refl
takes-nothing (Bytes j ∷ takes) = grind (arith, nat_tests)
takes-nothing (Fault ∷ takes) = refl

pub some-owed : (owed : List ℕ) → owed ≢ [] → 0 < length owed
some-owed [] h = absurd (h refl)
some-owed (x ∷ xs) h = omega arith

pub ok-number : (m n : ℕ) → m ≡ n → (let left : Result ℕ Error = Ok m in left) ≡ Ok n
ok-number m n h = ap (λ k. Ok k) h

pub first-none : (takes rest : List Take) (owed : List ℕ) → owed ≢ [] → WritesAsReported takes owed (Ok 0) rest
    → taken_by takes (length owed) ≡ 0
unfolding taken_by
first-none [] rest owed owes reported = grind arith
first-none (Bytes j ∷ takes) rest owed owes reported = grind (arith, nat_tests, some-owed owed owes)
first-none (Fault ∷ takes) rest owed owes reported = refl

pub first-fault : (takes rest : List Take) (owed : List ℕ) (e : Error) → WritesAsReported takes owed (Err e) rest
    → taken_by takes (length owed) ≡ 0
unfolding taken_by
first-fault [] rest owed e reported = absurd (grind arith)
first-fault (Bytes j ∷ takes) rest owed e reported = absurd (grind arith)
first-fault (Fault ∷ takes) rest owed e reported = refl

pub first-some : (takes rest : List Take) (owed : List ℕ) (first : ℕ) → 0 < first
    → WritesAsReported takes owed (Ok first) rest
    → (taken_by takes (length owed) ≡ min first (length owed) + taken_by rest (length owed - first))
    × (first ≡ min first (length owed))
unfolding taken_by
first-some [] rest owed first pos reported = grind (arith, takes-nothing rest)
first-some (Bytes j ∷ takes) rest owed first pos reported = grind (arith, nat_tests, takes-nothing rest)
first-some (Fault ∷ takes) rest owed first pos reported = absurd (grind arith)

-- a pump to a scripted writer takes the bytes that the script says
pub taken-as-reported : (takes rest : List Take) (owed : List ℕ) (end : Result (Unit {0}) Error) (n : ℕ)
    → Pumps WritesAsReported takes owed end n rest → n ≡ taken_by takes (length owed)
taken-as-reported takes rest owed end n all = sym (takes-nothing takes)
taken-as-reported takes rest owed end n (nothing owes reported kind) = sym (first-none takes rest owed owes reported)
taken-as-reported takes rest owed end n (fault {e = e} owes reported) = sym (first-fault takes rest owed e reported)
taken-as-reported takes rest owed end n (some middle first k more pos reported later) =
    let h = first-some takes middle owed first pos reported in
    let further = taken-as-reported middle rest (drop first owed) end k later in
    grind (arith, h, further, length-drop first owed)

-- ---- what it leaves

module _ {way : Telling} where
  -- the client at a key after it was put there
  pub put-there : (h g : HubState way) (key : ℕ) (slot : Option ClientState) → Puts h key slot g → clients_in g key
      ≡ slot
  put-there h g key slot put =
      ap (λ (clients : ℕ → Option ClientState). clients key) put.1 ∙ rw (eq-eqb key key refl)

  pub pumped-left : (h g : HubState way) (key : ℕ) (takes : List Take) (reply : Reply) (c : ClientState)
      → clients_in h key ≡ Some c → Serves h (Pump key takes) reply g
      → clients_in g key ≡ Some (record c { owed = drop (taken_by takes (length c.owed)) c.owed })
  pumped-left h g key takes reply c found (result, rest, f, is) =
      let at : PumpsFrom WritesAsReported h key (Some c) takes result rest g = rw found at f in
      put-there h g key _ at.4 ∙ rw (taken-as-reported takes rest c.owed at.0 at.1 at.2)

-- bytes are appended, and those that weren't taken are cut off
pub prefix-kept : (bytes owed : List ℕ) (n left : ℕ) → left ≡ length (drop n owed)
    → take (length (bytes ++ owed) - left) (bytes ++ owed) ≡ bytes ++ take n owed
prefix-kept bytes owed n left is =
    let whole : bytes ++ owed ≡ (bytes ++ take n owed) ++ drop n owed =
    ap (λ ys. bytes ++ ys) (sym (take-append-drop n owed)) ∙ sym (append_assoc bytes (take n owed) (drop n owed)) in
    let count : length (bytes ++ owed) - left ≡ length (bytes ++ take n owed) =
    omega (arith, ap length whole, length-append (bytes ++ take n owed) (drop n owed), is) in
    rw (count, whole) (take-append_seam (bytes ++ take n owed) (drop n owed))

-- how many of a client's pending bytes are left after a pump, and which were taken
pub record IsPumped {way : Telling} (h : HubState way) (key : ℕ) (takes : List Take) (owed : List ℕ) (left : ℕ) : Type 0
  where
    pub count : ℕ
    pub rest : left ≡ length (drop count owed)
    pub bytes : bytes_taken takes (clients_in h key) ≡ take count owed

pub pumped-by : {way : Telling} (h g : HubState way) (key : ℕ) (takes : List Take) (reply : Reply) (owed : List ℕ)
    (left : ℕ) (unknown : Type 0) → (unknown → ⊥) → (o : Option ClientState) → clients_in h key ≡ o
    → MatchOption o unknown (λ c. owed ≡ c.owed)
    → MatchOption (clients_in g key) (left ≡ 0) (λ c. left ≡ length c.owed) → Serves h (Pump key takes) reply g
    → IsPumped h key takes owed left
pumped-by h g key takes reply owed left unknown known None e is after serves = absurd (known is)
pumped-by h g key takes reply owed left unknown known (Some c) e is after serves =
    let n = taken_by takes (length c.owed) in
    let client = pumped-left h g key takes reply c e serves in
    let count : left ≡ length (drop n c.owed) = rw client at after in
    record { count = n; rest = rw is count; bytes = rw (e, is) }
