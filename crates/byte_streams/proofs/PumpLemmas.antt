-- Writes one after another.
use Rattle.std.proofs.Common.{◌≡◌, ◌≢◌, ℕ, List, [], Ok, Result, ◌+◌, ◌≤◌, ◌<◌, drop, length, min, sym}
use Rattle.std.proofs.Common.{ap, ◌∙◌, arith, length-drop}
use Rattle.std.proofs.lemmas.List.{drop-drop, drop_min}
use Rattle.std.specs.declared.io.Error.{Error}
use Rattle.byte_streams.specs.Pump.{Pumps, all, nothing, fault, some}

pub some-left : (owed : List ℕ) (taken : ℕ) → taken < length owed → drop taken owed ≢ []
some-left owed taken lt = λ none. absurd (omega (arith, ap length none, length-drop taken owed))

-- a write that returns n has taken m bytes, and the rest is pumped after it
pub pumps-more : (S : Type 0) (step : S → List ℕ → Result ℕ Error → S → Type 0) (s u t : S) (owed : List ℕ)
    (taken n m k : ℕ) (answer : Result (Unit {0}) Error) → taken < length owed → 0 < n
    → m ≡ min n (length (drop taken owed)) → step s (drop taken owed) (Ok n) u
    → Pumps step u (drop (taken + m) owed) answer k t → Pumps step s (drop taken owed) answer (m + k) t
pumps-more S step s u t owed taken n m k answer lt pos e takes rest =
    let left : drop n (drop taken owed) ≡ drop (taken + m) owed =
    sym (drop_min n (drop taken owed)) ∙ ap (λ j. drop j (drop taken owed)) (sym e) ∙ drop-drop m taken owed in
    let after : Pumps step u (drop n (drop taken owed)) answer k t = rw left rest in
    rw e (some u n k (some-left owed taken lt) pos takes after)

-- a pump takes at most all the bytes
pub pumps-within : (S : Type 0) (step : S → List ℕ → Result ℕ Error → S → Type 0) (s t : S) (owed : List ℕ)
    (answer : Result (Unit {0}) Error) (n : ℕ) → Pumps step s owed answer n t → n ≤ length owed
pumps-within S step s t owed answer n all = omega arith
pumps-within S step s t owed answer n (nothing ne takes kind) = omega arith
pumps-within S step s t owed answer n (fault ne takes) = omega arith
pumps-within S step s t owed answer n (some m first k ne pos takes rest) =
    omega (arith, pumps-within S step m t (drop first owed) answer k rest, length-drop first owed)
