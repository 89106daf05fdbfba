-- The bytes that are pending after a pump, and those that the writer has.
use Rattle.std.proofs.Common.{◌≡◌, ℕ, List, [], ◌++◌, take, drop, length, min, Option, Some, None, Ok, Result}
use Rattle.std.proofs.Common.{refl, ap, sym, ◌∙◌, subst, take-append-drop, append-nil}
use Rattle.std.proofs.Math.Seq.{take-add}
use Rattle.std.proofs.lemmas.List.{drop-drop, drop_min, take_min}
use Rattle.std.specs.Io.KnownBytes.{Appends, Keeps}
use Rattle.std.specs.declared.io.Error.{Error}
use Rattle.byte_streams.specs.Pump.{Pumps, Writes, all, nothing, fault, some}
use Rattle.byte_streams.specs.Laws.{TakesAll, WritesNothing, AppendsPrefix}
use Rattle.byte_streams.proofs.AppendLemmas.{Appends-more, Appends-none}

takes-all-of : (S : Type 0) (step : S → List ℕ → Result ℕ Error → S → Type 0) (s t : S) (owed : List ℕ)
    (answer : Result (Unit {0}) Error) (n : ℕ) → Pumps step s owed answer n t → answer ≡ Ok tt → drop n owed ≡ []
takes-all-of S step s t owed answer n all is = refl
takes-all-of S step s t owed answer n (nothing ne takes kind) is = absurd (cc)
takes-all-of S step s t owed answer n (fault ne takes) is = absurd (cc)
takes-all-of S step s t owed answer n (some m first k ne pos takes rest) is =
    sym (drop-drop k (min first (length owed)) owed)
    ∙ ap (drop k) (drop_min first owed)
    ∙ takes-all-of S step m t (drop first owed) answer k rest is

pub takes-all : (S : Type 0) (step : S → List ℕ → Result ℕ Error → S → Type 0) → TakesAll step
takes-all S step s t owed n pumps = takes-all-of S step s t owed (Ok tt) n pumps refl

writes-nothing-of : (S : Type 0) (step : S → List ℕ → Result ℕ Error → S → Type 0) (s t : S) (owed : List ℕ)
    (answer : Result (Unit {0}) Error) (n : ℕ) → Pumps step s owed answer n t → owed ≡ []
    → (answer ≡ Ok tt) × (t ≡ s)
writes-nothing-of S step s t owed answer n all none = (refl, refl)
writes-nothing-of S step s t owed answer n (nothing ne takes kind) none = absurd (ne none)
writes-nothing-of S step s t owed answer n (fault ne takes) none = absurd (ne none)
writes-nothing-of S step s t owed answer n (some m first k ne pos takes rest) none = absurd (ne none)

pub writes-nothing : (S : Type 0) (step : S → List ℕ → Result ℕ Error → S → Type 0) → WritesNothing step
writes-nothing S step s t answer n pumps = writes-nothing-of S step s t [] answer n pumps refl

nothing-appended : (a b : Option (List ℕ)) → Keeps a b → Appends a b []
nothing-appended None b k = tt
nothing-appended (Some x) None k = absurd k
nothing-appended (Some x) (Some y) k = k ∙ sym (append-nil x)

appends : (W : Type 0) (contents : W → Option (List ℕ)) (s t : W) (owed : List ℕ)
    (answer : Result (Unit {0}) Error) (n : ℕ) → Pumps (Writes contents) s owed answer n t
    → Appends (contents s) (contents t) (take n owed)
appends W contents s t owed answer n all = Appends-none (contents s)
appends W contents s t owed answer n (nothing ne takes kind) = takes
appends W contents s t owed answer n (fault ne takes) = nothing-appended (contents s) (contents t) takes
appends W contents s t owed answer n (some m first k ne pos takes rest) =
    subst (Appends (contents s) (contents t))
    (ap (λ xs. xs ++ take k (drop first owed)) (sym (take_min first owed))
    ∙ ap (λ xs. take (min first (length owed)) owed ++ take k xs) (sym (drop_min first owed))
    ∙ sym (take-add (min first (length owed)) k owed))
    (Appends-more (contents s) (contents m) (contents t) (take first owed) (take k (drop first owed)) takes
    (appends W contents m t (drop first owed) answer k rest))

pub appends-prefix : (W : Type 0) (contents : W → Option (List ℕ)) → AppendsPrefix contents
appends-prefix W contents s t owed answer n pumps =
    (appends W contents s t owed answer n pumps, take-append-drop n owed)
