-- A list cut at its first element that passes.
use Rattle.std.proofs.Common.{◌≡◌, ◌∙◌, ap, ℕ, zero, suc, ◌<◌, Bool, true, false, List, [], ◌∷◌, take, drop, length}
use Rattle.std.proofs.Common.{get_or, arith, refl, inl, inr}
use Rattle.std.proofs.lemmas.Bool.{cases_Bool}
use Rattle.std.specs.List.{slice_split, onto_first}
use Rattle.std.proofs.lemmas.List.Splits.{slice_split-cons_yes, slice_split-cons_no}

pub split_at : (p : ℕ → Bool) (xs : List ℕ) (i : ℕ) → i < length xs → p (get_or xs i 0) ≡ true
    → ((k : ℕ) → k < i → p (get_or xs k 0) ≡ false)
    → slice_split p xs ≡ take i xs ∷ slice_split p (drop (suc i) xs)
split_at p [] i below is before = absurd (omega arith)
split_at p (x ∷ xs) zero below is before = slice_split-cons_yes p x xs is
split_at p (x ∷ xs) (suc i) below is before =
    slice_split-cons_no p x xs (before 0 (omega arith))
    ∙ ap (onto_first x) (split_at p xs i (omega arith) is (λ k low. before (suc k) (omega arith)))

pub split_nowhere : (p : ℕ → Bool) (xs : List ℕ) → ((k : ℕ) → k < length xs → p (get_or xs k 0) ≡ false)
    → slice_split p xs ≡ xs ∷ []
split_nowhere p [] before = refl
split_nowhere p (x ∷ xs) before =
    slice_split-cons_no p x xs (before 0 (omega arith))
    ∙ ap (onto_first x) (split_nowhere p xs (λ k low. before (suc k) (omega arith)))

-- there is a first part
pub some_part : (p : ℕ → Bool) (xs : List ℕ) → (y : List ℕ) × (ys : List (List ℕ)) × (slice_split p xs ≡ y ∷ ys)
some_part p [] = ([], [], refl)
some_part p (x ∷ xs) =
    let more = some_part p xs in
    elim (cases_Bool (p x)) [
      | inl e ↦ ([], slice_split p xs, slice_split-cons_yes p x xs e)
      | inr e ↦ (x ∷ more.0, more.1, slice_split-cons_no p x xs e ∙ ap (onto_first x) more.2)
    ]
