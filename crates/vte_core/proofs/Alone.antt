-- Groups of one number each, in one store.
use Rattle.std.proofs.Common.{◌≡◌, ℕ, ◌+◌, ◌<◌, ◌≤◌, List, [], ◌∷◌, length, take, drop, slice_range, sym, ◌∙◌, ap}
use Rattle.std.proofs.Common.{arith, get_or, length-take-le}
use Rattle.std.proofs.lemmas.Grind.{common_steps}
use Rattle.vte_core.specs.Store.{total, each_alone, cut_at, EndsFit, IsStore}
use Rattle.vte_core.proofs.Stores.{ends_below, total-store, length-cut}

drop-none : (xs : List ℕ) (k : ℕ) → length xs ≤ k → drop k xs ≡ []
drop-none xs k h = grind (arith, common_steps)

drop-one : (xs : List ℕ) (k : ℕ) → k < length xs → drop k xs ≡ get_or xs k 0 ∷ drop (k + 1) xs
drop-one xs k h = grind (arith, common_steps)

range-one : (xs : List ℕ) (k : ℕ) → k < length xs → slice_range xs k (k + 1) ≡ get_or xs k 0 ∷ []
range-one xs k h = grind (arith, common_steps)

-- as many ends as numbers
cut-alone : (start : ℕ) (ends xs : List ℕ) → EndsFit start ends xs → length ends + start ≡ length xs
    → cut_at start ends xs ≡ each_alone (drop start xs)
cut-alone start [] xs h e = ap each_alone (sym (drop-none xs start (omega (arith, h))))
cut-alone start (end ∷ ends) xs h e =
    let below = ends_below end ends xs h.1 in
    let next : end ≡ start + 1 = omega (arith, h.0, below, e) in
    let within : start < length xs = omega (arith, h.0, below) in
    let first : slice_range xs start end ≡ get_or xs start 0 ∷ [] = rw next (range-one xs start within) in
    let others : cut_at end ends xs ≡ each_alone (drop (start + 1) xs) =
    cut-alone end ends xs h.1 (omega (arith, next, e)) ∙ ap (λ k. each_alone (drop k xs)) next in
    ap (λ g. g ∷ cut_at end ends xs) first ∙ ap (λ gs. (get_or xs start 0 ∷ []) ∷ gs) others
    ∙ ap each_alone (sym (drop-one xs start within))

module _ (numbers ends : List ℕ) (len groups : ℕ) (old : List (List ℕ)) (s : IsStore numbers ends len groups)
    (v : cut_at 0 (take groups ends) (take len numbers) ≡ old) where
  some-ends : length (take groups ends) ≡ groups
  some-ends = length-take-le groups ends (omega (arith, s.2, s.4))

  some-numbers : length (take len numbers) ≡ len
  some-numbers = length-take-le len numbers (omega (arith, s.1, s.3))

  pub numbers-alone : groups ≡ len → old ≡ each_alone (take len numbers)
  numbers-alone e = sym v ∙ cut-alone 0 (take groups ends) (take len numbers) s.0
      (omega (arith, e, some-ends, some-numbers))

  pub numbers-few : length (take len numbers) ≤ 32
  numbers-few = omega (arith, some-numbers, s.1)

  groups_are : length old ≡ groups
  groups_are = ap length (sym v) ∙ (length-cut 0 (take groups ends) (take len numbers) ∙ some-ends)

  pub groups-fewer : (groups ≡ len → ⊥) → length old < total old
  groups-fewer differ =
      let most = ends_below 0 (take groups ends) (take len numbers) s.0 in
      omega (arith, differ, groups_are, total-store numbers ends len groups old s v, most, some-ends, some-numbers)
