-- The numbers of a header.
use Rattle.std.proofs.Common.{◌≡◌, ◌≢◌, ℕ, zero, suc, ◌+◌, ◌-◌, ◌<◌, ◌≤◌, min, Bool, true, false, List, [], ◌∷◌, ◌++◌}
use Rattle.std.proofs.Common.{length, take, nat_lt, refl, sym, ◌∙◌, ap, arith, length-append, inl, inr}
use Rattle.std.proofs.lemmas.List.{take-append-le, take_all, length-take}
use Rattle.std.proofs.lemmas.Bool.{lt-ltb, cases_lt}
use Rattle.std.proofs.lemmas.Bool.Decides.{nat_tests}
use Rattle.std.specs.List.{concat, slice_split, onto_first}
use Rattle.vte_core.specs.Store.{total}
use Rattle.vte_core.specs.Header.{first_numbers}
use Rattle.vte_core.specs.Reading.{with_group}
use Rattle.vte_core.proofs.Characters.{bool_cases}

first_numbers-nil : (m : ℕ) → first_numbers m [] ≡ []
first_numbers-nil zero = refl
first_numbers-nil (suc m) = refl

pub total-first : (m : ℕ) (gs : List (List ℕ)) → total (first_numbers m gs) ≡ min m (total gs)
total-first zero gs = omega arith
total-first (suc m) [] = omega arith
total-first (suc m) (g ∷ gs) =
    length-append (take (suc m) g) (concat (first_numbers (suc m - length g) gs))
    ∙ omega (arith, length-take (suc m) g, total-first (suc m - length g) gs, length-append g (concat gs))

first-room : (m : ℕ) (gs : List (List ℕ)) (g : List ℕ) → total gs < m
    → first_numbers m (gs ++ g ∷ []) ≡ first_numbers m gs ++ take (m - total gs) g ∷ []
first-room zero gs g h = absurd (omega arith)
first-room (suc m) [] g h = let e : suc m - 0 ≡ suc m = omega arith in rw (first_numbers-nil (suc m - length g), e) refl
first-room (suc m) (x ∷ xs) g h =
    let len : length (x ++ concat xs) ≡ length x + total xs = length-append x (concat xs) in
    let less : total xs < suc m - length x = omega arith in
    let same : suc m - length x - total xs ≡ suc m - length (x ++ concat xs) = omega arith in
    ap (λ r. take (suc m) x ∷ r) (first-room (suc m - length x) xs g less
    ∙ ap (λ k. first_numbers (suc m - length x) xs ++ take k g ∷ []) same)

first-full : (m : ℕ) (gs : List (List ℕ)) (g : List ℕ) → m ≤ total gs
    → first_numbers m (gs ++ g ∷ []) ≡ first_numbers m gs
first-full zero gs g h = refl
first-full (suc m) [] g h = absurd (omega arith)
first-full (suc m) (x ∷ xs) g h =
    let len : length (x ++ concat xs) ≡ length x + total xs = length-append x (concat xs) in
    ap (λ r. take (suc m) x ∷ r) (first-full (suc m - length x) xs g (omega arith))

pub total-append : (gs : List (List ℕ)) (g : List ℕ) → total (gs ++ g ∷ []) ≡ total gs + length g
total-append [] g = omega (arith, length-append g [])
total-append (x ∷ xs) g = omega (
  arith,
  length-append x (concat (xs ++ g ∷ [])),
  length-append x (concat xs),
  total-append xs g,
)

total-with : (gs : List (List ℕ)) (g : List ℕ) → total (with_group gs g) ≡ total gs + length g
total-with gs [] = omega arith
total-with gs (k ∷ ks) = total-append gs (k ∷ ks)

with-more : (gs : List (List ℕ)) (g : List ℕ) (n : ℕ) → with_group gs (g ++ n ∷ []) ≡ gs ++ (g ++ n ∷ []) ∷ []
with-more gs [] n = refl
with-more gs (k ∷ ks) n = refl

first-over : (gs : List (List ℕ)) (g : List ℕ) (n : ℕ) → 32 ≤ total gs + length g
    → first_numbers 32 (with_group gs g) ≡ first_numbers 32 (gs ++ (g ++ n ∷ []) ∷ [])
first-over gs [] n h = sym (first-full 32 gs (n ∷ []) (omega (arith, h)))
first-over gs (k ∷ ks) n h =
    elim (cases_lt (total gs) 32) [
      | inl less ↦
          first-room 32 gs (k ∷ ks) less ∙ (ap (λ (x : List ℕ). first_numbers 32 gs ++ x
          ∷ []) (sym (take-append-le (32 - total gs) (k ∷ ks) (n ∷ []) (omega (arith, h))))
          ∙ sym (first-room 32 gs ((k ∷ ks) ++ n ∷ []) less))
      | inr over ↦ first-full 32 gs (k ∷ ks) over ∙ sym (first-full 32 gs ((k ∷ ks) ++ n ∷ []) over)
    ]

pub first-whole : (gs : List (List ℕ)) (g : List ℕ) → 0 < length g → total gs + length g ≤ 32
    → first_numbers 32 (gs ++ g ∷ []) ≡ first_numbers 32 gs ++ g ∷ []
first-whole gs g some h = first-room 32 gs g (omega (arith, some, h))
    ∙ ap (λ (x : List ℕ). first_numbers 32 gs ++ x ∷ []) (take_all (32 - total gs) g (omega (arith, h)))

-- one more whole number
pub record Ended (params gs : List (List ℕ)) (g : List ℕ) (n : ℕ) (many : Bool) : Type 0 where
  pub is_open : true ≡ nat_lt 0 (length (g ++ n ∷ []))
  pub full : total params ≡ 32 → (params ≡ first_numbers 32 (with_group gs (g ++ n ∷ [])))
      × (true ≡ nat_lt 32 (total gs + length (g ++ n ∷ [])))
  pub room : total params ≢ 32 → (total params < 32) × (many ≡ nat_lt 32 (total gs + length (g ++ n ∷ [])))
  pub first : total params ≢ 32 → length g ≡ 0 → params ++ (n ∷ [])
      ∷ [] ≡ first_numbers 32 (with_group gs (g ++ n ∷ []))
  pub more : total params ≢ 32 → 0 < length g → (params ≡ first_numbers 32 gs ++ g ∷ [])
      × (first_numbers 32 gs ++ (g ++ n ∷ []) ∷ [] ≡ first_numbers 32 (with_group gs (g ++ n ∷ [])))

with-some : (gs : List (List ℕ)) (g : List ℕ) → 0 < length g → with_group gs g ≡ gs ++ g ∷ []
with-some gs [] h = absurd (omega (arith, h))
with-some gs (k ∷ ks) h = refl

with-none : (gs : List (List ℕ)) (g : List ℕ) → length g ≡ 0 → (with_group gs g ≡ gs) × (g ≡ [])
with-none gs [] h = (refl, refl)
with-none gs (k ∷ ks) h = absurd (omega (arith, h))

pub ended : (params gs : List (List ℕ)) (g : List ℕ) (n : ℕ) (many : Bool)
    → params ≡ first_numbers 32 (with_group gs g) → many ≡ nat_lt 32 (total gs + length g) → Ended params gs g n many
ended params gs g n many p r =
    let count : total params ≡ min 32 (total gs + length g) =
    ap total p ∙ (total-first 32 (with_group gs g) ∙ ap (min 32) (total-with gs g)) in
    let more : length (g ++ n ∷ []) ≡ length g + 1 = length-append g (n ∷ []) in
    let whole = with-more gs g n in
    record {
      is_open = sym (lt-ltb 0 (length (g ++ n ∷ [])) (omega arith));
      full = λ h.
          let over : 32 ≤ total gs + length g = omega arith in (
            p ∙ (first-over gs g n over ∙ ap (first_numbers 32) (sym whole)),
            sym (lt-ltb 32 (total gs + length (g ++ n ∷ [])) (omega arith)),
          );
      room = λ h. let fits : total gs + length g < 32 = omega arith in (omega arith, r ∙ grind (arith, nat_tests));
      first = λ h none.
          let e = with-none gs g none in
          let same : n ∷ [] ≡ g ++ n ∷ [] = ap (λ (x : List ℕ). x ++ n ∷ []) (sym e.1) in
          ap (λ (ps : List (List ℕ)). ps ++ (n ∷ []) ∷ []) (p ∙ ap (first_numbers 32) e.0)
          ∙ (ap (λ (x : List ℕ). first_numbers 32 gs ++ x ∷ []) same
          ∙ (sym (first-whole gs (g ++ n ∷ []) (omega arith) (omega arith)) ∙ ap (first_numbers 32) (sym whole)));
      more = λ h some. (
        p ∙ (ap (first_numbers 32) (with-some gs g some) ∙ first-whole gs g some (omega arith)),
        sym (first-whole gs (g ++ n ∷ []) (omega arith) (omega arith)) ∙ ap (first_numbers 32) (sym whole),
      );
    }

-- one more whole group
pub closed_group : (params gs : List (List ℕ)) (g : List ℕ) (many : Bool) → params ≡ first_numbers 32 (with_group gs g)
    → many ≡ nat_lt 32 (total gs + length g) → 0 < length g
    → (params ≡ first_numbers 32 (gs ++ g ∷ [])) × (many ≡ nat_lt 32 (total (gs ++ g ∷ []) + 0))
closed_group params gs g many p r some = (
  p ∙ ap (first_numbers 32) (with-some gs g some),
  r ∙ ap (λ k. nat_lt 32 k) (omega (arith, total-append gs g)),
)

-- splits, from the back
split_some : (p : ℕ → Bool) (xs : List ℕ) → (s : List ℕ) × (ss : List (List ℕ)) × (slice_split p xs ≡ s ∷ ss)
split_some p [] = ([], [], refl)
split_some p (x ∷ xs) =
    elim (bool_cases (p x)) [
      | inl e ↦ ([], slice_split p xs, rw e refl)
      | inr e ↦ let (s, ss, f) = split_some p xs in (x ∷ s, ss, rw (e, f) refl)
    ]

unfoldable pub onto_last : ℕ → List (List ℕ) → List (List ℕ)
onto_last b [] = (b ∷ []) ∷ []
onto_last b (s ∷ []) = (s ++ b ∷ []) ∷ []
onto_last b (s ∷ t ∷ ts) = s ∷ onto_last b (t ∷ ts)

pub onto_last-last : (b : ℕ) (ss : List (List ℕ)) (s : List ℕ) → onto_last b (ss ++ s ∷ []) ≡ ss ++ (s ++ b ∷ []) ∷ []
unfolding onto_last
onto_last-last b [] s = refl
onto_last-last b (t ∷ []) s = refl
onto_last-last b (t ∷ u ∷ ss) s = ap (λ r. t ∷ r) (onto_last-last b (u ∷ ss) s)

onto-both : (b x : ℕ) (ss : List (List ℕ)) → onto_first x (onto_last b ss) ≡ onto_last b (onto_first x ss)
unfolding onto_last
onto-both b x [] = refl
onto-both b x (s ∷ []) = refl
onto-both b x (s ∷ t ∷ ss) = refl

pub split-yes : (p : ℕ → Bool) (xs : List ℕ) (b : ℕ) → p b ≡ true
    → slice_split p (xs ++ b ∷ []) ≡ slice_split p xs ++ [] ∷ []
split-yes p [] b e = rw e refl
split-yes p (x ∷ xs) b e =
    elim (bool_cases (p x)) [
      | inl f ↦ rw f (ap (λ r. [] ∷ r) (split-yes p xs b e))
      | inr f ↦ let (s, ss, g) = split_some p xs in rw f (ap (onto_first x) (split-yes p xs b e) ∙ rw g refl)
    ]

pub split-no : (p : ℕ → Bool) (xs : List ℕ) (b : ℕ) → p b ≡ false
    → slice_split p (xs ++ b ∷ []) ≡ onto_last b (slice_split p xs)
unfolding onto_last
split-no p [] b e = rw e refl
split-no p (x ∷ xs) b e =
    elim (bool_cases (p x)) [
      | inl f ↦ let (s, ss, g) = split_some p xs in rw f (ap (λ r. [] ∷ r) (split-no p xs b e) ∙ rw g refl)
      | inr f ↦ rw f (ap (onto_first x) (split-no p xs b e) ∙ onto-both b x (slice_split p xs))
    ]
