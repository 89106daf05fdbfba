-- The numbers of a control sequence: how large they are, and how many.
use Rattle.std.proofs.Common.{◌≡◌, ℕ, zero, suc, ◌+◌, ◌-◌, ◌*◌, ◌<◌, ◌≤◌, min, Bool, true, false, ◌&&◌, ◌==◌}
use Rattle.std.proofs.Common.{List, [], ◌∷◌, length, length-append, take, map, if◌then◌else◌, refl, ◌∙◌}
use Rattle.std.proofs.Common.{ap, inl, inr, arith}
use Rattle.std.specs.Int.{is_in_range}
use Rattle.std.specs.List.{All, AllByRecursion, filter, fold, list_all, slice_split, onto_first, concat}
use Rattle.std.proofs.lemmas.List.Elements.{All-nil, All-cons}
use Rattle.std.proofs.lemmas.List.Splits.{slice_split_none}
use Rattle.vte_core.specs.Bytes.{is_numeric}
use Rattle.vte_core.specs.Header.{number, groups, first_numbers, kept_groups}
use Rattle.vte_core.specs.Store.{total}
use Rattle.vte_core.proofs.Characters.{bool_cases, if_holds}
use Rattle.vte_core.proofs.Headers.{total-first}
use Rattle.charset_filter.specs.Behind.{are_parts, as_known, is_color, is_known, replaced}

-- ---- each is below 2 ^ 16

abbrev pub IsSmall : List ℕ → Type 0
IsSmall ns = AllByRecursion (λ n. n < 65536) ns

abbrev pub AreSmall : List (List ℕ) → Type 0
AreSmall gs = AllByRecursion IsSmall gs

small-fold : (ds : List ℕ) (a : ℕ) → a < 65536 → fold (λ n d. min 65535 (n * 10 + (d - 0x30))) a ds < 65536
small-fold [] a h = h
small-fold (d ∷ ds) a h = small-fold ds (min 65535 (a * 10 + (d - 0x30))) (omega arith)

small-numbers : (ps : List (List ℕ)) → IsSmall (map number ps)
small-numbers [] = tt
small-numbers (p ∷ ps) = (small-fold p 0 (omega arith), small-numbers ps)

small-groups : (ps : List (List ℕ)) → AreSmall (map (λ p. map number (slice_split (λ b. b == 0x3A) p)) ps)
small-groups [] = tt
small-groups (p ∷ ps) = (small-numbers (slice_split (λ b. b == 0x3A) p), small-groups ps)

small-take : (k : ℕ) (ns : List ℕ) → IsSmall ns → IsSmall (take k ns)
small-take zero ns h = tt
small-take (suc k) [] h = tt
small-take (suc k) (n ∷ ns) h = (h.0, small-take k ns h.1)

small-first : (m : ℕ) (gs : List (List ℕ)) → AreSmall gs → AreSmall (first_numbers m gs)
small-first zero gs h = tt
small-first (suc m) [] h = tt
small-first (suc m) (g ∷ gs) h = (small-take (suc m) g h.0, small-first (suc m - length g) gs h.1)

pub kept-small : (h : List ℕ) → AreSmall (kept_groups h)
kept-small h = small-first 32 (groups h) (small-groups (slice_split (λ b. b == 0x3B) (filter is_numeric h)))

-- ---- they are few

-- how many bytes pieces have, and one more for each
abbrev weigh : List (List ℕ) → ℕ
weigh [] = 0
weigh (p ∷ ps) = suc (length p + weigh ps)

weigh-first : (x : ℕ) (ps : List (List ℕ)) → 0 < length ps → weigh (onto_first x ps) ≡ suc (weigh ps)
weigh-first x [] h = absurd (omega (arith, h))
weigh-first x (p ∷ ps) h = omega arith

some-first : (x : ℕ) (ps : List (List ℕ)) → 0 < length (onto_first x ps)
some-first x [] = omega arith
some-first x (p ∷ ps) = omega arith

some-pieces : (t : ℕ → Bool) (xs : List ℕ) → 0 < length (slice_split t xs)
some-pieces t [] = omega arith
some-pieces t (x ∷ xs) = elim (bool_cases (t x)) [
  | inl e ↦ rw e (omega arith)
  | inr e ↦ rw e (some-first x (slice_split t xs))
]

weigh-pieces : (t : ℕ → Bool) (xs : List ℕ) → weigh (slice_split t xs) ≡ suc (length xs)
weigh-pieces t [] = omega arith
weigh-pieces t (x ∷ xs) = elim (bool_cases (t x)) [
  | inl e ↦ rw e (omega (arith, weigh-pieces t xs))
  | inr e ↦ rw e (weigh-first x (slice_split t xs) (some-pieces t xs) ∙ ap suc (weigh-pieces t xs))
]

pieces-few : (ps : List (List ℕ)) → length ps ≤ weigh ps
pieces-few [] = omega arith
pieces-few (p ∷ ps) = omega (arith, pieces-few ps)

length-numbers : (ps : List (List ℕ)) → length (map number ps) ≡ length ps
length-numbers [] = refl
length-numbers (p ∷ ps) = ap suc (length-numbers ps)

group-few : (p : List ℕ) → length (map number (slice_split (λ b. b == 0x3A) p)) ≤ suc (length p)
group-few p =
    let ps = slice_split (λ b. b == 0x3A) p in
    omega (arith, length-numbers ps, pieces-few ps, weigh-pieces (λ b. b == 0x3A) p)

groups-few : (ps : List (List ℕ)) → total (map (λ p. map number (slice_split (λ b. b == 0x3A) p)) ps) ≤ weigh ps
groups-few [] = omega arith
groups-few (p ∷ ps) =
    let g = map number (slice_split (λ b. b == 0x3A) p) in
    let gs = map (λ p. map number (slice_split (λ b. b == 0x3A) p)) ps in
    omega (arith, length-append g (concat gs), group-few p, groups-few ps)

filter-few : (t : ℕ → Bool) (h : List ℕ) → length (filter t h) ≤ length h
filter-few t [] = omega arith
filter-few t (b ∷ h) = elim (bool_cases (t b)) [
  | inl e ↦ rw e (omega (arith, filter-few t h))
  | inr e ↦ rw e (omega (arith, filter-few t h))
]

total-groups : (h : List ℕ) → total (groups h) ≤ suc (length h)
total-groups h =
    let m = filter is_numeric h in
    let ps = slice_split (λ b. b == 0x3B) m in
    omega (arith, groups-few ps, weigh-pieces (λ b. b == 0x3B) m, filter-few is_numeric h)

-- at most 32, and one more than the header has bytes
pub kept-few : (h : List ℕ) → (total (kept_groups h) ≤ 32) × (total (kept_groups h) ≤ suc (length h))
kept-few h =
    let is = total-first 32 (groups h) in
    (omega (arith, is), omega (arith, is, total-groups h))

-- ---- if no number is a subparameter, each group is known

abbrev IsLone : List ℕ → Type 0
IsLone h = AllByRecursion (λ b. (b == 0x3A) ≡ false) h

abbrev Known : List (List ℕ) → Type 0
Known gs = list_all is_known gs ≡ true

lone-all : (p : List ℕ) → IsLone p → All (λ b. (b == 0x3A) ≡ false) p
lone-all [] h = All-nil (λ b. (b == 0x3A) ≡ false)
lone-all (b ∷ p) h = All-cons (λ b. (b == 0x3A) ≡ false) b p h.0 (lone-all p h.1)

lone-first : (x : ℕ) (ps : List (List ℕ)) → (x == 0x3A) ≡ false → AllByRecursion IsLone ps
    → AllByRecursion IsLone (onto_first x ps)
lone-first x [] h k = ((h, tt), tt)
lone-first x (p ∷ ps) h k = ((h, k.0), k.1)

lone-pieces : (t : ℕ → Bool) (h : List ℕ) → IsLone h → AllByRecursion IsLone (slice_split t h)
lone-pieces t [] k = (tt, tt)
lone-pieces t (b ∷ h) k = elim (bool_cases (t b)) [
  | inl e ↦ rw e (tt, lone-pieces t h k.1)
  | inr e ↦ rw e (lone-first b (slice_split t h) k.0 (lone-pieces t h k.1))
]

lone-filter : (t : ℕ → Bool) (h : List ℕ) → IsLone h → IsLone (filter t h)
lone-filter t [] k = tt
lone-filter t (b ∷ h) k = elim (bool_cases (t b)) [
  | inl e ↦ rw e (k.0, lone-filter t h k.1)
  | inr e ↦ rw e (lone-filter t h k.1)
]

take-none : (m : ℕ) → take {A = ℕ} m [] ≡ []
take-none zero = refl
take-none (suc m) = refl

-- the first numbers of groups of which each is one number
lone-known : (m : ℕ) (ps : List (List ℕ)) → AllByRecursion IsLone ps
    → Known (first_numbers m (map (λ p. map number (slice_split (λ b. b == 0x3A) p)) ps))
lone-known zero ps k = refl
lone-known (suc m) [] k = refl
lone-known (suc m) (p ∷ ps) k =
    let alone : slice_split (λ b. b == 0x3A) p ≡ p ∷ [] = slice_split_none (λ b. b == 0x3A) p (lone-all p k.0) in
    let none : take {A = ℕ} m [] ≡ [] = take-none m in
    let less : suc m - 1 ≡ m = omega arith in
    rw (alone, none, less) (lone-known m ps k.1)

pub lone-kept : (h : List ℕ) → AllByRecursion (λ b. (b == 0x3A) ≡ false) h → list_all is_known (kept_groups h) ≡ true
lone-kept h k = lone-known 32 (slice_split (λ b. b == 0x3B) (filter is_numeric h))
    (lone-pieces (λ b. b == 0x3B) (filter is_numeric h) (lone-filter is_numeric h k))

-- ---- groups as they are known

either-small : (v : Bool) (x y : List (List ℕ)) → AreSmall x → AreSmall y → AreSmall (if v then x else y)
either-small v x y h k = if_holds AreSmall v x y h k

replaced-small : (g : List ℕ) → IsSmall g → AreSmall (replaced g)
replaced-small [] h = tt
replaced-small (n ∷ []) h = tt
replaced-small (n ∷ k ∷ []) h = either-small (n == 4 && k == 0) _ _ ((omega arith, tt), tt)
    (either-small (n == 4 && is_in_range 1 5 k) _ _ ((omega arith, tt), tt) tt)
replaced-small (n ∷ k ∷ a ∷ []) h = tt
replaced-small (n ∷ k ∷ a ∷ b ∷ []) h = tt
replaced-small (n ∷ k ∷ a ∷ b ∷ c ∷ []) h = tt
replaced-small (n ∷ k ∷ s ∷ r ∷ g ∷ b ∷ []) h = either-small (is_color n && (k == 2 && are_parts r g b)) _ _
    ((h.0, (h.1.0, h.1.1.1)), tt) tt
replaced-small (n ∷ k ∷ a ∷ b ∷ c ∷ d ∷ e ∷ gs) h = tt

pub known-small : (g : List ℕ) → IsSmall g → AreSmall (as_known g)
known-small g h = either-small (is_known g) (g ∷ []) (replaced g) (h, tt) (replaced-small g h)
