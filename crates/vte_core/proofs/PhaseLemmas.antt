-- How far a header has come, byte by byte.
use Rattle.std.proofs.Common.{◌≡◌, ◌<◌, ℕ, length, Bool, true, false, not, ◌&&◌, ◌||◌, inl, inr, List, [], ◌∷◌, ◌++◌}
use Rattle.std.proofs.Common.{if◌then◌else◌, refl, sym, ◌∙◌, ap, arith, append_assoc, append-nil}
use Rattle.std.proofs.lemmas.Bool.Decides.{nat_tests}
use Rattle.std.proofs.Math.Bool.{and-true, and_assoc}
use Rattle.std.specs.List.{filter}
use Rattle.vte_core.specs.Bytes.{is_numeric, is_intermediate, is_private, is_header, each}
use Rattle.vte_core.specs.Header.{unmarked, in_order, only_intermediates, is_well_formed, intermediates}
use Rattle.vte_core.specs.Phases.{phase_of, next_by, is_kept}
use Rattle.vte_core.specs.declared.header.Phase.{Phase}
use Rattle.vte_core.specs.declared.header.Phase.TheVariants.{Start, InNumbers, InIntermediates, Ignored}
use Rattle.vte_core.proofs.Characters.{bool_cases}

numeric-last : (xs : List ℕ) (b : ℕ) → each is_numeric (xs ++ b ∷ []) ≡ (each is_numeric xs && is_numeric b)
numeric-last [] b = and-true (is_numeric b)
numeric-last (x ∷ xs) b = ap (λ r. is_numeric x && r) (numeric-last xs b)
    ∙ sym (and_assoc (is_numeric x) (each is_numeric xs) (is_numeric b))

pub each-first : (p : ℕ → Bool) (b : ℕ) (xs : List ℕ) → each p (b ∷ xs) ≡ true → (p b ≡ true) × (each p xs ≡ true)
each-first p b xs h = elim (bool_cases (p b)) [ inl e ↦ (e, let g = rw e at h in g) | inr e ↦ let g = rw e at h in cc ]

pub each-append : (p : ℕ → Bool) (xs ys : List ℕ) → each p xs ≡ true → each p ys ≡ true → each p (xs ++ ys) ≡ true
each-append p [] ys h k = k
each-append p (x ∷ xs) ys h k = let g = each-first p x xs h in rw g.0 (each-append p xs ys g.1 k)

pub each-more : (p : ℕ → Bool) (xs : List ℕ) (b : ℕ) → each p xs ≡ true → p b ≡ true → each p (xs ++ b ∷ []) ≡ true
each-more p xs b h e = each-append p xs (b ∷ []) h (rw e refl)

only_intermediates-last : (xs : List ℕ) (b : ℕ) → only_intermediates (xs ++ b ∷ [])
    ≡ (only_intermediates xs && is_intermediate b)
only_intermediates-last [] b = and-true (is_intermediate b)
only_intermediates-last (x ∷ xs) b = ap (λ r. is_intermediate x && r) (only_intermediates-last xs b)
    ∙ sym (and_assoc (is_intermediate x) (only_intermediates xs) (is_intermediate b))

one_byte : (n i : Bool) → (if n then true else (i && true)) ≡ (n || i)
one_byte true i = refl
one_byte false true = refl
one_byte false false = refl

in_order-last : (xs : List ℕ) (b : ℕ) → in_order (xs ++ b ∷ [])
    ≡ (if each is_numeric xs then (is_numeric b || is_intermediate b) else (in_order xs && is_intermediate b))
in_order-last [] b = one_byte (is_numeric b) (is_intermediate b)
in_order-last (x ∷ xs) b =
    elim (bool_cases (is_numeric x)) [
      | inl e ↦ rw e (in_order-last xs b)
      | inr e ↦ rw e (only_intermediates-last (x ∷ xs) b)
    ]

unmarked-last : (a : ℕ) (t : List ℕ) (b : ℕ) → unmarked ((a ∷ t) ++ b ∷ []) ≡ unmarked (a ∷ t) ++ b ∷ []
unmarked-last a t b = elim (bool_cases (is_private a)) [ inl e ↦ rw e refl | inr e ↦ rw e refl ]

next-cases : (N O numeric inter : Bool)
    → (if (N && numeric) then InNumbers else (if (if N then (numeric || inter) else (O && inter)) then InIntermediates
    else Ignored))
    ≡ next_by numeric inter (if N then InNumbers else (if O then InIntermediates else Ignored))
next-cases true O true inter = refl
next-cases true O false true = refl
next-cases true O false false = refl
next-cases false true numeric true = refl
next-cases false true numeric false = refl
next-cases false false numeric inter = refl

first-phase : (b : ℕ) → is_header b ≡ true → phase_of (b ∷ []) ≡ next_by (is_numeric b) (is_intermediate b) Start
first-phase b h =
    elim (bool_cases (is_private b)) [
      | inl p ↦ let i : is_intermediate b ≡ false = grind (arith, nat_tests) in rw (p, i) refl
      | inr p ↦ elim (bool_cases (is_numeric b)) [
        | inl n ↦ let i : is_intermediate b ≡ false = grind (arith, nat_tests) in rw (p, n, i) refl
        | inr n ↦ let i : is_intermediate b ≡ true = grind (arith, nat_tests) in rw (p, n, i) refl
      ]
    ]

pub phase_of-last : (h : List ℕ) (b : ℕ) → is_header b ≡ true
    → phase_of (h ++ b ∷ []) ≡ next_by (is_numeric b) (is_intermediate b) (phase_of h)
phase_of-last [] b h = first-phase b h
phase_of-last (a ∷ t) b h =
    ap (λ u. if each is_numeric u then InNumbers else (if in_order u then InIntermediates else Ignored))
    (unmarked-last a t b)
    ∙ rw (numeric-last (unmarked (a ∷ t)) b, in_order-last (unmarked (a ∷ t)) b)
    (next-cases (each is_numeric (unmarked (a ∷ t))) (in_order (unmarked (a ∷ t))) (is_numeric b) (is_intermediate b))

pub filter-last : (p : ℕ → Bool) (xs : List ℕ) (b : ℕ)
    → filter p (xs ++ b ∷ []) ≡ filter p xs ++ (if p b then b ∷ [] else [])
filter-last p [] b = refl
filter-last p (x ∷ xs) b = elim (bool_cases (p x))
    [ inl e ↦ rw e (ap (λ r. x ∷ r) (filter-last p xs b)) | inr e ↦ rw e (filter-last p xs b) ]

in_order-numeric : (xs : List ℕ) → each is_numeric xs ≡ true → in_order xs ≡ true
in_order-numeric [] h = refl
in_order-numeric (x ∷ xs) h =
    elim (bool_cases (is_numeric x)) [
      | inl e ↦ rw e (in_order-numeric xs (let g = rw e at h in g))
      | inr e ↦ let g = rw e at h in cc
    ]

kept-cases : (N O : Bool) → (N ≡ true → O ≡ true)
    → O ≡ is_kept (if N then InNumbers else (if O then InIntermediates else Ignored))
kept-cases true O h = h refl
kept-cases false true h = refl
kept-cases false false h = refl

pub well_formed-phase : (h : List ℕ) → is_well_formed h ≡ is_kept (phase_of h)
well_formed-phase [] = refl
well_formed-phase (a ∷ t) = kept-cases (each is_numeric (unmarked (a ∷ t))) (in_order (unmarked (a ∷ t)))
    (in_order-numeric (unmarked (a ∷ t)))

pub numeric-yes : (h : List ℕ) (b : ℕ) → is_numeric b ≡ true
    → (filter is_numeric (h ++ b ∷ []) ≡ filter is_numeric h ++ b ∷ [])
    × (intermediates (h ++ b ∷ []) ≡ intermediates h)
numeric-yes h b e = (
  filter-last is_numeric h b ∙ rw e refl,
  filter-last (λ c. not (is_numeric c)) h b ∙ rw e (append-nil (intermediates h)),
)

pub numeric-no : (h : List ℕ) (b : ℕ) → is_numeric b ≡ false → (filter is_numeric (h ++ b ∷ []) ≡ filter is_numeric h)
    × (intermediates (h ++ b ∷ []) ≡ intermediates h ++ b ∷ [])
numeric-no h b e = (
  filter-last is_numeric h b ∙ rw e (append-nil (filter is_numeric h)),
  filter-last (λ c. not (is_numeric c)) h b ∙ rw e refl,
)

-- digits, `:` and `;`

pub numeric-phase : (h : List ℕ) (b : ℕ) → is_numeric b ≡ true
    → phase_of (h ++ b ∷ []) ≡ next_by true false (phase_of h)
numeric-phase h b e =
    let i : is_intermediate b ≡ false = grind (arith, nat_tests) in
    let d : is_header b ≡ true = grind (arith, nat_tests) in
    rw (e, i) at (phase_of-last h b d)

numeric_twice : (p : Phase) → next_by true false (next_by true false p) ≡ next_by true false p
numeric_twice Start = refl
numeric_twice InNumbers = refl
numeric_twice InIntermediates = refl
numeric_twice Ignored = refl

-- some of them, one after another
pub numerics-kept : (h xs : List ℕ) → each is_numeric xs ≡ true
    → (filter is_numeric (h ++ xs) ≡ filter is_numeric h ++ xs) × (intermediates (h ++ xs) ≡ intermediates h)
numerics-kept h [] g = (
  ap (filter is_numeric) (append-nil h) ∙ sym (append-nil (filter is_numeric h)),
  ap intermediates (append-nil h),
)
numerics-kept h (b ∷ xs) g =
    let e = each-first is_numeric b xs g in
    let one = numeric-yes h b e.0 in
    let more = numerics-kept (h ++ b ∷ []) xs e.1 in
    let same = sym (append_assoc h (b ∷ []) xs) in (
      ap (filter is_numeric) same ∙ (more.0 ∙ (ap (λ (ys : List ℕ). ys ++ xs) one.0
          ∙ append_assoc (filter is_numeric h) (b ∷ []) xs)),
      ap intermediates same ∙ (more.1 ∙ one.1),
    )

pub numerics-some : (h xs : List ℕ) → each is_numeric xs ≡ true → 0 < length xs
    → phase_of (h ++ xs) ≡ next_by true false (phase_of h)
numerics-some h [] g some = absurd (omega (arith, some))
numerics-some h (b ∷ []) g some = numeric-phase h b (each-first is_numeric b [] g).0
numerics-some h (b ∷ c ∷ xs) g some =
    let e = each-first is_numeric b (c ∷ xs) g in
    ap phase_of (sym (append_assoc h (b ∷ []) (c ∷ xs))) ∙ (numerics-some (h ++ b ∷ []) (c ∷ xs) e.1 (omega arith)
    ∙ (ap (next_by true false) (numeric-phase h b e.0) ∙ numeric_twice (phase_of h)))

pub numeric-header : (xs : List ℕ) → each is_numeric xs ≡ true → each is_header xs ≡ true
numeric-header [] h = refl
numeric-header (b ∷ xs) h =
    let g = each-first is_numeric b xs h in
    let is : is_numeric b ≡ true = g.0 in
    let d : is_header b ≡ true = grind (arith, nat_tests) in
    rw d (numeric-header xs g.1)

after_numbers : (h : List ℕ) → each is_numeric h ≡ true → is_kept (next_by false true (phase_of h)) ≡ true
after_numbers [] e = refl
after_numbers (b ∷ h) e = rw (numerics-some [] (b ∷ h) e (omega arith)) refl

-- headers of numbers: alone, after a private byte, and before an intermediate

pub numbers-well : (h : List ℕ) → each is_numeric h ≡ true → is_well_formed h ≡ true
numbers-well [] e = refl
numbers-well (b ∷ h) e = well_formed-phase (b ∷ h) ∙ rw (numerics-some [] (b ∷ h) e (omega arith)) refl

pub private-well : (m : ℕ) (h : List ℕ) → is_private m ≡ true → each is_numeric h ≡ true → is_well_formed (m ∷ h) ≡ true
private-well m h private e = rw private (in_order-numeric h e)

pub marked-well : (m : ℕ) (h : List ℕ) → is_intermediate m ≡ true → each is_numeric h ≡ true
    → is_well_formed (h ++ m ∷ []) ≡ true
marked-well m h mark e =
    let header : is_header m ≡ true = grind (arith, nat_tests) in
    let other : is_numeric m ≡ false = grind (arith, nat_tests) in
    well_formed-phase (h ++ m ∷ []) ∙ (ap is_kept (phase_of-last h m header) ∙ rw (other, mark) (after_numbers h e))
