-- The bytes behind an event, appended part by part.
use Rattle.std.proofs.Common.{◌≡◌, ℕ, ◌+◌, ◌≤◌, Bool, true, false, ◌||◌, List, [], ◌∷◌, ◌++◌, length}
use Rattle.std.proofs.Common.{length-append, append_assoc, append-nil, ◌⊎◌, inl, inr, arith, refl, sym, ◌∙◌, ap, subst}
use Rattle.std.proofs.Common.{codes, ◌&&◌, ◌==◌}
use Rattle.std.specs.Int.{is_in_range}
use Rattle.std.specs.List.{flat_map}
use Rattle.vte_core.specs.ParamsText.{group_text}
use Rattle.vte_core.proofs.Characters.{if_holds}
use Rattle.charset_filter.specs.Behind.{are_parts, as_known, is_color, is_known, replaced, sgr}
use Rattle.charset_filter.specs.Groups.{first_text, has_some}
use Rattle.charset_filter.specs.Room.{Appends}

-- a part of what is left is appended
pub goes-on : (whole items part left new : List ℕ) → length whole ≤ 252 → items ++ (part ++ left) ≡ whole
    → Appends items part new → new ++ left ≡ whole
goes-on whole items part left new short is done =
    let len : length items + (length part + length left) ≡ length whole =
    omega (arith, length-append items (part ++ left), length-append part left, ap length is) in
    ap (λ (xs : List ℕ). xs ++ left) (done (omega (arith, len, short)))
    ∙ (append_assoc items part left ∙ is)

-- all is appended
pub all-done : (old part new : List ℕ) → (length (old ++ part) ≤ 252 → new ++ [] ≡ old ++ part) → Appends old part new
all-done old part new h short = sym (append-nil new) ∙ h (omega (arith, length-append old part, short))

-- ---- SGR

abbrev pub later : List (List ℕ) → List ℕ
later gs = flat_map (λ y. codes ";" ++ group_text y) gs

-- what is left of an SGR if these groups are left, after others or as the first ones
abbrev pub rest_of : Bool → List (List ℕ) → List ℕ
rest_of true gs = later gs ++ codes "m"
rest_of false gs = sgr gs

-- one group, or none
abbrev AtMostOne : List (List ℕ) → Type 0
AtMostOne gs = (gs ≡ []) ⊎ ((g : List ℕ) × (gs ≡ g ∷ []))

replaced-one : (g : List ℕ) → AtMostOne (replaced g)
replaced-one [] = inl refl
replaced-one (n ∷ []) = inl refl
replaced-one (n ∷ k ∷ []) = if_holds AtMostOne (n == 4 && k == 0) _ _ (inr (24 ∷ [], refl))
    (if_holds AtMostOne (n == 4 && is_in_range 1 5 k) _ _ (inr (4 ∷ [], refl)) (inl refl))
replaced-one (n ∷ k ∷ a ∷ []) = inl refl
replaced-one (n ∷ k ∷ a ∷ b ∷ []) = inl refl
replaced-one (n ∷ k ∷ a ∷ b ∷ c ∷ []) = inl refl
replaced-one (n ∷ k ∷ s ∷ r ∷ g ∷ b ∷ []) = if_holds AtMostOne (is_color n && (k == 2 && are_parts r g b)) _ _
    (inr (n ∷ k ∷ r ∷ g ∷ b ∷ [], refl)) (inl refl)
replaced-one (n ∷ k ∷ a ∷ b ∷ c ∷ d ∷ e ∷ gs) = inl refl

known-one : (g : List ℕ) → AtMostOne (as_known g)
known-one g = if_holds AtMostOne (is_known g) (g ∷ []) (replaced g) (inr (g, refl)) (replaced-one g)

or-false : (v : Bool) → (v || false) ≡ v
or-false true = refl
or-false false = refl

or-true : (v : Bool) → (v || true) ≡ true
or-true true = refl
or-true false = refl

no-group : (some : Bool) (ks : List (List ℕ)) → rest_of some ks ≡ first_text some [] ++ rest_of (some || has_some []) ks
no-group some ks = ap (λ (v : Bool). rest_of v ks) (sym (or-false some))

a-group : (some : Bool) (k : List ℕ) (ks : List (List ℕ))
    → rest_of some (k ∷ ks) ≡ first_text some (k ∷ []) ++ rest_of (some || has_some (k ∷ [])) ks
a-group true k ks = append_assoc (codes ";" ++ group_text k) (later ks) (codes "m")
a-group false k ks = ap (λ (xs : List ℕ). 0x1B ∷ 0x5B ∷ xs) (append_assoc (group_text k) (later ks) (codes "m"))

pub next-group : (some : Bool) (g : List ℕ) (gs : List (List ℕ))
    → rest_of some (flat_map as_known (g ∷ gs))
    ≡ first_text some (as_known g) ++ rest_of (some || has_some (as_known g)) (flat_map as_known gs)
next-group some g gs =
    let ks = flat_map as_known gs in
    elim (known-one g) [
      | inl none ↦ subst (λ (xs : List (List ℕ)). rest_of some (xs ++ ks)
          ≡ first_text some xs ++ rest_of (some || has_some xs) ks) (sym none) (no-group some ks)
      | inr one ↦ subst (λ (xs : List (List ℕ)). rest_of some (xs ++ ks)
          ≡ first_text some xs ++ rest_of (some || has_some xs) ks) (sym one.1) (a-group some one.0 ks)
    ]
