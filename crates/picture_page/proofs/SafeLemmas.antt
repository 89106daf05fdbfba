-- A page is safe.
use Rattle.std.proofs.Common.{◌≡◌, ◌≢◌, ◌≤◌, ◌+◌, ℕ, Bool, true, false, not, ◌&&◌, ◌||◌, List, [], ◌∷◌, ◌++◌, Some}
use Rattle.std.proofs.Common.{None, refl, sym, ap, ◌∙◌, inl, inr, arith, nat_eq, nat_le, codes, unwrap_or, cond, map}
use Rattle.std.proofs.Common.{subst, true≢false}
use Rattle.std.specs.List.{concat, slice_index_or}
use Rattle.std.proofs.lemmas.Bool.{leb-true, ne_eqb}
use Rattle.std.proofs.lemmas.List.Elements.{All-map}
use Rattle.picture_page.specs.Page.{Part, Markup, Digit, RowEnd, Name, Text, IsPage, IsSafe, IsHarmless, IsPiece}
use Rattle.picture_page.specs.Page.{begins_reference, digit_byte, escaped, part_bytes, parts_bytes, reference}

pub both : (a b : Bool) → a && b ≡ true → (a ≡ true) × (b ≡ true)
both true b h = (refl, h)
both false b h = absurd (true≢false (sym h))

last : (p q r s t u : Bool) → p && (q && (r && (s && (t && u)))) ≡ true → u ≡ true
last true true true true true u h = h
last true true true true false u h = absurd (true≢false (sym h))
last true true true false t u h = absurd (true≢false (sym h))
last true true false s t u h = absurd (true≢false (sym h))
last true false r s t u h = absurd (true≢false (sym h))
last false q r s t u h = absurd (true≢false (sym h))

-- the same, byte by byte
abbrev pub is_harmless : List ℕ → Bool
is_harmless [] = true
is_harmless (b ∷ bs) = not (nat_eq b 60) && (not (nat_eq b 62) && (not (nat_eq b 34) && (not (nat_eq b 39)
    && ((not (nat_eq b 38) || begins_reference (b ∷ bs)) && is_harmless bs))))

by_itself : (b : ℕ) (rest : List ℕ) → nat_eq b 38 ≡ false → nat_eq b 60 ≡ false → nat_eq b 62 ≡ false → nat_eq b 34
    ≡ false
    → nat_eq b 39 ≡ false → is_harmless rest ≡ true → is_harmless (b ∷ rest) ≡ true
by_itself b rest p q r s t h = rw (p, q, r, s, t) h

escaped_byte : (b : ℕ) (rest : List ℕ) → is_harmless rest ≡ true → is_harmless (unwrap_or (reference b) (b ∷ [])
    ++ rest) ≡ true
escaped_byte b rest h = go (nat_eq b 38) (nat_eq b 60) (nat_eq b 62) (nat_eq b 34) (nat_eq b 39) refl refl refl refl
    refl
  where
    go : (p q r s t : Bool) → nat_eq b 38 ≡ p → nat_eq b 60 ≡ q → nat_eq b 62 ≡ r → nat_eq b 34 ≡ s → nat_eq b 39 ≡ t
        → is_harmless (unwrap_or (cond p (Some (codes "&amp;")) (cond q (Some (codes "&lt;"))
        (cond r (Some (codes "&gt;"))
        (cond s (Some (codes "&quot;")) (cond t (Some (codes "&#39;")) None))))) (b ∷ []) ++ rest) ≡ true
    go true q r s t _ _ _ _ _ = h
    go false true r s t _ _ _ _ _ = h
    go false false true s t _ _ _ _ _ = h
    go false false false true t _ _ _ _ _ = h
    go false false false false true _ _ _ _ _ = h
    go false false false false false p q r s t = by_itself b rest p q r s t h

pub escaped_text : (text : List ℕ) → is_harmless (escaped text) ≡ true
escaped_text [] = refl
escaped_text (b ∷ bs) = escaped_byte b (escaped bs) (escaped_text bs)

alone : (b : ℕ) → b ≢ 38 → b ≢ 60 → b ≢ 62 → b ≢ 34 → b ≢ 39 → is_harmless (b ∷ []) ≡ true
alone b p q r s t =
    by_itself b [] (ne_eqb b 38 p) (ne_eqb b 60 q) (ne_eqb b 62 r) (ne_eqb b 34 s) (ne_eqb b 39 t) refl

pub digit_alone : (d : ℕ) → is_harmless (digit_byte d ∷ []) ≡ true
digit_alone d = go (nat_le d 9) refl
  where
    go : (v : Bool) → nat_le d 9 ≡ v → is_harmless (cond v (48 + d) (87 + d) ∷ []) ≡ true
    go true e =
        let small : d ≤ 9 = leb-true d 9 e in
        alone (48 + d) (λ x. absurd (omega arith)) (λ x. absurd (omega arith)) (λ x. absurd (omega arith))
        (λ x. absurd (omega arith)) (λ x. absurd (omega arith))
    go false e =
        alone (87 + d) (λ x. absurd (omega arith)) (λ x. absurd (omega arith)) (λ x. absurd (omega arith))
        (λ x. absurd (omega arith)) (λ x. absurd (omega arith))

abbrev Fits : ℕ → List ℕ → Type 0
Fits b after = (b ≢ 60) × (b ≢ 62) × (b ≢ 34) × (b ≢ 39) × (b ≡ 38 → begins_reference (b ∷ after) ≡ true)

first : (b : ℕ) (after : List ℕ) → is_harmless (b ∷ after) ≡ true → Fits b after
first b after h = (
  λ e. absurd (true≢false (sym (ap (λ x. is_harmless (x ∷ after)) (sym e) ∙ h))),
  λ e. absurd (true≢false (sym (ap (λ x. is_harmless (x ∷ after)) (sym e) ∙ h))),
  λ e. absurd (true≢false (sym (ap (λ x. is_harmless (x ∷ after)) (sym e) ∙ h))),
  λ e. absurd (true≢false (sym (ap (λ x. is_harmless (x ∷ after)) (sym e) ∙ h))),
  λ e. subst (λ x. begins_reference (x ∷ after) ≡ true) (sym e)
      (both (begins_reference (38 ∷ after)) (is_harmless after) (ap (λ x. is_harmless (x ∷ after)) (sym e) ∙ h)).0,
)

at : (before after : List ℕ) (b : ℕ) → is_harmless (before ++ b ∷ after) ≡ true → Fits b after
at [] after b h = first b after h
at (x ∷ xs) after b h = at xs after b
    (last (not (nat_eq x 60)) (not (nat_eq x 62)) (not (nat_eq x 34)) (not (nat_eq x 39))
    (not (nat_eq x 38) || begins_reference (x ∷ xs ++ b ∷ after)) (is_harmless (xs ++ b ∷ after)) h)

harmless : (text : List ℕ) → is_harmless text ≡ true → IsHarmless text
harmless text h before after b is = at before after b (ap is_harmless (sym is) ∙ h)

piece : (p : Part) → IsPiece (part_bytes p)
piece (Markup t) = inl (t, refl)
piece (Digit d) = inr (harmless (digit_byte d ∷ []) (digit_alone d))
piece RowEnd = inr (harmless (10 ∷ []) refl)
piece (Name bs) = inr (harmless (escaped bs) (escaped_text bs))
piece (Text bs) = inr (harmless (escaped bs) (escaped_text bs))

parts_joined : (ps : List Part) → parts_bytes ps ≡ concat (map part_bytes ps)
parts_joined [] = refl
parts_joined (p ∷ ps) = ap (λ bs. part_bytes p ++ bs) (parts_joined ps)

pub page_is_safe : (bytes : List ℕ) → IsPage bytes → IsSafe bytes
page_is_safe bytes page = record {
  pieces = map part_bytes page.parts;
  joined = page.joined ∙ parts_joined page.parts;
  harmless = All-map IsPiece part_bytes page.parts (λ k d lt. piece (slice_index_or page.parts k d));
}
