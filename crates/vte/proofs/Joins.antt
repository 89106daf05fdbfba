-- Pieces joined by `;`.
use Rattle.std.proofs.Common.{◌≡◌, ap, sym, ℕ, ◌+◌, ◌≤◌, true, List, [], ◌∷◌, ◌++◌, filter, Some, None, map, length}
use Rattle.std.proofs.Common.{length-append, arith, inl, inr}
use Rattle.std.specs.List.{concat, flat_map, join_with_byte}
use Rattle.std.specs.Str.{is_utf8}
use Rattle.std.proofs.lemmas.Bool.{cases_Bool}
use Rattle.std.proofs.lemmas.List.{append-nil}
use Rattle.vte.specs.Osc.{text_or_empty, utf8_or_none, AreKept}

pub join-cons : (x : List ℕ) (xs : List (List ℕ)) → join_with_byte 59 (x ∷ xs) ≡ x ++ flat_map (λ p. 59 ∷ p) xs
join-cons x [] = sym (append-nil x)
join-cons x (y ∷ ys) = ap (λ l. x ++ (59 ∷ l)) (join-cons y ys)

pub join-texts : (x : List ℕ) (ps : List (List ℕ))
    → join_with_byte 59 (x ∷ map text_or_empty ps) ≡ x ++ flat_map (λ p. 59 ∷ text_or_empty p) ps
join-texts x [] = sym (append-nil x)
join-texts x (p ∷ ps) = ap (λ l. x ++ (59 ∷ l)) (join-texts (text_or_empty p) ps)

short : (p : List ℕ) → length (text_or_empty p) ≤ length p
short p = elim (cases_Bool (is_utf8 p)) [ inl e ↦ rw e (omega arith) | inr e ↦ rw e (omega arith) ]

-- a `;` for each piece, and its bytes
after-texts : (ps : List (List ℕ)) → length (flat_map (λ p. 59 ∷ text_or_empty p) ps) ≤ length (concat ps) + length ps
after-texts [] = omega arith
after-texts (p ∷ ps) = omega (
  arith,
  short p,
  after-texts ps,
  length-append (text_or_empty p) (flat_map (λ p. 59 ∷ text_or_empty p) ps),
  length-append p (concat ps),
)

after-utf8 : (ps : List (List ℕ)) → length (flat_map (λ p. 59 ∷ p) (filter is_utf8 ps)) ≤ length (concat ps) + length ps
after-utf8 [] = omega arith
after-utf8 (p ∷ ps) = elim (cases_Bool (is_utf8 p)) [
  | inl e ↦ rw e (omega (
    arith,
    after-utf8 ps,
    length-append p (flat_map (λ p. 59 ∷ p) (filter is_utf8 ps)),
    length-append p (concat ps),
  ))
  | inr e ↦ rw e (omega (arith, after-utf8 ps, length-append p (concat ps)))
]

pub texts_fit : (ps : List (List ℕ)) → AreKept ps → length (join_with_byte 59 (map text_or_empty ps)) ≤ 1040
texts_fit [] h = omega arith
texts_fit (p ∷ ps) h =
    rw (join-texts (text_or_empty p) ps) (omega (
      arith,
      h.pieces,
      h.bytes,
      short p,
      after-texts ps,
      length-append p (concat ps),
      length-append (text_or_empty p) (flat_map (λ p. 59 ∷ text_or_empty p) ps),
    ))

pub utf8_fit : (ps : List (List ℕ)) → length (join_with_byte 59 (filter is_utf8 ps)) ≤ length (concat ps) + length ps
utf8_fit [] = omega arith
utf8_fit (p ∷ ps) = elim (cases_Bool (is_utf8 p)) [
  | inl e ↦ rw (e, join-cons p (filter is_utf8 ps))
      (omega (
        arith,
        after-utf8 ps,
        length-append p (flat_map (λ p. 59 ∷ p) (filter is_utf8 ps)),
        length-append p (concat ps),
      ))
  | inr e ↦ rw e (omega (arith, utf8_fit ps, length-append p (concat ps)))
]

-- the pieces after the first
pub kept_after : (p : List ℕ) (ps : List (List ℕ)) → length (p ∷ ps) ≤ 16 → length (concat (p ∷ ps)) ≤ 1024 → AreKept ps
kept_after p ps few small = record { pieces = omega arith; bytes = omega (arith, small, length-append p (concat ps)) }

-- a piece that is a text
pub some_text : (p f : List ℕ) → Some f ≡ utf8_or_none p → (is_utf8 p ≡ true) × (f ≡ p)
some_text p f h = elim (cases_Bool (is_utf8 p)) [
  | inl e ↦ (e, (let is : Some f ≡ Some p = rw e at h in cc))
  | inr e ↦ absurd (let no : Some f ≡ None = rw e at h in cc)
]
