-- Marks in parts of a text.
use Rattle.std.proofs.Common.{◌≡◌, refl, inl, inr, ℕ, zero, suc, false, List, [], ◌∷◌, ◌++◌, ◌<◌, ◌≤◌, ◌+◌, ◌-◌, ◌==◌}
use Rattle.std.proofs.Common.{length, take, drop, slice_index, arith, length-drop, length-take, ap, sym, ◌∙◌}
use Rattle.std.proofs.lemmas.List.{drop-drop, drop-append-le, take-append-le, get_or-drop, get_or-take, take_all}
use Rattle.std.proofs.Common.{◌&&◌}
use Rattle.std.proofs.Math.Bool.{and-false}
use Rattle.std.specs.Prelude.{nat_eq}
use Rattle.std.specs.List.{starts_with}
use Rattle.std.proofs.lemmas.Bool.{cases_lt, eq-eqb, eqb-true, false_from_ne_true}
use Rattle.memchr.specs.Find.{Nowhere, Passes, is_byte}
use Rattle.vte.specs.Marks.{is_found_at, NoneFrom, end_mark}

-- if no mark begins at a place or later, none is in the text from there on
pub none_after : (n : ℕ) (text : List ℕ) → NoneFrom end_mark text n → NoneFrom end_mark (drop n text) 0
none_after n text none k low below =
    let inside : n + k < length text = omega (arith, length-drop n text, below) in
    rw drop-drop (none (n + k) (omega arith) inside)

pub none_in_empty : NoneFrom end_mark [] 0
none_in_empty k low below = absurd (omega arith)

-- A mark that is whole in the prefix is there without the rest too.
same_in_prefix : (held piece : List ℕ) (k : ℕ) → k + 8 ≤ length held
    → is_found_at end_mark (held ++ piece) k ≡ is_found_at end_mark held k
same_in_prefix held piece k fits =
    let low : k ≤ length held = omega arith in
    let whole : 8 ≤ length (drop k held) = omega (arith, length-drop k held) in
    rw (drop-append-le, take-append-le) refl

-- if the held bytes have no end mark, one in the held bytes and the piece begins in the last 7 of the held ones or
-- later
pub none_from_seen : (held piece : List ℕ) (seen : ℕ) → seen ≤ length held - 7 → NoneFrom end_mark held 0
    → NoneFrom end_mark (held ++ piece) seen → NoneFrom end_mark (held ++ piece) 0
none_from_seen held piece seen close old new k low below =
    elim (cases_lt k seen) [
      | inl sooner ↦ let fits : k + 8 ≤ length held = omega (arith, close, sooner)
          in same_in_prefix held piece k fits ∙ old k low (omega arith)
      | inr later ↦ new k later below
    ]

-- a text of which one byte isn't the mark's doesn't start with the mark
differs : (mark text : List ℕ) (j : ℕ) → j < length mark
    → (j < length text → slice_index text j ≡ slice_index mark j → ⊥) → starts_with nat_eq text mark ≡ false
differs [] text j some other = absurd (omega arith)
differs (m ∷ mark) [] j some other = refl
differs (m ∷ mark) (t ∷ text) zero some other =
    rw (false_from_ne_true (m == t) (λ is. other (omega arith) (sym (eqb-true m t is)))) refl
differs (m ∷ mark) (t ∷ text) (suc j) some other =
    ap (λ b. (m == t) && b) (differs mark text j (omega arith) (λ h e. other (omega arith) e)) ∙ and-false (m == t)

-- where the third byte of a mark isn't, the mark isn't
not_sought : (mark text : List ℕ) (k : ℕ) → 2 < length mark
    → (k + 2 < length text → ¬ Passes (is_byte (slice_index mark 2)) text (k + 2)) → is_found_at mark text k ≡ false
not_sought mark text k some other =
    differs mark (drop k text) 2 some
    (λ h e. other (omega (arith, length-drop k text, h))
    (eq-eqb (slice_index text (k + 2)) (slice_index mark 2) (sym (get_or-drop k text 2 0) ∙ e)))

-- no mark is in a stretch of a part of the text, `n` bytes from `from` on
pub none_in_part : (mark text : List ℕ) (from n i j : ℕ) → 2 < length mark → from + n ≤ length text → j ≤ n
    → Nowhere (Passes (is_byte (slice_index mark 2)) (take n (drop from text))) i j → (k : ℕ) → from + i ≤ k + 2
    → k + 2 < from + j → is_found_at mark text k ≡ false
none_in_part mark text from n i j some fits inside nowhere k low high =
    let place : from + (k + 2 - from) ≡ k + 2 = omega (arith, low) in
    let reads : slice_index (take n (drop from text)) (k + 2 - from) ≡ slice_index text (k + 2) =
    get_or-take n (drop from text) (k + 2 - from) 0 (omega arith)
    ∙ (get_or-drop from text (k + 2 - from) 0 ∙ ap (slice_index text) place) in
    not_sought mark text k some (λ _ is. nowhere (k + 2 - from) (omega arith) (omega arith) (rw reads is))

-- no mark begins so late that its third byte lies after the end of the text
pub none_at_end : (mark text : List ℕ) (k : ℕ) → 2 < length mark → length text ≤ k + 2 → is_found_at mark text k ≡ false
none_at_end mark text k some late = not_sought mark text k some (λ inside. absurd (omega arith))

-- a byte of a part of the text is a byte of the text
pub part_in : (text : List ℕ) (from n at : ℕ) → at < length (take n (drop from text)) → (at < n)
    × (from + at < length text)
part_in text from n at h =
    let size = length-take n (drop from text) in
    (omega (arith, h, size), omega (arith, h, size, length-drop from text))

pub rest_is : (text : List ℕ) (k : ℕ) → take (length text - k) (drop k text) ≡ drop k text
rest_is text k = take_all (length text - k) (drop k text) (omega (arith, length-drop k text))
