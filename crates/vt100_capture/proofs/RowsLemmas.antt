-- The rows of a capture, character by character.
use Rattle.std.proofs.Common.{◌≡◌, ℕ, ◌+◌, ◌-◌, ◌<◌, ◌≤◌}
use Rattle.std.proofs.Common.{◌==◌, Bool, true, false, not, ◌&&◌, cond, nat_lt, List}
use Rattle.std.proofs.Common.{[], ◌∷◌, ◌++◌, length, take, drop, map, refl, sym, ap, subst, ◌∙◌, arith, append_assoc}
use Rattle.std.proofs.Common.{append-nil, length-append, min}
use Rattle.std.specs.Prelude.{encode_utf8_all, encode_utf8, Option, Some, None, unwrap_or, is_none}
use Rattle.std.specs.Str.{chars, all_scalars, IsUtf8, IsCharBoundary}
use Rattle.std.proofs.lemmas.Str.{chars-encodes, encodes-append, encode_same}
use Rattle.std.proofs.lemmas.Str.{encode_ascii, length-encode, len_utf8_bounds}
use Rattle.std.proofs.lemmas.Str.{IsCharBoundary-at_seam, length-le-encodes}
use Rattle.std.proofs.lemmas.Bool.{and_right, true≢false}
use Rattle.std.proofs.Math.Seq.{take-append_seam, drop-append_seam}
use Rattle.std.proofs.lemmas.Bool.Decides.{nat_tests}
use Rattle.unicode_width.specs.Width.{char_width}
use Rattle.vt100_cells.specs.Cell.{columns_of, drawn_columns}
use Rattle.vt100_capture.specs.Rows.{passes_width, rows_from, capture_rows}

-- ---- the characters of a text

rest-scalars : (p q : Bool) → (p && q) ≡ true → q ≡ true
rest-scalars true q e = e
rest-scalars false q e = absurd (true≢false (sym e))

-- a text that begins with c
pub first-char : (left : List ℕ) (c : ℕ) (rest : List ℕ) → encode_utf8_all left ≡ encode_utf8 c ++ rest
    → (more : List ℕ) × (left ≡ c ∷ more) × (rest ≡ encode_utf8_all more)
first-char [] c rest e =
    let n = ap length e in
    let some = len_utf8_bounds c in
    absurd (omega (arith, n, length-append (encode_utf8 c) rest, length-encode c, some.0))
first-char (d ∷ ds) c rest e =
    let same = encode_same d c (encode_utf8_all ds) rest e in
    (ds, ap (λ x. x ∷ ds) same.0, sym same.1)

-- ---- one character

module _ (n taken c : ℕ) (row cs : List ℕ) where
  pub step-inside : rows_from n true taken row (c ∷ cs) ≡ rows_from n (not (c == 109)) taken (row ++ c ∷ []) cs
  step-inside = refl

  abbrev plain : List (List ℕ)
  plain = rows_from n false (taken + columns_of c) (row ++ c ∷ []) cs

  abbrev cut : List (List ℕ)
  cut = row ∷ rows_from n false (columns_of c) (c ∷ []) cs

  abbrev ended : List (List ℕ)
  ended = row ∷ rows_from n false 0 [] cs

  pub step-escape : (c == 27) ≡ true
      → rows_from n false taken row (c ∷ cs) ≡ rows_from n true taken (row ++ c ∷ []) cs
  step-escape e = ap (λ t. cond t (rows_from n true taken (row ++ c ∷ []) cs)
      (cond (c == 10) ended (cond (passes_width n taken c) cut plain))) e

  step-other : (c == 27) ≡ false → (c == 10) ≡ false
      → rows_from n false taken row (c ∷ cs) ≡ cond (passes_width n taken c) cut plain
  step-other e l =
      ap (λ t. cond t (rows_from n true taken (row ++ c ∷ []) cs)
      (cond (c == 10) ended (cond (passes_width n taken c) cut plain))) e
      ∙ ap (λ t. cond t ended (cond (passes_width n taken c) cut plain)) l

  pub step-plain : (c == 27) ≡ false → (c == 10) ≡ false → passes_width n taken c ≡ false
      → rows_from n false taken row (c ∷ cs) ≡ rows_from n false (taken + columns_of c) (row ++ c ∷ []) cs
  step-plain e l w = step-other e l ∙ ap (λ t. cond t cut plain) w

  step-cut : (c == 27) ≡ false → (c == 10) ≡ false → passes_width n taken c ≡ true
      → rows_from n false taken row (c ∷ cs) ≡ row ∷ rows_from n false (columns_of c) (c ∷ []) cs
  step-cut e l w = step-other e l ∙ ap (λ t. cond t cut plain) w

step-newline : (n taken c : ℕ) (row cs : List ℕ) → c ≡ 10
    → rows_from n false taken row (c ∷ cs) ≡ row ∷ rows_from n false 0 [] cs
step-newline n taken c row cs e = rw e refl

no-columns : (n c : ℕ) → passes_width n 0 c ≡ false
no-columns n c = and_right (nat_lt 0 (columns_of c)) (nat_lt 0 0 && nat_lt n (0 + columns_of c)) refl

-- a row that begins with c
step-first : (n c : ℕ) (cs : List ℕ) → (c == 27) ≡ false → (c == 10) ≡ false
    → rows_from n false 0 [] (c ∷ cs) ≡ rows_from n false (columns_of c) (c ∷ []) cs
step-first n c cs e l = step-plain n 0 c [] cs e l (no-columns n c)
    ∙ ap (λ k. rows_from n false k (c ∷ []) cs) (omega arith)

rows-end : (n : ℕ) (inside : Bool) (taken : ℕ) (row : List ℕ) → rows_from n inside taken row [] ≡ row ∷ []
rows-end n true taken row = refl
rows-end n false taken row = refl

-- ---- as far as a row has come

-- `at` bytes of the text bs are read, and `rest` is to come
pub record IsWalked (n : ℕ) (bs : List ℕ) (inside : Bool) (taken at : ℕ) (rest : List ℕ) : Type 0 where
  pub done : List ℕ
  pub left : List ℕ
  pub whole : bs ≡ encode_utf8_all done ++ encode_utf8_all left
  pub ahead : rest ≡ encode_utf8_all left
  pub place : at ≡ length (encode_utf8_all done)
  pub scalars : all_scalars left ≡ true
  pub rows : rows_from n false 0 [] (chars bs) ≡ rows_from n inside taken done left
  pub few : taken ≤ n + 2

pub IsWalked-start : (n at : ℕ) (bs rest : List ℕ) → IsUtf8 bs → rest ≡ bs → at ≡ 0 → IsWalked n bs false 0 at rest
IsWalked-start n at bs rest u e ea = record {
  done = [];
  left = u.0;
  whole = sym u.1.1;
  ahead = e ∙ sym u.1.1;
  place = ea;
  scalars = u.1.0;
  rows = ap (λ xs. rows_from n false 0 [] xs) (ap chars (sym u.1.1) ∙ chars-encodes u.0 u.1.0);
  few = omega arith;
}

-- one character more
module _ (n : ℕ) (bs : List ℕ) (inside : Bool) (taken at : ℕ) (rest : List ℕ) (h : IsWalked n bs inside taken at rest)
    (c : ℕ) (others : List ℕ) (cut : rest ≡ encode_utf8 c ++ others) where
  abbrev parts : (more : List ℕ) × (h.left ≡ c ∷ more) × (others ≡ encode_utf8_all more)
  parts = first-char h.left c others (sym h.ahead ∙ cut)

  pub IsWalked-next : (inside_next : Bool) (taken_next at_next : ℕ) → at_next ≡ at + length (encode_utf8 c)
      → ((row cs : List ℕ) → rows_from n inside taken row (c ∷ cs)
      ≡ rows_from n inside_next taken_next (row ++ c ∷ []) cs)
      → taken_next ≤ n + 2 → IsWalked n bs inside_next taken_next at_next others
  IsWalked-next inside_next taken_next at_next ea step few = record {
    done = h.done ++ c ∷ [];
    left = parts.0;
    whole =
        h.whole ∙ ap (λ cs. encode_utf8_all h.done ++ encode_utf8_all cs) parts.1
        ∙ sym (append_assoc (encode_utf8_all h.done) (encode_utf8 c) (encode_utf8_all parts.0))
        ∙ ap (λ (xs : List ℕ). xs ++ encode_utf8_all parts.0) (sym (one_more));
    ahead = parts.2;
    place = ea ∙ ap (λ k. k + length (encode_utf8 c)) h.place
        ∙ sym (length-append (encode_utf8_all h.done) (encode_utf8 c)) ∙ ap length (sym one_more);
    scalars = rest-scalars _ (all_scalars parts.0) (ap all_scalars (sym parts.1) ∙ h.scalars);
    rows = h.rows ∙ ap (rows_from n inside taken h.done) parts.1 ∙ step h.done parts.0;
    few = few;
  }
    where
      one_more : encode_utf8_all (h.done ++ c ∷ []) ≡ encode_utf8_all h.done ++ encode_utf8 c
      one_more = encodes-append h.done (c ∷ []) ∙ ap (λ xs. encode_utf8_all h.done ++ xs) (append-nil (encode_utf8 c))

  abbrev before : List ℕ
  before = encode_utf8_all h.done

  abbrev after : List ℕ
  after = encode_utf8_all h.left

  taken-part : take at bs ≡ before
  taken-part = ap (take at) h.whole ∙ ap (λ k. take k (before ++ after)) h.place ∙ take-append_seam before after

  dropped-part : drop at bs ≡ after
  dropped-part = ap (drop at) h.whole ∙ ap (λ k. drop k (before ++ after)) h.place ∙ drop-append_seam before after

  seam : IsCharBoundary bs at
  seam = subst (λ k. IsCharBoundary bs k) (sym h.place)
      (IsCharBoundary-at_seam bs before after h.whole (h.left, (h.scalars, refl)))

  so-far : inside ≡ false
      → capture_rows n bs ≡ map encode_utf8_all (rows_from n false taken h.done (c ∷ parts.0))
  so-far ei = ap (map encode_utf8_all) (h.rows ∙ ap (λ b. rows_from n b taken h.done h.left) ei
      ∙ ap (rows_from n false taken h.done) parts.1)

  -- a row ends here, and the next begins with c
  pub walked-cut : inside ≡ false → (c == 27) ≡ false → (c == 10) ≡ false → passes_width n taken c ≡ true
      → (capture_rows n bs ≡ take at bs ∷ capture_rows n (drop at bs)) × IsCharBoundary bs at
  walked-cut ei esc nl wide =
      let next = rows_from n false (columns_of c) (c ∷ []) parts.0 in
      let later : capture_rows n (drop at bs) ≡ map encode_utf8_all next =
      ap (capture_rows n) dropped-part
      ∙ ap (λ xs. map encode_utf8_all (rows_from n false 0 [] xs)) (chars-encodes h.left h.scalars ∙ parts.1)
      ∙ ap (map encode_utf8_all) (step-first n c parts.0 esc nl) in (
        so-far ei ∙ ap (map encode_utf8_all) (step-cut n taken c h.done parts.0 esc nl wide)
            ∙ ap (λ x. x ∷ map encode_utf8_all next) (sym taken-part) ∙ ap (λ xs. take at bs ∷ xs) (sym later),
        seam,
      )

  -- a row ends here, and the next begins after c, a newline
  pub walked-newline : inside ≡ false → c ≡ 10
      → (capture_rows n bs ≡ take at bs ∷ capture_rows n (drop (at + 1) bs))
      × (IsCharBoundary bs at × IsCharBoundary bs (at + 1))
  walked-newline ei nl =
      let more = parts.0 in
      let good : all_scalars more ≡ true =
      rest-scalars _ (all_scalars more) (ap all_scalars (sym parts.1) ∙ h.scalars) in
      let prefix = before ++ encode_utf8 10 in
      let whole : bs ≡ prefix ++ encode_utf8_all more =
      h.whole ∙ ap (λ cs. before ++ encode_utf8_all cs) (parts.1 ∙ ap (λ x. x ∷ more) nl)
      ∙ sym (append_assoc before (encode_utf8 10) (encode_utf8_all more)) in
      let size : length prefix ≡ at + 1 =
      length-append before (encode_utf8 10)
      ∙ ap (λ (xs : List ℕ). length before + length xs) (encode_ascii 10 (omega arith))
      ∙ ap (λ k. k + 1) (sym h.place) in
      let rest : drop (at + 1) bs ≡ encode_utf8_all more =
      ap (λ k. drop k bs) (sym size) ∙ ap (drop (length prefix)) whole ∙ drop-append_seam prefix
      (encode_utf8_all more) in
      let later : capture_rows n (drop (at + 1) bs) ≡ map encode_utf8_all (rows_from n false 0 [] more) =
      ap (capture_rows n) rest
      ∙ ap (λ xs. map encode_utf8_all (rows_from n false 0 [] xs)) (chars-encodes more good) in (
        so-far ei ∙ ap (map encode_utf8_all) (step-newline n taken c h.done more nl)
            ∙ ap (λ x. x ∷ map encode_utf8_all (rows_from n false 0 [] more)) (sym taken-part)
            ∙ ap (λ xs. take at bs ∷ xs) (sym later),
        (
          seam,
          subst (λ k. IsCharBoundary bs k) size
              (IsCharBoundary-at_seam bs prefix (encode_utf8_all more) whole (more, (good, refl))),
        ),
      )

none-left : (cs : List ℕ) → length (encode_utf8_all cs) ≡ 0 → cs ≡ []
none-left [] e = refl
none-left (c ∷ cs) e = absurd (omega (arith, e, length-le-encodes (c ∷ cs)))

-- the whole text is one row
pub walked-whole : (n : ℕ) (bs : List ℕ) (inside : Bool) (taken at : ℕ) (rest : List ℕ) → length rest ≡ 0
    → IsWalked n bs inside taken at rest → capture_rows n bs ≡ bs ∷ []
walked-whole n bs inside taken at rest e h =
    let none : h.left ≡ [] = none-left h.left (sym (ap length h.ahead) ∙ e) in
    ap (map encode_utf8_all) (h.rows ∙ ap (rows_from n inside taken h.done) none ∙ rows-end n inside taken h.done)
    ∙ ap (λ x. x ∷ []) (sym (h.whole ∙ ap (λ cs. encode_utf8_all h.done ++ encode_utf8_all cs) none
    ∙ append-nil (encode_utf8_all h.done)))

-- ---- columns

some-columns : (w : Option ℕ) (b : Bool)
    → unwrap_or (cond (is_none w && b) None (Some (min 2 (unwrap_or w 1)))) 1 ≡ min 2 (unwrap_or w 1)
some-columns None true = refl
some-columns None false = refl
some-columns (Some k) b = refl

-- the columns that a character takes, one where it isn't drawn
pub columns-or-one : (c : ℕ) → unwrap_or (drawn_columns c) 1 ≡ columns_of c
columns-or-one c = some-columns (char_width false c) (nat_lt c 0x100)

few-columns : (c : ℕ) → columns_of c ≤ 2
few-columns c = omega arith

passes : (n taken k : ℕ) → 0 < k → 0 < taken → n < taken + k
    → (nat_lt 0 k && (nat_lt 0 taken && nat_lt n (taken + k))) ≡ true
passes n taken k a b d = grind (arith, nat_tests)

pub passes-width : (n taken k c : ℕ) → k ≡ columns_of c → 0 < k → 0 < taken → n < taken + k
    → passes_width n taken c ≡ true
passes-width n taken k c e a b d =
    ap (λ j. nat_lt 0 j && (nat_lt 0 taken && nat_lt n (taken + j))) (sym e) ∙ passes n taken k a b d

fits-none : (n taken k : ℕ) → k ≤ 0 → (nat_lt 0 k && (nat_lt 0 taken && nat_lt n (taken + k))) ≡ false
fits-none n taken k a = grind (arith, nat_tests)

fits-first : (n taken k : ℕ) → taken ≤ 0 → (nat_lt 0 k && (nat_lt 0 taken && nat_lt n (taken + k))) ≡ false
fits-first n taken k a = grind (arith, nat_tests)

fits-room : (n taken k : ℕ) → taken + k ≤ n → (nat_lt 0 k && (nat_lt 0 taken && nat_lt n (taken + k))) ≡ false
fits-room n taken k a = grind (arith, nat_tests)

-- c joins the row, which stays in bounds
abbrev pub Joins : ℕ → ℕ → ℕ → ℕ → Type 0
Joins n taken k c = (passes_width n taken c ≡ false) × (taken + k ≤ n + 2)

module _ (n taken k c : ℕ) (e : k ≡ columns_of c) (few : taken ≤ n + 2) where
  own : (nat_lt 0 k && (nat_lt 0 taken && nat_lt n (taken + k))) ≡ passes_width n taken c
  own = ap (λ j. nat_lt 0 j && (nat_lt 0 taken && nat_lt n (taken + j))) e

  pub joins-none : k ≤ 0 → Joins n taken k c
  joins-none h = (sym own ∙ fits-none n taken k h, omega arith)

  pub joins-first : taken ≤ 0 → Joins n taken k c
  joins-first h = (sym own ∙ fits-first n taken k h, let m = few-columns c in omega (arith, e, m))

  pub joins-room : taken + k ≤ n → Joins n taken k c
  joins-room h = (sym own ∙ fits-room n taken k h, omega arith)
