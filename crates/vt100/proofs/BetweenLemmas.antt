-- The text between two places of a screen, written row by row.
use Rattle.std.proofs.Common.{◌≡◌, ℕ, zero, suc, ◌+◌, ◌-◌, ◌<◌, ◌≤◌, ◌==◌, Bool, true, false, cond, nat_lt, min, List}
use Rattle.std.proofs.Common.{[]}
use Rattle.std.proofs.Common.{◌∷◌, ◌++◌, length, refl, sym, ap, ◌∙◌, arith, append_assoc, append-nil}
use Rattle.std.proofs.Common.{subst, ⊎_elim}
use Rattle.std.specs.Prelude.{encode_utf8_all, encode_utf8, Some}
use Rattle.std.proofs.lemmas.Str.{encodes-append, length-encode, len_utf8_bounds}
use Rattle.std.proofs.lemmas.Bool.{cases_lt, le-ltb, lt-ltb}
use Rattle.std.proofs.lemmas.Bool.Decides.{nat_tests}
use Rattle.vt100_cells.specs.Cells.{cell_at}
use Rattle.vt100_rows.specs.Row.{RowView}
use Rattle.vt100_rows.specs.Text.{row_text, line_text, written_text}
use Rattle.vt100_core.specs.Grid.{GridView, visible_at, visible_row_at}
use Rattle.vt100_core.proofs.ShowLemmas.{shown-some}
use Rattle.vt100.specs.Texts.{rest_of_row, rows_from, text_between}

-- ---- one row

-- as many columns as there are up to column e
pub row_text-to : (v : RowView) (s n e : ℕ) → n ≡ e - s → row_text v s (s + n) ≡ row_text v s e
row_text-to v s n e h =
    let same : min (s + n) (length v.cells) - s ≡ min e (length v.cells) - s = omega arith in
    ap (line_text (cell_at v.cells) s) same

pub rest-newline : (v : RowView) (s n w : ℕ) (old was now : List ℕ) → n ≡ w - s
    → was ≡ old ++ encode_utf8_all (written_text v s n false) → v.wrapped ≡ false → now ≡ was ++ encode_utf8 10
    → now ≡ old ++ encode_utf8_all (rest_of_row v s w)
rest-newline v s n w old was now h ew e en =
    rw (en, ew, row_text-to v s n w h, e, encodes-append (row_text v s w) (10 ∷ []), append-nil)
    (append_assoc old (encode_utf8_all (row_text v s w)) (encode_utf8 10))

-- ---- the loop over the rows

-- n rows from r on are written, and the next begins at `start`
pub record IsBetween (g : GridView) (r s n : ℕ) (bytes : List ℕ) (start : ℕ) : Type 0 where
  pub text : bytes ≡ encode_utf8_all (rows_from g r s n)
  pub begins : start ≡ cond (n == 0) s 0
  pub few : n ≤ length g.rows - r

pub IsBetween-next : (g : GridView) (r s n m k w : ℕ) (v : RowView) (start : ℕ) (was now : List ℕ) → m ≡ suc n
    → k ≡ r + n → k < length g.rows → v ≡ visible_at g k → w ≡ g.width → IsBetween g r s n was start
    → now ≡ was ++ encode_utf8_all (rest_of_row v start w) → IsBetween g r s m now 0
IsBetween-next g r s n m k w v start was now e ek on ev ew h en = rw e (record {
  text =
      rw (en, h.text, ev, ek, h.begins, ew)
      (sym (encodes-append (rows_from g r s n) (rest_of_row (visible_at g (r + n)) (cond (n == 0) s 0) g.width)));
  begins = grind (arith, nat_tests);
  few = omega arith;
})

-- ---- the last row

between-whole : (g : GridView) (r s q e : ℕ) (b : Bool) (last : List ℕ) → nat_lt q r ≡ false
    → nat_lt q (length g.rows) ≡ b
    → cond b (row_text (visible_at g q) (cond (r == q) s 0) e) [] ≡ last
    → text_between g r s q e ≡ rows_from g r s (min q (length g.rows) - r) ++ last
between-whole g r s q e b last h hb hl =
    let rows = rows_from g r s (min q (length g.rows) - r) in
    let row = row_text (visible_at g q) (cond (r == q) s 0) e in
    ap (λ (t : Bool). cond t [] (rows ++ cond (nat_lt q (length g.rows)) row [])) h
    ∙ ap (λ (t : Bool). rows ++ cond t row []) hb ∙ ap (λ cs. rows ++ cs) hl

same-start : (r q s : ℕ) → r ≤ q → cond (q - r == 0) s 0 ≡ cond (r == q) s 0
same-start r q s h = grind (arith, nat_tests)

-- the end lies on the screen
pub between-on : (g : GridView) (r s q e n k : ℕ) (v : RowView) (start : ℕ) (was now : List ℕ) → r ≤ q
    → q < length g.rows → n ≡ q - r → k ≡ e - start → v ≡ visible_at g q → IsBetween g r s n was start
    → now ≡ was ++ encode_utf8_all (written_text v start k false)
    → now ≡ encode_utf8_all (text_between g r s q e)
between-on g r s q e n k v start was now h on en ek ev b enow =
    let count : n ≡ min q (length g.rows) - r = omega arith in
    let from : start ≡ cond (r == q) s 0 = b.begins ∙ ap (λ m. cond (m == 0) s 0) en ∙ same-start r q s h in
    let last = row_text (visible_at g q) (cond (r == q) s 0) e in
    let rows = rows_from g r s (min q (length g.rows) - r) in
    rw (
      enow,
      b.text,
      count,
      row_text-to v start k e ek,
      ev,
      from,
      between-whole g r s q e true last (le-ltb q r h) (lt-ltb q (length g.rows) on) refl,
    ) (sym (encodes-append rows last))

-- a row between lies below the screen, or the end does
pub between-past : (g : GridView) (r s q e n k : ℕ) (start : ℕ) (now : List ℕ) → r ≤ q → k ≤ q → length g.rows ≤ k
    → n ≡ k - r → IsBetween g r s n now start → now ≡ encode_utf8_all (text_between g r s q e)
between-past g r s q e n k start now h later past en b =
    let few = b.few in
    let count : n ≡ min q (length g.rows) - r = omega arith in
    rw (
      b.text,
      count,
      between-whole g r s q e false [] (le-ltb q r h) (le-ltb q (length g.rows) (omega arith)) refl,
      append-nil,
    ) refl

-- ---- the row at a place

pub some-row : (g : GridView) (n : ℕ) (v : RowView) → visible_row_at g n ≡ Some v
    → (n < length g.rows) × (v ≡ visible_at g n)
some-row g n v e = (shown-some g n v e, grind (arith, nat_tests))

-- ---- empty texts

both-empty : (xs ys : List ℕ) → xs ++ ys ≡ [] → (xs ≡ []) × (ys ≡ [])
both-empty [] ys h = (refl, h)
both-empty (x ∷ xs) ys h = let some = ap length h in absurd (omega (arith, some))

pub encodes-empty : (cs : List ℕ) → encode_utf8_all cs ≡ [] → cs ≡ []
encodes-empty [] h = refl
encodes-empty (c ∷ cs) h =
    let none = ap length (both-empty (encode_utf8 c) (encode_utf8_all cs) h).0 in
    absurd (omega (arith, none, length-encode c, (len_utf8_bounds c).0))

-- the rest of a row shows nothing: then its text is empty, and it goes on in the next
pub rest-empty : (v : RowView) (s w : ℕ) → rest_of_row v s w ≡ [] → (row_text v s w ≡ []) × (v.wrapped ≡ true)
rest-empty v s w h =
    let parts = both-empty (row_text v s w) (cond v.wrapped [] (10 ∷ [])) h in
    (parts.0, by v.wrapped parts.1)
  where
    by : (b : Bool) → cond {A = List ℕ} b [] (10 ∷ []) ≡ [] → b ≡ true
    by true h = refl
    by false h = let some = ap length h in absurd (omega (arith, some))

pub written-empty : (v : RowView) (s n w : ℕ) → n ≡ w - s → row_text v s w ≡ []
    → encode_utf8_all (written_text v s n false) ≡ []
written-empty v s n w e h = ap encode_utf8_all (row_text-to v s n w e ∙ h)

rows-empty : (g : GridView) (r s n k : ℕ) → k < n → rows_from g r s n ≡ []
    → rest_of_row (visible_at g (r + k)) (cond (k == 0) s 0) g.width ≡ []
rows-empty g r s zero k l h = absurd (omega (arith, l))
rows-empty g r s (suc n) k l h =
    let parts = both-empty (rows_from g r s n) (rest_of_row (visible_at g (r + n)) (cond (n == 0) s 0) g.width) h in
    ⊎_elim (λ (b : k < n). rows-empty g r s n k b parts.0)
    (λ (b : n ≤ k). let same : n ≡ k = omega (arith, l, b)
    in subst (λ j. rest_of_row (visible_at g (r + j)) (cond (j == 0) s 0) g.width ≡ []) same parts.1) (cases_lt k n)

-- of an empty text between two places each row that it takes shows nothing
pub between-row : (g : GridView) (r s q e k w : ℕ) (v : RowView) (start : ℕ) → r ≤ k → k < q → k < length g.rows
    → v ≡ visible_at g k → w ≡ g.width → start ≡ cond (k - r == 0) s 0 → text_between g r s q e ≡ []
    → rest_of_row v start w ≡ []
between-row g r s q e k w v start from before on ev ew es h =
    let m = min q (length g.rows) - r in
    let last = cond (nat_lt q (length g.rows)) (row_text (visible_at g q) (cond (r == q) s 0) e) [] in
    let whole = between-whole g r s q e (nat_lt q (length g.rows)) last (le-ltb q r (omega (arith, from, before))) refl
    refl in
    let rows = both-empty (rows_from g r s m) last (sym whole ∙ h) in
    let at : r + (k - r) ≡ k = omega (arith, from) in
    let here = rows-empty g r s m (k - r) (omega (arith, from, before, on)) rows.0 in
    (λ i. rest_of_row (ev i) (es i) (ew i))
    ∙ ap (λ j. rest_of_row (visible_at g j) (cond (k - r == 0) s 0) g.width) (sym at) ∙ here

pub between-last : (g : GridView) (r s q e n : ℕ) (v : RowView) (start : ℕ) → r ≤ q → q < length g.rows
    → v ≡ visible_at g q → start ≡ cond (q - r == 0) s 0 → n ≡ e - start → text_between g r s q e ≡ []
    → encode_utf8_all (written_text v start n false) ≡ []
between-last g r s q e n v start ordered on ev es en h =
    let last = row_text (visible_at g q) (cond (r == q) s 0) e in
    let rows = rows_from g r s (min q (length g.rows) - r) in
    let whole = between-whole g r s q e true last (le-ltb q r ordered) (lt-ltb q (length g.rows) on) refl in
    let parts = both-empty rows last (sym whole ∙ h) in
    written-empty v start n e en ((λ i. row_text (ev i) ((es ∙ same-start r q s ordered) i) e) ∙ parts.1)
