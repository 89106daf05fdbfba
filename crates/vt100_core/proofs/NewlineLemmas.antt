-- The newlines at the end of a text, and texts that don't end in one.
use Rattle.std.proofs.Common.{◌≡◌, ℕ, zero, suc, ◌+◌, ◌-◌, ◌<◌, ◌≤◌, ◌==◌, ◌%◌, ◌/◌, Bool, true, false, cond, not}
use Rattle.std.proofs.Common.{nat_lt}
use Rattle.std.proofs.Common.{List, [], ◌∷◌, ◌++◌, length, take, replicate, refl, sym, ap, ◌∙◌, subst, arith}
use Rattle.std.proofs.Common.{append_assoc}
use Rattle.std.proofs.Common.{append-nil, length-append, All, ◌&&◌, min, ⊎_elim}
use Rattle.std.specs.Prelude.{encode_utf8_all, encode_utf8, reverse}
use Rattle.std.specs.List.{prefix_len, suffix_len}
use lib.Utf8.{encode}
use Rattle.std.proofs.lemmas.Bool.{cases_lt, cond_both, ne_eqb, false≢true}
use Rattle.std.proofs.lemmas.Bool.Decides.{nat_tests}
use Rattle.std.proofs.lemmas.Str.{encodes-append, encode_ascii}
use Rattle.std.proofs.lemmas.List.Elements.{All-drop}
use Rattle.std.proofs.lemmas.List.{reverse-append, length-reverse, length-take, take-append-le}
use Rattle.std.proofs.lemmas.List.{replicate-append-replicate}
use Rattle.std.proofs.lemmas.List.Sums.{suffix_len-le-length}
use Rattle.unicode_width.specs.Width.{char_width}
use Rattle.vt100_cells.specs.Cell.{CellView, IsCell, IsCellText, columns_of, is_undrawable, has_text}
use Rattle.vt100_cells.specs.Cells.{cell_at}
use Rattle.row_drawing.specs.Writes.{IsBegun}
use Rattle.vt100_rows.specs.Row.{RowView, IsRow}
use Rattle.vt100_rows.specs.Text.{column_text, columns_text, line_text, row_text, written_text}
use Rattle.vt100_core.specs.Contents.{newlines_cut}

abbrev is_newline : ℕ → Bool
is_newline c = c == 10

-- ---- newlines at the end

one-less : (xs : List ℕ) → suffix_len is_newline (xs ++ 10 ∷ []) ≡ 1 + suffix_len is_newline xs
one-less xs = ap (prefix_len is_newline) (reverse-append xs (10 ∷ []))

-- one more at the end is cut too
cut-one : (xs : List ℕ) → newlines_cut (xs ++ 10 ∷ []) ≡ newlines_cut xs
cut-one xs =
    let n = length xs - suffix_len is_newline xs in
    let same : length (xs ++ 10 ∷ []) - suffix_len is_newline (xs ++ 10 ∷ []) ≡ n = omega (
      arith,
      one-less xs,
      length-append xs (10 ∷ []),
      suffix_len-le-length is_newline xs,
    ) in
    ap (λ k. take k (xs ++ 10 ∷ [])) same ∙ take-append-le n xs (10 ∷ []) (omega arith)

-- so are some more
pub cut-newlines : (xs : List ℕ) (k : ℕ) → newlines_cut (xs ++ replicate k 10) ≡ newlines_cut xs
cut-newlines xs zero = ap newlines_cut (append-nil xs)
cut-newlines xs (suc k) =
    ap newlines_cut (sym (append_assoc xs (10 ∷ []) (replicate k 10))) ∙ cut-newlines (xs ++ 10 ∷ []) k ∙ cut-one xs

-- ---- texts that end in something else

-- bytes, or characters, of which the last isn't a newline
abbrev pub EndsOtherwise : List ℕ → Type 0
EndsOtherwise cs = (prefix : List ℕ) × (c : ℕ) × (cs ≡ prefix ++ c ∷ []) × ((c == 10) ≡ false)

pub ends-after : (xs bs : List ℕ) → EndsOtherwise bs → EndsOtherwise (xs ++ bs)
ends-after xs bs h = (xs ++ h.0, h.1, ap (λ cs. xs ++ cs) h.2 ∙ sym (append_assoc xs h.0 (h.1 ∷ [])), h.3)

-- UTF-8 keeps that
ends-encode : (c : ℕ) → (c == 10) ≡ false → EndsOtherwise (encode c)
unfolding encode
ends-encode c e =
    let next = 128 + c % 64 in
    let other : (next == 10) ≡ false = ne_eqb next 10 (λ z. omega (arith, z)) in
    cond_both (nat_lt c 128) (c ∷ [])
    (cond (nat_lt c 2048) ((192 + c / 64) ∷ next ∷ []) (cond (nat_lt c 65536)
    ((224 + c / 4096) ∷ (128 + (c / 64) % 64) ∷ next ∷ [])
    ((240 + c / 262144) ∷ (128 + (c / 4096) % 64) ∷ (128 + (c / 64) % 64) ∷ next ∷ []))) EndsOtherwise
    (λ _. ([], c, refl, e))
    (λ _. cond_both (nat_lt c 2048) ((192 + c / 64) ∷ next ∷ []) (cond (nat_lt c 65536)
    ((224 + c / 4096) ∷ (128 + (c / 64) % 64) ∷ next ∷ [])
    ((240 + c / 262144) ∷ (128 + (c / 4096) % 64) ∷ (128 + (c / 64) % 64) ∷ next ∷ [])) EndsOtherwise
    (λ _. ((192 + c / 64) ∷ [], next, refl, other))
    (λ _. cond_both (nat_lt c 65536) ((224 + c / 4096) ∷ (128 + (c / 64) % 64) ∷ next ∷ [])
    ((240 + c / 262144) ∷ (128 + (c / 4096) % 64) ∷ (128 + (c / 64) % 64) ∷ next ∷ []) EndsOtherwise
    (λ _. ((224 + c / 4096) ∷ (128 + (c / 64) % 64) ∷ [], next, refl, other))
    (λ _. ((240 + c / 262144) ∷ (128 + (c / 4096) % 64) ∷ (128 + (c / 64) % 64) ∷ [], next, refl, other))))

pub ends-encoded : (cs : List ℕ) → EndsOtherwise cs → EndsOtherwise (encode_utf8_all cs)
ends-encoded cs h =
    subst EndsOtherwise (sym (ap encode_utf8_all h.2 ∙ encodes-append h.0 (h.1 ∷ [])))
    (ends-after (encode_utf8_all h.0) (encode_utf8 h.1 ++ []) (subst EndsOtherwise (sym (append-nil (encode_utf8 h.1)))
    (ends-encode h.1 h.3)))

-- what comes after such a text may be cut, but nothing of the text itself
prefix-stops : (xs bs : List ℕ) (c : ℕ) → (c == 10) ≡ false → prefix_len is_newline (xs ++ c ∷ bs) ≤ length xs
prefix-stops [] bs c e = let none : prefix_len is_newline (c ∷ bs) ≡ 0 = ap (λ b. cond b (1 + prefix_len is_newline bs)
    0) e in
    omega (arith, none)
prefix-stops (a ∷ xs) bs c e =
    let more = prefix-stops xs bs c e in
    cond_both (a == 10) (1 + prefix_len is_newline (xs ++ c ∷ bs)) 0 (λ n. n ≤ suc (length xs))
    (λ _. omega (arith, more))
    (λ _. omega arith)

pub cut-behind : (xs rest : List ℕ) → EndsOtherwise xs → length xs ≤ length (newlines_cut (xs ++ rest))
cut-behind xs rest h =
    let whole = xs ++ rest in
    let turned : reverse whole ≡ reverse rest ++ h.1 ∷ reverse h.0 =
    reverse-append xs rest ∙ ap (λ cs. reverse rest ++ reverse cs) h.2
    ∙ ap (λ cs. reverse rest ++ cs) (reverse-append h.0 (h.1 ∷ [])) in
    let few : suffix_len is_newline whole ≤ length rest = omega (
      arith,
      ap (prefix_len is_newline) turned,
      prefix-stops (reverse rest) (reverse h.0) h.1 h.3,
      length-reverse rest,
    ) in
    omega (
      arith,
      few,
      length-append xs rest,
      length-take (length whole - suffix_len is_newline whole) whole,
    )

-- ---- cells

newline_is_undrawable : is_undrawable 10 ≡ true
unfolding char_width
newline_is_undrawable = refl

newline_is_narrow : columns_of 10 ≡ 1
unfolding char_width
newline_is_narrow = refl

last-of : (c : ℕ) (cs : List ℕ) → is_undrawable c ≡ false → All (λ d. columns_of d ≡ 0) cs → EndsOtherwise (c ∷ cs)
last-of c [] e h = ([], c, refl, ne_eqb c 10 (λ z. false≢true (sym e ∙ ap is_undrawable z ∙ newline_is_undrawable)))
last-of c (d ∷ ds) e h =
    let narrow = h 0 0 (omega arith) in
    ends-after (c ∷ []) (d ∷ ds) (last-of-zero d ds narrow (All-drop (λ x. columns_of x ≡ 0) 1 (d ∷ ds) h))
  where
    last-of-zero : (c : ℕ) (cs : List ℕ) → columns_of c ≡ 0 → All (λ d. columns_of d ≡ 0) cs → EndsOtherwise (c ∷ cs)
    last-of-zero c [] z h = ([], c, refl, ne_eqb c 10 (λ e. omega (arith, newline_is_narrow, z, ap columns_of e)))
    last-of-zero c (d ∷ ds) z h = ends-after (c ∷ []) (d ∷ ds)
        (last-of-zero d ds (h 0 0 (omega arith)) (All-drop (λ x. columns_of x ≡ 0) 1 (d ∷ ds) h))

pub ends-cell : (x : CellView) → IsCell x → has_text x ≡ true → EndsOtherwise x.text
ends-cell x i h = by x.text i.characters h
  where
    by : (cs : List ℕ) → IsCellText cs → not (length cs == 0) ≡ true → EndsOtherwise cs
    by [] i h = absurd (false≢true h)
    by (c ∷ cs) i h = last-of c cs i.0 i.2

-- ---- rows

has-column : (f : ℕ → CellView) (s k : ℕ) → has_text (f k) ≡ true → column_text f s k ≡ (f k).text
has-column f s k h = rw h refl

line-ends : (f : ℕ → CellView) → ((k : ℕ) → IsCell (f k)) → (s n : ℕ) → not (length (line_text f s n) == 0) ≡ true
    → EndsOtherwise (line_text f s n)
line-ends f cells s zero h = absurd (false≢true h)
line-ends f cells s (suc n) h =
    cond_both (has_text (f (s + n))) (columns_text f s (suc n)) (line_text f s n)
    (λ (cs : List ℕ). not (length cs == 0) ≡ true → EndsOtherwise cs)
    (λ e _. ends-after (columns_text f s n) (column_text f s (s + n))
    (subst EndsOtherwise (sym (has-column f s (s + n) e)) (ends-cell (f (s + n)) (cells (s + n)) e)))
    (λ _ some. line-ends f cells s n some) h

pub some-length : (cs : List ℕ) → 0 < length cs → not (length cs == 0) ≡ true
some-length cs h = grind (arith, nat_tests)

pub row-ends : (v : RowView) (w : ℕ) → IsRow v → 0 < length (row_text v 0 w) → EndsOtherwise (row_text v 0 w)
row-ends v w i h =
    line-ends (cell_at v.cells) i.cells 0 (min w (length v.cells) - 0) (some-length (row_text v 0 w) h)

no-columns : (f : ℕ → CellView) (n : ℕ) → ((k : ℕ) → k < n → has_text (f k) ≡ false) → line_text f 0 n ≡ []
no-columns f zero h = refl
no-columns f (suc n) h =
    let here : 0 + n ≡ n = omega arith in
    ap (λ b. cond b (columns_text f 0 (suc n)) (line_text f 0 n)) (ap (λ k. has_text (f k)) here ∙ h n (omega arith))
    ∙ no-columns f n (λ k l. h k (omega (arith, l)))

-- none of the first columns has a text
pub row-blank : (v : RowView) (w n : ℕ) → n ≡ min (length v.cells) w
    → ((k : ℕ) → k < n → has_text (cell_at v.cells k) ≡ false) → row_text v 0 w ≡ []
row-blank v w n e h =
    let m = min w (length v.cells) - 0 in
    let same : m ≡ n = omega (arith, e) in
    no-columns (cell_at v.cells) m (λ k l. h k (omega (arith, l, same)))

-- one has
line-some : (f : ℕ → CellView) (k n : ℕ) → k < n → has_text (f k) ≡ true → 0 < length (line_text f 0 n)
line-some f k zero l h = absurd (omega (arith, l))
line-some f k (suc n) l h =
    cond_both (has_text (f (0 + n))) (columns_text f 0 (suc n)) (line_text f 0 n) (λ cs. 0 < length cs)
    (λ e. let some : 0 < length (column_text f 0 (0 + n)) = subst (λ cs. 0 < length cs) (sym (has-column f 0 (0 + n) e))
    (text-some (f (0 + n)) e) in omega (arith, some, length-append (columns_text f 0 n) (column_text f 0 (0 + n))))
    (λ e. let before : k < n = below e in line-some f k n before h)
  where
    text-some : (x : CellView) → has_text x ≡ true → 0 < length x.text
    text-some x e = grind (arith, nat_tests)

    below : has_text (f (0 + n)) ≡ false → k < n
    below e = ⊎_elim (λ (b : k < n). b) (λ (b : n ≤ k). let same : 0 + n ≡ k = omega (arith, l, b) in
        absurd (false≢true (sym e ∙ ap (λ j. has_text (f j)) same ∙ h))) (cases_lt k n)

pub row-some : (v : RowView) (w k n : ℕ) → n ≡ min (length v.cells) w → k < n → has_text (cell_at v.cells k) ≡ true
    → 0 < length (row_text v 0 w)
row-some v w k n e l h =
    line-some (cell_at v.cells) k (min w (length v.cells) - 0) (omega (arith, e, l)) h

-- what is written of a row that shows a text, and of one that shows none
pub written-text : (v : RowView) (w : ℕ) (wrapping : Bool) → 0 < length (row_text v 0 w)
    → written_text v 0 w wrapping ≡ row_text v 0 w
written-text v w wrapping h =
    let same : 0 + w ≡ w = omega arith in
    ap (λ k. cond (wrapping && (length (row_text v 0 k) == 0)) (10 ∷ []) (row_text v 0 k)) same
    ∙ ap (λ b. cond b (10 ∷ []) (row_text v 0 w)) (state_after wrapping (length (row_text v 0 w)) h)
  where
    state_after : (b : Bool) (n : ℕ) → 0 < n → (b && (n == 0)) ≡ false
    state_after true n l = ne_eqb n 0 (λ z. omega (arith, l, z))
    state_after false n l = refl

written-none : (v : RowView) (w : ℕ) (wrapping : Bool) → row_text v 0 w ≡ []
    → written_text v 0 w wrapping ≡ replicate (cond wrapping 1 0) 10
written-none v w wrapping e =
    let same : 0 + w ≡ w = omega arith in
    ap (λ k. cond (wrapping && (length (row_text v 0 k) == 0)) (10 ∷ []) (row_text v 0 k)) same
    ∙ ap (λ (cs : List ℕ). cond (wrapping && (length cs == 0)) (10 ∷ []) cs) e ∙ by wrapping
  where
    by : (b : Bool) → cond (b && true) (10 ∷ []) [] ≡ replicate {A = ℕ} (cond b 1 0) 10
    by true = refl
    by false = refl

encodes-newlines : (n : ℕ) → encode_utf8_all (replicate n 10) ≡ replicate n 10
encodes-newlines zero = refl
encodes-newlines (suc n) = ap (λ bs. bs ++ encode_utf8_all (replicate n 10)) (encode_ascii 10 (omega arith))
    ∙ ap (λ (bs : List ℕ). 10 ∷ bs) (encodes-newlines n)

-- newlines are pending
pub more-owed : (old : List ℕ) (n k m : ℕ) → n + k ≡ m
    → old ++ replicate m 10 ≡ (old ++ replicate n 10) ++ encode_utf8_all (replicate k 10)
more-owed old n k m e =
    ap (λ j. old ++ replicate j 10) (sym e) ∙ ap (λ bs. old ++ bs) (sym (replicate-append-replicate n k 10))
    ∙ sym (append_assoc old (replicate n 10) (replicate k 10))
    ∙ ap (λ bs. (old ++ replicate n 10) ++ bs) (sym (encodes-newlines k))

pub owed-blank : (old : List ℕ) (v : RowView) (w n m : ℕ) (wrapping : Bool) → m ≡ n + cond wrapping 1 0
    → row_text v 0 w ≡ []
    → old ++ replicate m 10 ≡ (old ++ replicate n 10) ++ encode_utf8_all (written_text v 0 w wrapping)
owed-blank old v w n m wrapping em e =
    more-owed old n (cond wrapping 1 0) m (sym em)
    ∙ ap (λ cs. (old ++ replicate n 10) ++ encode_utf8_all cs) (sym (written-none v w wrapping e))

-- the row's text is appended after them
pub owed-text : (old was now : List ℕ) (v : RowView) (w n : ℕ) (wrapping : Bool) → 0 < length (row_text v 0 w)
    → was ≡ old ++ replicate n 10 → now ≡ was ++ encode_utf8_all (written_text v 0 w false)
    → now ≡ (old ++ replicate n 10) ++ encode_utf8_all (written_text v 0 w wrapping)
owed-text old was now v w n wrapping some ew en =
    en ∙ ap (λ (bs : List ℕ). bs ++ encode_utf8_all (written_text v 0 w false)) ew
    ∙ ap (λ cs. (old ++ replicate n 10) ++ encode_utf8_all cs) (written-text v w false some
    ∙ sym (written-text v w wrapping some))

pub one-owed : (wrapped : Bool) (old : List ℕ) (n m : ℕ) → wrapped ≡ false → n + 1 ≡ m
    → old ++ replicate m 10 ≡ (old ++ replicate n 10) ++ encode_utf8_all (cond wrapped [] (10 ∷ []))
one-owed wrapped old n m e em =
    more-owed old n 1 m em ∙ ap (λ b. (old ++ replicate n 10) ++ encode_utf8_all (cond b [] (10 ∷ []))) (sym e)

-- ---- where memory ran out

pub begun-newlines : (n k : ℕ) (old now : List ℕ) → k ≤ n → now ≡ old ++ replicate k 10
    → IsBegun old (replicate n 10) now
begun-newlines n k old now h e =
    let whole : k + (n - k) ≡ n = omega arith in (
      replicate k 10,
      replicate (n - k) 10,
      ap (λ m. replicate m 10) (sym whole) ∙ sym (replicate-append-replicate k (n - k) 10),
      e,
    )
