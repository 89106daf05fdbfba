-- The text that a grid shows: its lines one after another, and the newlines at the end of a text.
use Rattle.std.proofs.Common.{◌≡◌, ℕ, zero, suc, ◌+◌, ◌-◌, ◌<◌, ◌≤◌, Bool, true, false, cond, ◌&&◌, nat_lt, List}
use Rattle.std.proofs.Common.{[], ◌∷◌, ◌++◌, length, drop, get_or, sym, ap, ◌∙◌, arith, append_assoc}
use Rattle.std.proofs.Common.{append-nil, drop-cons, length-append, length-drop, refl, replicate, subst, ⊎_elim}
use Rattle.std.specs.Prelude.{encode_utf8_all, encode_utf8, String, string_bytes, string_len, string_capacity}
use Rattle.std.proofs.lemmas.Bool.{cases_lt}
use Rattle.std.proofs.lemmas.Bool.Decides.{nat_tests}
use Rattle.std.proofs.lemmas.List.{append_cancel_left, length-replicate}
use Rattle.std.proofs.lemmas.Str.{encodes-append}
use Rattle.vt100_rows.specs.Row.{RowView, IsRow, blank_row}
use Rattle.vt100_rows.specs.Text.{row_text, written_text}
use Rattle.row_drawing.specs.Writes.{IsBegun}
use Rattle.row_drawing.proofs.WritesLemmas.{begun_whole}
use Rattle.vt100_rows.proofs.TextLemmas.{IsBegun-within}
use Rattle.vt100_core.specs.Grid.{GridView, IsGrid, visible, visible_at}
use Rattle.vt100_core.specs.Contents.{is_below_wrapped, text_line, text_lines, newlines_cut}
use Rattle.vt100_core.proofs.NewlineLemmas.{EndsOtherwise, ends-after, ends-encoded, cut-behind, row-ends, written-text}
use Rattle.vt100_core.proofs.ShowLemmas.{visible-row}
use Rattle.vt100_rows.proofs.SheetLemmas.{row_at-by_position, length-rows_by_position}

-- ---- the loop over the rows

-- n rows are written after `old`, and `left` are the others; `wrapping` says whether the last of the n goes on in the
-- next
pub record IsShown (g : GridView) (n : ℕ) (left : List RowView) (wrapping : Bool) (old now : List ℕ) : Type 0 where
  pub rows : left ≡ drop n (visible g)
  pub wraps : wrapping ≡ is_below_wrapped g n
  pub bytes : now ≡ old ++ encode_utf8_all (text_lines g n)
  pub few : n ≤ length g.rows

some-left : (rows left : List RowView) (n : ℕ) (v : RowView) → drop n rows ≡ v ∷ left → n < length rows
some-left rows left n v e = let l = ap (λ (xs : List RowView). length xs) e in omega (arith, l, length-drop n rows)

below-some : (n : ℕ) → nat_lt 0 (suc n) ≡ true
below-some n = grind (arith, nat_tests)

pub below-next : (g : GridView) (n : ℕ) → (visible_at g n).wrapped ≡ is_below_wrapped g (suc n)
below-next g n =
    let e : suc n - 1 ≡ n = omega arith in
    ap (λ k. (visible_at g k).wrapped) (sym e) ∙ ap (λ b. b && (visible_at g (suc n - 1)).wrapped) (sym (below-some n))

IsShown-at : (g : GridView) (n m : ℕ) (left : List RowView) (wrapping : Bool) (old now : List ℕ) → m ≡ n
    → IsShown g n left wrapping old now → IsShown g m left wrapping old now
IsShown-at g n m left wrapping old now e h = rw e h

-- the row v is shown at n, and `left` are those below it
record IsNextRow (g : GridView) (n : ℕ) (left : List RowView) (v : RowView) (wrapping : Bool) : Type 0 where
  within : n < length g.rows
  here : v ≡ visible_at g n
  others : left ≡ drop (suc n) (visible g)
  line : text_line g n ≡ written_text v 0 g.width wrapping ++ cond v.wrapped [] (10 ∷ [])

next-row : (g : GridView) (n : ℕ) (from left : List RowView) (v : RowView) (wrapping : Bool) (old was : List ℕ)
    → IsShown g n from wrapping old was → from ≡ v ∷ left → IsNextRow g n left v wrapping
next-row g n from left v wrapping old was h cut =
    let all : drop n (visible g) ≡ v ∷ left = sym h.rows ∙ cut in
    let count = length-rows_by_position (length g.rows) (visible_at g) in
    let within : n < length (visible g) = some-left (visible g) left n v all in
    let parts : v ∷ left ≡ get_or (visible g) n (blank_row 0) ∷ drop (suc n) (visible g) =
    sym all ∙ drop-cons (visible g) n (blank_row 0) within in
    let here : v ≡ visible_at g n =
    ap (λ (xs : List RowView). get_or xs 0 v) parts
    ∙ row_at-by_position (length g.rows) (visible_at g) n (omega (arith, count)) in
    record {
      within = omega (arith, count, within);
      here = here;
      others = ap (λ (xs : List RowView). drop 1 xs) parts;
      line = ap (λ (x : RowView). written_text x 0 g.width (is_below_wrapped g n) ++ cond x.wrapped [] (10 ∷ []))
          (sym here)
          ∙ ap (λ b. written_text v 0 g.width b ++ cond v.wrapped [] (10 ∷ [])) (sym h.wraps);
    }

-- one row more
pub IsShown-next : {g : GridView} {n m : ℕ} {from left : List RowView} {v : RowView} {wrapping wraps : Bool}
    {old was row now : List ℕ} → m ≡ n + 1 → IsShown g n from wrapping old was → from ≡ v ∷ left
    → row ≡ was ++ encode_utf8_all (written_text v 0 g.width wrapping) → wraps ≡ v.wrapped
    → now ≡ row ++ encode_utf8_all (cond v.wrapped [] (10 ∷ [])) → IsShown g m left wraps old now
IsShown-next {g} {n} {m} {from} {left} {v} {wrapping} {wraps} {old} {was} {row} {now} em h cut er ew en =
    let next = next-row g n from left v wrapping old was h cut in
    let within = next.within in
    let newline : List ℕ = cond v.wrapped [] (10 ∷ []) in
    IsShown-at g (suc n) m left wraps old now (omega arith) (record {
      rows = next.others;
      wraps = ew ∙ ap (λ (x : RowView). x.wrapped) next.here ∙ below-next g n;
      bytes =
          en ∙ ap (λ (bs : List ℕ). bs ++ encode_utf8_all newline) (er
          ∙ ap (λ (bs : List ℕ). bs ++ encode_utf8_all (written_text v 0 g.width wrapping)) h.bytes)
          ∙ append_assoc (old ++ encode_utf8_all (text_lines g n))
          (encode_utf8_all (written_text v 0 g.width wrapping)) (encode_utf8_all newline)
          ∙ ap (λ bs. (old ++ encode_utf8_all (text_lines g n)) ++ bs)
          (sym (ap encode_utf8_all next.line ∙ encodes-append (written_text v 0 g.width wrapping) newline))
          ∙ append_assoc old (encode_utf8_all (text_lines g n)) (encode_utf8_all (text_line g n))
          ∙ ap (λ bs. old ++ bs) (sym (encodes-append (text_lines g n) (text_line g n)));
      few = omega arith;
    })

pub no-newline : (wrapped : Bool) (bs : List ℕ) → wrapped ≡ true
    → bs ≡ bs ++ encode_utf8_all (cond wrapped [] (10 ∷ []))
no-newline wrapped bs e = sym (ap (λ b. bs ++ encode_utf8_all (cond b [] (10 ∷ []))) e ∙ append-nil bs)

pub one-newline : (wrapped : Bool) (bs now : List ℕ) → wrapped ≡ false → now ≡ bs ++ encode_utf8 10
    → now ≡ bs ++ encode_utf8_all (cond wrapped [] (10 ∷ []))
one-newline wrapped bs now e en = en ∙ ap (λ xs. bs ++ xs) (sym (append-nil (encode_utf8 10)))
    ∙ ap (λ b. bs ++ encode_utf8_all (cond b [] (10 ∷ []))) (sym e)

-- all rows
pub IsShown-end : (g : GridView) (n : ℕ) (left : List RowView) (wrapping : Bool) (old now : List ℕ) → left ≡ []
    → IsShown g n left wrapping old now → now ≡ old ++ encode_utf8_all (text_lines g (length g.rows))
IsShown-end g n left wrapping old now e h =
    let none = ap (λ (xs : List RowView). length xs) (sym h.rows ∙ e) in
    let most = h.few in
    let all : n ≡ length g.rows = omega (
      arith,
      none,
      length-drop n (visible g),
      length-rows_by_position (length g.rows) (visible_at g),
    ) in
    h.bytes ∙ ap (λ k. old ++ encode_utf8_all (text_lines g k)) all

-- ---- where memory ran out

lines-more : (g : GridView) (n m : ℕ) → n ≤ m → (rest : List ℕ) × (text_lines g m ≡ text_lines g n ++ rest)
lines-more g n zero h = let e : n ≡ 0 = omega arith
    in ([], ap (text_lines g) (sym e) ∙ sym (append-nil (text_lines g n)))
lines-more g n (suc m) h =
    ⊎_elim
    (λ (l : m < n). let e : n ≡ suc m = omega (arith, h, l)
    in ([], ap (text_lines g) (sym e) ∙ sym (append-nil (text_lines g n))))
    (λ (l : n ≤ m).
    let r = lines-more g n m l in (
      r.0 ++ text_line g m,
      ap (λ (cs : List ℕ). cs ++ text_line g m) r.1
          ∙ append_assoc (text_lines g n) r.0 (text_line g m),
    ))
    (cases_lt m n)

-- n rows are written, and a part of the next
pub IsBegun-row : {g : GridView} {n : ℕ} {from left : List RowView} {v : RowView} {wrapping : Bool}
    {old was : List ℕ} (now : List ℕ) → IsShown g n from wrapping old was → from ≡ v ∷ left
    → IsBegun was (encode_utf8_all (written_text v 0 g.width wrapping)) now
    → IsBegun old (encode_utf8_all (text_lines g (length g.rows))) now
IsBegun-row {g} {n} {from} {left} {v} {wrapping} {old} {was} now h cut begun =
    let next = next-row g n from left v wrapping old was h cut in
    let written = written_text v 0 g.width wrapping in
    let newline : List ℕ = cond v.wrapped [] (10 ∷ []) in
    let more = lines-more g (suc n) (length g.rows) (omega (arith, next.within)) in
    let whole : text_lines g (length g.rows) ≡ (text_lines g n ++ written) ++ (newline ++ more.0) =
    more.1 ∙ ap (λ cs. (text_lines g n ++ cs) ++ more.0) next.line
    ∙ ap (λ (cs : List ℕ). cs ++ more.0) (sym (append_assoc (text_lines g n) written newline))
    ∙ append_assoc (text_lines g n ++ written) newline more.0 in
    IsBegun-within old was (encode_utf8_all (text_lines g n)) (encode_utf8_all written)
    (encode_utf8_all (newline ++ more.0)) (encode_utf8_all (text_lines g (length g.rows))) now h.bytes
    (ap encode_utf8_all whole ∙ encodes-append (text_lines g n ++ written) (newline ++ more.0)
    ∙ ap (λ (bs : List ℕ). bs ++ encode_utf8_all (newline ++ more.0)) (encodes-append (text_lines g n) written))
    begun

-- n rows are written
pub IsBegun-shown : {g : GridView} {n : ℕ} {left : List RowView} {wrapping : Bool} {old now : List ℕ}
    → IsShown g n left wrapping old now → IsBegun old (encode_utf8_all (text_lines g (length g.rows))) now
IsBegun-shown {g} {n} h =
    let more = lines-more g n (length g.rows) h.few in (
      encode_utf8_all (text_lines g n),
      encode_utf8_all more.0,
      ap encode_utf8_all more.1 ∙ encodes-append (text_lines g n) more.0,
      h.bytes,
    )

-- ---- pending newlines

-- n rows are written but for k newlines, and these with a part of the next
pub IsBegun-owed : {g : GridView} {n : ℕ} {from left : List RowView} {v : RowView} {wrapping : Bool}
    {old was : List ℕ} (k : ℕ) (now : List ℕ) → IsShown g n from wrapping old (was ++ replicate k 10) → from ≡ v ∷ left
    → (done : List ℕ) × (was ≡ old ++ done)
    → IsBegun was (replicate k 10 ++ encode_utf8_all (written_text v 0 g.width wrapping)) now
    → IsBegun old (encode_utf8_all (text_lines g (length g.rows))) now
IsBegun-owed {g = g} {v = v} {wrapping = wrapping} {old = old} {was = was} k now h cut grown begun =
    let written = encode_utf8_all (written_text v 0 g.width wrapping) in
    let part = replicate k 10 ++ written in
    let next = IsBegun-row ((was ++ replicate k 10) ++ written) h cut (begun_whole (was ++ replicate k 10) written _
    refl) in
    let prefix : next.0 ≡ grown.0 ++ part = append_cancel_left old next.0 (grown.0 ++ part)
    (sym next.3 ∙ append_assoc was (replicate k 10) written ∙ ap (λ bs. bs ++ part) grown.1
    ∙ append_assoc old grown.0 part) in
    IsBegun-within old was grown.0 part next.1 (encode_utf8_all (text_lines g (length g.rows))) now grown.1
    (next.2 ∙ ap (λ bs. bs ++ next.1) prefix) begun

-- the row has a text that doesn't fit after them: then the whole text without newlines at its end doesn't either
pub full-owed : {Z : Type 0} {g : GridView} {n : ℕ} {from left : List RowView} {v : RowView} {wrapping : Bool}
    (s t : String Z) (k : ℕ) → IsShown g n from wrapping (string_bytes s) (string_bytes t ++ replicate k 10)
    → from ≡ v ∷ left → IsGrid g → 0 < length (row_text v 0 g.width) → string_capacity s ≤ string_capacity t
    → string_capacity t < string_len t + k + length (encode_utf8_all (row_text v 0 g.width))
    → string_capacity s
    < length (newlines_cut (string_bytes s ++ encode_utf8_all (text_lines g (length g.rows))))
full-owed {g = g} {n = n} {from = from} {left = left} {v = v} {wrapping = wrapping} s t k h cut i some room full =
    let before = string_bytes t ++ replicate k 10 in
    let text = row_text v 0 g.width in
    let written = encode_utf8_all (written_text v 0 g.width wrapping) in
    let is : written ≡ encode_utf8_all text = ap encode_utf8_all (written-text v g.width wrapping some) in
    let next = IsBegun-row (before ++ written) h cut (begun_whole before written _ refl) in
    let whole : string_bytes s ++ encode_utf8_all (text_lines g (length g.rows)) ≡ (before ++ written) ++ next.1 =
    ap (λ bs. string_bytes s ++ bs) next.2 ∙ sym (append_assoc (string_bytes s) next.0 next.1)
    ∙ ap (λ bs. bs ++ next.1) (sym next.3) in
    let here = (next-row g n from left v wrapping (string_bytes s) before h cut).here in
    let row = subst IsRow (sym here) (visible-row g n i) in
    let kept = cut-behind (before ++ written) next.1
    (ends-after before written (subst EndsOtherwise (sym is) (ends-encoded text (row-ends v g.width row some)))) in
    omega (
      arith,
      kept,
      ap (λ bs. length (newlines_cut bs)) whole,
      length-append before written,
      length-append (string_bytes t) (replicate k 10),
      length-replicate {A = ℕ} k 10,
      ap length is,
      room,
      full,
      t.bytes.ok.0,
    )
