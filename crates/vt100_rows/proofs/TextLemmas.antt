-- The text of a row, column by column.
use Rattle.std.proofs.Common.{◌≡◌, ℕ, zero, suc, ◌+◌, ◌-◌, ◌<◌, ◌≤◌, ◌==◌, Bool, true, false, cond, not, ◌&&◌, List, []}
use Rattle.std.proofs.Common.{◌∷◌, ◌++◌, length, replicate, sym, refl, ap, ◌∙◌, arith, append_assoc, append-nil}
use Rattle.std.proofs.Common.{length-append, min, subst, ⊎_elim}
use Rattle.std.specs.Prelude.{encode_utf8_all, Result, Ok, Err, OnErr}
use Rattle.std.proofs.lemmas.Bool.{false≢true, cond_both, cases_lt}
use Rattle.std.proofs.lemmas.Bool.Decides.{nat_tests}
use Rattle.std.proofs.lemmas.List.{replicate-append-replicate}
use Rattle.std.proofs.lemmas.Str.{encodes-append, encode_ascii}
use Rattle.vt100_cells.specs.Cell.{CellView, has_text}
use Rattle.vt100_cells.specs.Cells.{cell_at}
use Rattle.vt100_rows.specs.Row.{RowView}
use Rattle.vt100_rows.specs.Text.{column_text, columns_text, line_text, row_text, written_text}
use Rattle.row_drawing.specs.Writes.{IsBegun}

-- ---- spaces

encodes-spaces : (n : ℕ) → encode_utf8_all (replicate n 32) ≡ replicate n 32
encodes-spaces zero = refl
encodes-spaces (suc n) = ap (λ bs. bs ++ encode_utf8_all (replicate n 32)) (encode_ascii 32 (omega arith))
    ∙ ap (λ bs. 32 ∷ bs) (encodes-spaces n)

-- ---- one column more

column_text-has : (f : ℕ → CellView) (s k : ℕ) → has_text (f k) ≡ true → column_text f s k ≡ (f k).text
column_text-has f s k h = rw h refl

-- where there is a text
line_text-has : (f : ℕ → CellView) (s n b : ℕ) → columns_text f s n ≡ line_text f s n ++ replicate b 32
    → has_text (f (s + n)) ≡ true
    → line_text f s (suc n) ≡ line_text f s n ++ replicate b 32 ++ (f (s + n)).text
line_text-has f s n b g h =
    ap (λ t. cond t (columns_text f s (suc n)) (line_text f s n)) h
    ∙ ap (λ (cs : List ℕ). cs ++ column_text f s (s + n)) g
    ∙ ap (λ cs. (line_text f s n ++ replicate b 32) ++ cs) (column_text-has f s (s + n) h)

columns_text-has : (f : ℕ → CellView) (s n : ℕ) → has_text (f (s + n)) ≡ true
    → columns_text f s (suc n) ≡ line_text f s (suc n) ++ replicate 0 32
columns_text-has f s n h = sym (ap (λ t. cond t (columns_text f s (suc n)) (line_text f s n)) h)
    ∙ sym (append-nil (line_text f s (suc n)))

-- what the code appends there
writes-text : (f : ℕ → CellView) (s n b : ℕ) (old was spaced now : List ℕ)
    → columns_text f s n ≡ line_text f s n ++ replicate b 32 → has_text (f (s + n)) ≡ true
    → was ≡ old ++ encode_utf8_all (line_text f s n) → spaced ≡ was ++ replicate b 32
    → now ≡ spaced ++ encode_utf8_all (f (s + n)).text
    → now ≡ old ++ encode_utf8_all (line_text f s (suc n))
writes-text f s n b old was spaced now g h ew es en =
    let t = (f (s + n)).text in
    let ls = line_text f s n in
    let whole : encode_utf8_all (line_text f s (suc n)) ≡ encode_utf8_all ls ++ replicate b 32 ++ encode_utf8_all t =
    ap encode_utf8_all (line_text-has f s n b g h) ∙ encodes-append (ls ++ replicate b 32) t
    ∙ ap (λ bs. bs ++ encode_utf8_all t) (encodes-append ls (replicate b 32)
    ∙ ap (λ bs. encode_utf8_all ls ++ bs) (encodes-spaces b)) in
    en ∙ ap (λ (bs : List ℕ). bs ++ encode_utf8_all t) (es ∙ ap (λ (bs : List ℕ). bs ++ replicate b 32) ew)
    ∙ ap (λ (bs : List ℕ). bs ++ encode_utf8_all t) (append_assoc old (encode_utf8_all ls) (replicate b 32))
    ∙ append_assoc old (encode_utf8_all ls ++ replicate b 32) (encode_utf8_all t) ∙ ap (λ bs. old ++ bs) (sym whole)

some-text : (xs ys : List ℕ) → not (length ys == 0) ≡ true → not (length (xs ++ ys) == 0) ≡ true
some-text xs ys h = grind (arith, nat_tests, length-append xs ys)

shows-text : (f : ℕ → CellView) (s n b : ℕ) → columns_text f s n ≡ line_text f s n ++ replicate b 32
    → has_text (f (s + n)) ≡ true → true ≡ not (length (line_text f s (suc n)) == 0)
shows-text f s n b g h = sym (ap (λ (cs : List ℕ). not (length cs == 0)) (line_text-has f s n b g h)
    ∙ some-text (line_text f s n ++ replicate b 32) (f (s + n)).text h)

-- where there is no text
line_text-none : (f : ℕ → CellView) (s n : ℕ) → has_text (f (s + n)) ≡ false
    → line_text f s (suc n) ≡ line_text f s n
line_text-none f s n h = ap (λ t. cond t (columns_text f s (suc n)) (line_text f s n)) h

spaces-more : (q : Bool) (b : ℕ) → ◌++◌ {A = ℕ} (replicate b 32) (cond q [] (32 ∷ [])) ≡ replicate (cond q b (b + 1)) 32
spaces-more true b = append-nil (replicate b 32)
spaces-more false b = replicate-append-replicate b 1 32

-- the second half of a wide cell adds nothing, and an empty cell a space
columns_text-none : (f : ℕ → CellView) (s n b : ℕ) (q : Bool) → columns_text f s n ≡ line_text f s n ++ replicate b 32
    → has_text (f (s + n)) ≡ false → ((f (s + n)).continuation && not ((s + n) == s)) ≡ q
    → columns_text f s (suc n) ≡ line_text f s (suc n) ++ replicate (cond q b (b + 1)) 32
columns_text-none f s n b q g h e =
    let x = f (s + n) in
    ap (λ (xs : List ℕ). xs ++ column_text f s (s + n)) g
    ∙ ap (λ xs. (line_text f s n ++ replicate b 32) ++ xs)
    (ap (λ t. cond t x.text (cond (x.continuation && not ((s + n) == s)) [] (32 ∷ []))) h
    ∙ ap (λ t. cond t [] (32 ∷ [])) e)
    ∙ append_assoc (line_text f s n) (replicate b 32) (cond q [] (32 ∷ []))
    ∙ ap (λ xs. line_text f s n ++ xs) (spaces-more q b)
    ∙ ap (λ (xs : List ℕ). xs ++ replicate (cond q b (b + 1)) 32) (sym (line_text-none f s n h))

-- ---- the loop over the columns

-- n columns from s on are written after `old`, but for b spaces
pub record IsWritten (f : ℕ → CellView) (s n : ℕ) (old now : List ℕ) (b : ℕ) (shown : Bool) : Type 0 where
  pub bytes : now ≡ old ++ encode_utf8_all (line_text f s n)
  pub gap : columns_text f s n ≡ line_text f s n ++ replicate b 32
  pub shows : shown ≡ not (length (line_text f s n) == 0)
  pub few : b ≤ n

IsWritten-at : (f : ℕ → CellView) (s n m : ℕ) (old now : List ℕ) (b : ℕ) (shown : Bool) → m ≡ n
    → IsWritten f s n old now b shown → IsWritten f s m old now b shown
IsWritten-at f s n m old now b shown e h = rw e h

module _ (f : ℕ → CellView) (s col b : ℕ) (old was : List ℕ) (shown : Bool) (later : s ≤ col)
    (h : IsWritten f s (col - s) old was b shown) where
  here : s + (col - s) ≡ col
  here = omega arith

  one_more : col + 1 - s ≡ suc (col - s)
  one_more = omega arith

  pub IsWritten-text : (spaced now : List ℕ) → has_text (f col) ≡ true → spaced ≡ was ++ replicate b 32
      → now ≡ spaced ++ encode_utf8_all (f col).text → IsWritten f s (col + 1 - s) old now 0 true
  IsWritten-text spaced now t es en =
      let t2 : has_text (f (s + (col - s))) ≡ true = ap (λ k. has_text (f k)) here ∙ t in
      IsWritten-at f s (suc (col - s)) (col + 1 - s) old now 0 true one_more (record {
        bytes = writes-text f s (col - s) b old was spaced now h.gap t2 h.bytes es (en
            ∙ ap (λ k. spaced ++ encode_utf8_all (f k).text) (sym here));
        gap = columns_text-has f s (col - s) t2;
        shows = shows-text f s (col - s) b h.gap t2;
        few = omega arith;
      })

  -- the second half of a wide cell, or an empty one
  pub IsWritten-none : (q : Bool) → has_text (f col) ≡ false → ((f col).continuation && not (col == s)) ≡ q
      → IsWritten f s (col + 1 - s) old was (cond q b (b + 1)) shown
  IsWritten-none q t e =
      let empty : has_text (f (s + (col - s))) ≡ false = ap (λ k. has_text (f k)) here ∙ t in
      let same = line_text-none f s (col - s) empty in
      IsWritten-at f s (suc (col - s)) (col + 1 - s) old was (cond q b (b + 1)) shown one_more (record {
        bytes = h.bytes ∙ ap (λ (cs : List ℕ). old ++ encode_utf8_all cs) (sym same);
        gap = columns_text-none f s (col - s) b q h.gap empty
            (ap (λ k. (f k).continuation && not (k == s)) here ∙ e);
        shows = h.shows ∙ ap (λ (cs : List ℕ). not (length cs == 0)) (sym same);
        few = let l = h.few in cond_both q b (b + 1) (λ n. n ≤ suc (col - s)) (λ _. omega arith) (λ _. omega arith);
      })

-- ---- where memory ran out

-- a part of a text has been begun, after what comes before it
pub IsBegun-within : (old was before part after text now : List ℕ) → was ≡ old ++ before
    → text ≡ before ++ part ++ after → IsBegun was part now → IsBegun old text now
IsBegun-within old was before part after text now ew et h = (
  before ++ h.0,
  h.1 ++ after,
  et ∙ ap (λ (xs : List ℕ). before ++ xs ++ after) h.2
      ∙ ap (λ (xs : List ℕ). xs ++ after) (sym (append_assoc before h.0 h.1)) ∙ append_assoc (before ++ h.0) h.1 after,
  h.3 ∙ ap (λ (xs : List ℕ). xs ++ h.0) ew ∙ append_assoc old before h.0,
)

pub IsBegun-spaces : (n k : ℕ) (old now : List ℕ) → k ≤ n → now ≡ old ++ replicate k 32
    → IsBegun old (replicate n 32) now
IsBegun-spaces n k old now h e =
    let whole : k + (n - k) ≡ n = omega arith in (
      replicate k 32,
      replicate (n - k) 32,
      ap (λ m. replicate m 32) (sym whole)
          ∙ sym (replicate-append-replicate k (n - k) 32),
      e,
    )

-- the text up to a column that has one is a prefix of the text of more columns
module _ (f : ℕ → CellView) (s n : ℕ) (state_after : has_text (f (s + n)) ≡ true) where
  abbrev first : List ℕ
  first = columns_text f s (suc n)

  columns-more : (k : ℕ) → n < k → (rest : List ℕ) × (columns_text f s k ≡ first ++ rest)
  columns-more zero h = absurd (omega (arith, h))
  columns-more (suc k) h =
      ⊎_elim
      (λ (l : n < k). let r = columns-more k l in (
        r.0 ++ column_text f s (s + k),
        ap (λ (cs : List ℕ). cs ++ column_text f s (s + k)) r.1 ∙ append_assoc first r.0 (column_text f s (s + k)),
      ))
      (λ (l : k ≤ n). let e : k ≡ n = omega (arith, h, l)
      in ([], ap (λ j. columns_text f s (suc j)) e ∙ sym (append-nil first)))
      (cases_lt n k)

  line-more : (k : ℕ) → n < k → (rest : List ℕ) × (line_text f s k ≡ first ++ rest)
  line-more zero h = absurd (omega (arith, h))
  line-more (suc k) h =
      ⊎_elim
      (λ (l : n < k). cond_both (has_text (f (s + k))) (columns_text f s (suc k)) (line_text f s k)
      (λ (cs : List ℕ). (rest : List ℕ) × (cs ≡ first ++ rest)) (λ _. columns-more (suc k) h) (λ _. line-more k l))
      (λ (l : k ≤ n).
      let e : k ≡ n = omega (arith, h, l) in (
        [],
        ap (λ j. line_text f s (suc j)) e ∙ ap (λ b. cond b (columns_text f s (suc n)) (line_text f s n)) state_after
            ∙ sym (append-nil first),
      ))
      (cases_lt n k)

some-prefix : (xs ys : List ℕ) → not (length xs == 0) ≡ true → not (length (xs ++ ys) == 0) ≡ true
some-prefix xs ys h = grind (arith, nat_tests, length-append xs ys)

pub on-err : {T E P : Type 0} (r : Result T E) → P → OnErr r P
on-err (Ok x) p = tt
on-err (Err e) p = p

-- memory ran out at a column that has a text
pub IsBegun-text : (v : RowView) (s start n col b : ℕ) (wrapping shown : Bool) (old was now : List ℕ) (x : CellView)
    → s ≡ start → s ≤ col → col < min (s + n) (length v.cells)
    → IsWritten (cell_at v.cells) s (col - s) old was b shown → x ≡ cell_at v.cells col → has_text x ≡ true
    → IsBegun was (replicate b 32 ++ encode_utf8_all x.text) now
    → IsBegun old (encode_utf8_all (written_text v start n wrapping)) now
IsBegun-text v s start n col b wrapping shown old was now x es later within h ex has begun = rw (← es) (
    let f = cell_at v.cells in
    let state_after = ap has_text (sym ex) ∙ has in
    let k = col - s in
    let m = min (s + n) (length v.cells) - s in
    let at : s + k ≡ col = omega arith in
    let here : has_text (f (s + k)) ≡ true = ap (λ j. has_text (f j)) at ∙ state_after in
    let ls = line_text f s k in
    let t = (f (s + k)).text in
    let more = line-more f s k here m (omega arith) in
    let whole : row_text v s (s + n) ≡ (ls ++ replicate b 32) ++ (t ++ more.0) =
    more.1 ∙ ap (λ (cs : List ℕ). cs ++ more.0) (ap (λ (cs : List ℕ). cs ++ column_text f s (s + k)) h.gap
    ∙ ap (λ cs. (ls ++ replicate b 32) ++ cs) (column_text-has f s (s + k) here))
    ∙ append_assoc (ls ++ replicate b 32) t more.0 in
    let some : (wrapping && (length (row_text v s (s + n)) == 0)) ≡ false =
    and-none wrapping (length (row_text v s (s + n)) == 0) (ap (λ (cs : List ℕ). not (length cs == 0)) whole
    ∙ some-text (ls ++ replicate b 32) (t ++ more.0) (some-prefix t more.0 here)) in
    let text = ap (λ (y : CellView). replicate b 32 ++ encode_utf8_all y.text) (ex ∙ ap f (sym at)) in
    IsBegun-within old was (encode_utf8_all ls) (replicate b 32 ++ encode_utf8_all t) (encode_utf8_all more.0)
    (encode_utf8_all (written_text v s n wrapping)) now h.bytes
    (ap (λ r. encode_utf8_all (cond r (10 ∷ []) (row_text v s (s + n)))) some ∙ ap encode_utf8_all whole
    ∙ encodes-append (ls ++ replicate b 32) (t ++ more.0)
    ∙ ap (λ (bs : List ℕ). bs ++ encode_utf8_all (t ++ more.0)) (encodes-append ls (replicate b 32)
    ∙ ap (λ bs. encode_utf8_all ls ++ bs) (encodes-spaces b))
    ∙ ap (λ bs. (encode_utf8_all ls ++ replicate b 32) ++ bs) (encodes-append t more.0)
    ∙ sym (append_assoc (encode_utf8_all ls ++ replicate b 32) (encode_utf8_all t) (encode_utf8_all more.0))
    ∙ ap (λ (bs : List ℕ). bs ++ encode_utf8_all more.0)
    (append_assoc (encode_utf8_all ls) (replicate b 32) (encode_utf8_all t)))
    (subst (λ bs. IsBegun was bs now) text begun))
  where
    and-none : (p q : Bool) → not q ≡ true → (p && q) ≡ false
    and-none true true e = absurd (false≢true e)
    and-none true false e = refl
    and-none false q e = refl
