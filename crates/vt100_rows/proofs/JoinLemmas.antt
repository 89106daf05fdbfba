-- A zero-width character in a row.
use Rattle.std.proofs.Common.{◌≡◌, ℕ, ◌+◌, ◌-◌, ◌<◌, ◌≤◌, ◌==◌, Bool, true, false, cond, not, ◌&&◌, ◌||◌, List, length}
use Rattle.std.proofs.Common.{set, Some, sym, refl, ap, ◌∙◌, arith, nat_lt}
use Rattle.std.specs.Char.{IsScalar}
use Rattle.std.proofs.lemmas.List.{set-get_or}
use Rattle.std.proofs.lemmas.Bool.{false≢true, and_parts, cond_both, ltb-true, not-true}
use Rattle.vt100_forms.specs.declared.attrs.Attrs.{Attrs}
use Rattle.vt100_cells.specs.Cell.{CellView, IsCell, has_text, has_room, text_with, is_widened_by, is_filled, appended}
use Rattle.vt100_cells.specs.Cell.{appended_in_place, drawn_columns, default_cell}
use Rattle.vt100_cells.specs.Line.{span_of, update, put, base_col}
use Rattle.vt100_cells.specs.Cells.{cell_at, by_position}
use Rattle.vt100_rows.specs.Row.{RowView, IsRow, joined_cell, is_widening, joined_row, join_row, placed, wiped_row}
use Rattle.vt100_rows.specs.Row.{joined_in_place, join_answer}
use Rattle.vt100_rows.specs.declared.join.Join.TheVariants.{InPlace}
use Rattle.vt100_cells.proofs.CellLemmas.{IsCell-appended, IsCell-plain}
use Rattle.vt100_cells.proofs.ListLemmas.{Bounded-row, set-by_position, length-by_position}
use Rattle.vt100_cells.proofs.JoinedCells.{base_col-whole, base_col-within, filled-appended, appended-continuation}
use Rattle.vt100_cells.proofs.JoinedCells.{appended-wide, same-width, appended-has_text, Bounded-update, update-last}
use Rattle.vt100_cells.proofs.JoinedCells.{plain-wide, plain-continuation, plain-filled, appended-narrow}
use Rattle.vt100_cells.proofs.LineLemmas.{put-same, IsPaired-put}
use Rattle.vt100_cells.proofs.EditedCells.{IsCell-update}
use Rattle.vt100_cells.proofs.TrimLemmas.{not-false}
use Rattle.vt100_rows.proofs.RowLemmas.{IsRow-by_position, IsRow-placed, IsRow-wiped, IsPaired-like}

-- ---- the cell that becomes wide

pub widened-is : (v : RowView) (col c : ℕ) → IsRow v → is_widening v col c ≡ true → ((joined_cell v col c).wide ≡ true)
    × (has_text (joined_cell v col c) ≡ true)
widened-is v col c r h =
    let f = cell_at v.cells in
    let w = (and_parts (joined_cell v col c).wide (not (f (base_col f col)).wide) h).0 in
    (w, appended-has_text (f (base_col f col)) c (r.cells (base_col f col)) w)

-- ---- the rows that result

-- another cell at i, of the same width
IsRow-updated : (v : RowView) (i : ℕ) (x : CellView) → IsRow v → i < length v.cells
    → (cell_at v.cells i).continuation ≡ false → x.continuation ≡ false → x.wide ≡ (cell_at v.cells i).wide → IsCell x
    → (is_filled (cell_at v.cells i) ≡ true → is_filled x ≡ true)
    → IsRow (record { cells = by_position (length v.cells) (update (cell_at v.cells) i x); wrapped = v.wrapped })
IsRow-updated v i x r h whole kept same valid filled =
    let f = cell_at v.cells in
    let n = length v.cells in
    let a = (f i).attrs in
    IsRow-by_position n (update f i x) v.wrapped r.narrow
    (IsPaired-like (update f i x) (put f i x a) (λ k. sym (put-same f i x a k r.paired whole same))
    (IsPaired-put f i x a r.paired kept))
    (Bounded-update n f i x (Bounded-row v.cells) h) (IsCell-update f i x r.cells valid)
    (λ w. update-last f i (n - 1) x filled (r.filled w))

pub IsRow-joined : (v : RowView) (col c : ℕ) → IsRow v → IsScalar c → drawn_columns c ≡ Some 0 → 0 < col
    → col ≤ length v.cells → is_widening v col c ≡ false → IsRow (joined_row v col c)
IsRow-joined v col c r s z h l narrow =
    let f = cell_at v.cells in
    let i = base_col f col in
    let x = joined_cell v col c in
    let whole = base_col-whole f col r.paired in
    IsRow-updated v i x r (base_col-within f (length v.cells) col h l) whole (appended-continuation (f i) c ∙ whole)
    (same-width x.wide (f i).wide (appended-wide (f i) c) narrow) (IsCell-appended (f i) c (r.cells i) s z whole)
    (filled-appended (f i) c)

pub IsCell-joined : (v : RowView) (col c : ℕ) → IsRow v → IsScalar c → drawn_columns c ≡ Some 0
    → IsCell (joined_cell v col c)
IsCell-joined v col c r s z =
    let f = cell_at v.cells in
    IsCell-appended (f (base_col f col)) c (r.cells (base_col f col)) s z (base_col-whole f col r.paired)

widened-within : (x : CellView) (col n : ℕ) → x.wide ≡ true → 0 < col → col < n → col - 1 + span_of x ≤ n
widened-within x col n w h l = let two : span_of x ≡ 2 = ap (λ b. cond b 2 1) w in omega arith

pub IsRow-join : (v : RowView) (col c : ℕ) (a : Attrs) → IsRow v → IsScalar c → drawn_columns c ≡ Some 0 → 0 < col
    → col ≤ length v.cells → IsRow (join_row v col c a)
IsRow-join v col c a r s z h l =
    let x = joined_cell v col c in
    let n = length v.cells in
    cond_both (not (is_widening v col c)) (joined_row v col c) _ IsRow
    (λ e. IsRow-joined v col c r s z h l (not-true (is_widening v col c) e))
    (λ e. let wide = widened-is v col c r (not-false (is_widening v col c) e) in
    cond_both (n == 1) v _ IsRow (λ _. r)
    (λ _. cond_both (nat_lt col n) (placed v (col - 1) x a) (wiped_row v (col - 1) col a) IsRow
    (λ t. IsRow-placed v (col - 1) x a r (IsCell-joined v col c r s z) wide.1
    (widened-within x col n wide.0 h (ltb-true col n t)))
    (λ _. IsRow-wiped v (col - 1) col a r l)))

pub length-join : (v : RowView) (col c : ℕ) (a : Attrs) → length (join_row v col c a).cells ≡ length v.cells
length-join v col c a =
    let f = cell_at v.cells in
    let n = length v.cells in
    cond_both (not (is_widening v col c)) (joined_row v col c) _ (λ w. length w.cells ≡ n)
    (λ _. length-by_position n (update f (base_col f col) (joined_cell v col c)))
    (λ _. cond_both (n == 1) v _ (λ w. length w.cells ≡ n) (λ _. refl)
    (λ _. cond_both (nat_lt col n) (placed v (col - 1) (joined_cell v col c) a) (wiped_row v (col - 1) col a)
    (λ w. length w.cells ≡ n)
    (λ _. length-by_position n _) (λ _. length-by_position n _)))

-- what the code does to the cells
joins-cells : (F : CellView → CellView) (v : RowView) (xs ys : List CellView) (col n i : ℕ) (x y : CellView)
    → xs ≡ v.cells → ys ≡ v.cells → n ≡ col → i ≡ base_col (cell_at xs) n → y ≡ cell_at ys i → x ≡ F y → 0 < col
    → col ≤ length v.cells
    → (y ≡ cell_at v.cells (base_col (cell_at v.cells) col)) × (set v.cells i x ≡ by_position (length v.cells)
    (update (cell_at v.cells) (base_col (cell_at v.cells) col) (F (cell_at v.cells (base_col (cell_at v.cells) col)))))
joins-cells F v xs ys col n i x y exs eys en ei ey ex h l =
    let f = cell_at v.cells in
    let j = base_col f col in
    let at_j : i ≡ j = ei ∙ ap (λ (zs : List CellView). base_col (cell_at zs) n) exs ∙ ap (base_col f) en in
    let old : y ≡ f j = ey ∙ ap (λ (zs : List CellView). cell_at zs i) eys ∙ ap f at_j in (
      old,
      ap (λ m. set v.cells m x) at_j ∙ ap (set v.cells j) (ex ∙ ap F old)
          ∙ set-by_position v.cells j (F (f j)) (update f j (F (f j))) (base_col-within f (length v.cells) col h l)
          (λ k. refl),
    )

-- where no cell becomes wide
pub joins-in_place : (v : RowView) (xs ys : List CellView) (col n i c : ℕ) (x y : CellView) (a : Attrs) → xs ≡ v.cells
    → ys ≡ v.cells → n ≡ col → i ≡ base_col (cell_at xs) n → y ≡ cell_at ys i → x ≡ appended y c
    → (x.wide && not y.wide) ≡ false → 0 < col → col ≤ length v.cells
    → record { cells = set v.cells i x; wrapped = v.wrapped } ≡ join_row v col c a
joins-in_place v xs ys col n i c x y a exs eys en ei ey ex narrow h l =
    let both = joins-cells (λ z. appended z c) v xs ys col n i x y exs eys en ei ey ex h l in
    let same : is_widening v col c ≡ false = ap (λ (z : CellView). (appended z c).wide && not z.wide) (sym both.0)
    ∙ ap (λ (z : CellView). z.wide && not y.wide) (sym ex) ∙ narrow in
    (λ k. record { cells = both.1 k; wrapped = v.wrapped })
    ∙ ap (λ b. cond (not b) (joined_row v col c)
    (cond (length v.cells == 1) v (cond (nat_lt col (length v.cells)) (placed v (col - 1) (joined_cell v col c) a)
    (wiped_row v (col - 1) col a)))) (sym same)

-- ---- a cell that has no room for another character

same-width-twice : (b : Bool) → (b && not b) ≡ false
same-width-twice true = refl
same-width-twice false = refl

appended-full : (x : CellView) (c : ℕ) → has_room x.text ≡ false → appended x c ≡ x
appended-full x c full = ap (λ b. cond b (record {
  text = text_with x.text c;
  wide = x.wide || is_widened_by x.text c;
  continuation = x.continuation;
  attrs = x.attrs;
}) x) full

pub joins-full : (v : RowView) (xs ys : List CellView) (col n i c : ℕ) (y : CellView) (a : Attrs) → xs ≡ v.cells
    → ys ≡ v.cells → n ≡ col → i ≡ base_col (cell_at xs) n → y ≡ cell_at ys i → has_room y.text ≡ false
    → 0 < col → col ≤ length v.cells → v ≡ join_row v col c a
joins-full v xs ys col n i c y a exs eys en ei ey full h l =
    let old : y ≡ cell_at v.cells i = ey ∙ ap (λ (zs : List CellView). cell_at zs i) eys in
    let same : set v.cells i y ≡ v.cells = ap (set v.cells i) old ∙ set-get_or v.cells i default_cell in
    (λ k. record { cells = sym same k; wrapped = v.wrapped })
    ∙ joins-in_place v xs ys col n i c y y a exs eys en ei ey (sym (appended-full y c full)) (same-width-twice y.wide)
    h l

-- ---- where U+FE0F makes no cell wide

pub IsRow-joined_in_place : (v : RowView) (col c : ℕ) → IsRow v → IsScalar c → drawn_columns c ≡ Some 0 → 0 < col
    → col ≤ length v.cells → IsRow (joined_in_place v col c)
IsRow-joined_in_place v col c r s z h l =
    let f = cell_at v.cells in
    let i = base_col f col in
    let whole = base_col-whole f col r.paired in
    IsRow-updated v i (appended_in_place (f i) c) r (base_col-within f (length v.cells) col h l) whole
    (plain-continuation (f i) c ∙ whole) (plain-wide (f i) c) (IsCell-plain (f i) c (r.cells i) s z whole)
    (plain-filled (f i) c)

pub joins-unwidened : (v : RowView) (xs ys : List CellView) (col n i c : ℕ) (x y : CellView) → xs ≡ v.cells
    → ys ≡ v.cells → n ≡ col → i ≡ base_col (cell_at xs) n → y ≡ cell_at ys i → x ≡ appended_in_place y c → 0 < col
    → col ≤ length v.cells → record { cells = set v.cells i x; wrapped = v.wrapped } ≡ joined_in_place v col c
joins-unwidened v xs ys col n i c x y exs eys en ei ey ex h l =
    let both = joins-cells (λ z. appended_in_place z c) v xs ys col n i x y exs eys en ei ey ex h l in
    λ k. record { cells = both.1 k; wrapped = v.wrapped }

-- ---- a character other than U+FE0F makes no cell wide

not-more : (b : Bool) → (b && not b) ≡ false
not-more true = refl
not-more false = refl

pub joins-narrow : (v : RowView) (col c : ℕ) (a : Attrs) → (c == 0xFE0F) ≡ false
    → (joined_in_place v col c ≡ join_row v col c a) × (InPlace ≡ join_answer v col c a)
joins-narrow v col c a e =
    let f = cell_at v.cells in
    let i = base_col f col in
    let plain = appended-narrow (f i) c e in
    let same : is_widening v col c ≡ false =
    ap (λ (x : CellView). x.wide && not (f i).wide) plain ∙ ap (λ b. b && not (f i).wide) (plain-wide (f i) c)
    ∙ not-more (f i).wide in
    let row : joined_in_place v col c ≡ joined_row v col c =
    ap (λ x. record { cells = by_position (length v.cells) (update f i x); wrapped = v.wrapped }) (sym plain) in (
      cond_both (not (is_widening v col c)) (joined_row v col c) _ (λ w. joined_in_place v col c ≡ w) (λ _. row)
          (λ n. absurd (false≢true (sym n ∙ ap not same))),
      cond_both (not (is_widening v col c)) InPlace _ (λ w. InPlace ≡ w) (λ _. refl)
          (λ n. absurd (false≢true (sym n ∙ ap not same))),
    )
