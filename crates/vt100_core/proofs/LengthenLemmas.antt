-- Rows that come back at the top.
use Rattle.std.proofs.Common.{◌≡◌, ℕ, ◌+◌, ◌-◌, ◌^◌, ◌<◌, ◌≤◌, ◌==◌, false, List, [], ◌++◌, length, take, drop, map}
use Rattle.std.proofs.Common.{replicate, refl, sym, subst, ap, ◌∙◌, arith, length-take-le, length-drop, length-append}
use Rattle.std.proofs.Common.{⊎_elim}
use Rattle.std.proofs.lemmas.Bool.{cases_lt, cond_both, eqb-true}
use Rattle.std.proofs.lemmas.Bool.Decides.{nat_tests}
use Rattle.std.proofs.lemmas.List.{length-map, length-replicate, get_or-replicate, get_or-append_right, get_or-map}
use Rattle.std.proofs.lemmas.List.{get_or-drop, get_or-take}
use Rattle.std.proofs.Math.ListN.{get_or-append}
use Rattle.std.proofs.Math.Seq.{take-nil}
use Rattle.vt100_cells.specs.Cell.{default_cell}
use Rattle.vt100_rows.specs.Row.{RowView, IsRow, blank_row, resized_row}
use Rattle.vt100_rows.specs.Sheet.{row_at, IsRowOf, IsSheet}
use Rattle.vt100_rows.proofs.BackLemmas.{IsRow-resized_default}
use Rattle.vt100_rows.proofs.WidthLemmas.{length-resized}
use Rattle.vt100_core.specs.Grid.{KeptPart, IsKept, GridView, IsGrid, IsAllocated}
use Rattle.vt100_core.specs.Resize.{down_rows, rows_back, lengthened}
use Rattle.vt100_rows.proofs.SheetLemmas.{IsRowOf-blank, IsSheet-none}
use Rattle.vt100_core.proofs.GridLemmas.{IsGrid-parts, IsNew-of, no-rows}
use Rattle.vt100_core.proofs.KeepLemmas.{IsShownWide-none}

-- ---- what is true of the rows of a screen

IsRowOf-come : (v : RowView) (width : ℕ) → IsRow v → width < 2 ^ 16 → IsRowOf width (resized_row v width default_cell)
IsRowOf-come v width r h = record { row = IsRow-resized_default v width r h; wide = length-resized v width }

IsRowOf-append : (width : ℕ) (rows others : List RowView) → ((r : ℕ) → r < length rows → IsRowOf width (row_at rows r))
    → ((r : ℕ) → r < length others → IsRowOf width (row_at others r))
    → (r : ℕ) → r < length (rows ++ others) → IsRowOf width (row_at (rows ++ others) r)
IsRowOf-append width rows others p q r h =
    let n : length (rows ++ others) ≡ length rows + length others = length-append rows others in
    ⊎_elim
    (λ (l : r < length rows). rw (get_or-append rows others (blank_row 0) r l) (p r l))
    (λ (l : length rows ≤ r). rw (get_or-append_right rows others (length rows) r (blank_row 0) refl l)
    (q (r - length rows) (omega arith)))
    (cases_lt r (length rows))

IsRowOf-blanks : (width n : ℕ) → width < 2 ^ 16 → (r : ℕ) → r < length (replicate n (blank_row width))
    → IsRowOf width (row_at (replicate n (blank_row width)) r)
IsRowOf-blanks width n small r h = rw (get_or-replicate n r (blank_row width) (blank_row 0)
    (omega (arith, length-replicate n (blank_row width)))) (IsRowOf-blank width small)

IsRowOf-newest : (width first : ℕ) (kept : List RowView) → width < 2 ^ 16
    → ((j : ℕ) → j < length kept → IsRow (row_at kept j))
    → (r : ℕ) → r < length (map (λ v. resized_row v width default_cell) (drop first kept))
    → IsRowOf width (row_at (map (λ v. resized_row v width default_cell) (drop first kept)) r)
IsRowOf-newest width first kept small each r h =
    let f : RowView → RowView = λ v. resized_row v width default_cell in
    let n : length (map f (drop first kept)) ≡ length kept - first =
    length-map (drop first kept) f ∙ length-drop first kept in
    rw (get_or-map f (drop first kept) r (blank_row 0) (blank_row 0) (omega (arith, length-drop first kept))
    ∙ ap f (get_or-drop first kept r (blank_row 0)))
    (IsRowOf-come (row_at kept (first + r)) width (each (first + r) (omega arith)) small)

pub length-back : (g : GridView) (down : ℕ) → length (rows_back g down) ≡ down
length-back g down = simp (length-append, length-replicate, length-map, length-drop) (omega arith)

IsRowOf-back : (g : GridView) (down : ℕ) → IsGrid g → (r : ℕ) → r < length (rows_back g down)
    → IsRowOf g.width (row_at (rows_back g down) r)
IsRowOf-back g down i =
    IsRowOf-append g.width (replicate (down - length g.kept.rows) (blank_row g.width))
    (map (λ v. resized_row v g.width default_cell) (drop (length g.kept.rows - down) g.kept.rows))
    (IsRowOf-blanks g.width (down - length g.kept.rows) i.few_cols)
    (IsRowOf-newest g.width (length g.kept.rows - down) g.kept.rows i.few_cols i.kept.each)

last-row : (g : GridView) (height down : ℕ) → IsGrid g → IsAllocated g → g.height + down ≤ height
    → (row_at (rows_back g down ++ g.rows ++ replicate (height - g.height - down) (blank_row g.width))
    (height - 1)).wrapped ≡ false
last-row g height down i a h =
    let n : length (rows_back g down ++ g.rows) ≡ down + g.height =
    length-append (rows_back g down) g.rows ∙ omega (arith, length-back g down, i.sheet.count a) in
    let below = replicate (height - g.height - down) (blank_row g.width) in
    ⊎_elim
    (λ (l : down + g.height < height).
    ap (λ (v : RowView). v.wrapped) (get_or-append_right (rows_back g down
    ++ g.rows) below (down + g.height) (height - 1) (blank_row 0) n (omega arith)
    ∙ get_or-replicate (height - g.height - down) (height - 1 - (down + g.height)) (blank_row g.width) (blank_row 0)
    (omega arith)))
    (λ (l : height ≤ down + g.height).
    let e : height - 1 - down ≡ g.height - 1 = omega arith in
    ap (λ (v : RowView). v.wrapped) (get_or-append (rows_back g down
    ++ g.rows) below (blank_row 0) (height - 1) (omega (arith, i.some_rows))
    ∙ get_or-append_right (rows_back g down) g.rows down (height - 1) (blank_row 0) (length-back g down)
    (omega (arith, i.some_rows))
    ∙ ap (λ k. row_at g.rows k) e) ∙ i.sheet.last)
    (cases_lt (down + g.height) height)

IsSheet-come : (g : GridView) (height down : ℕ) → IsGrid g → IsAllocated g → g.height + down ≤ height
    → IsSheet height g.width (rows_back g down ++ g.rows ++ replicate (height - g.height - down) (blank_row g.width))
IsSheet-come g height down i a h = record {
  count = λ _. simp (length-append, length-replicate, length-map, length-drop) (omega (arith, i.sheet.count a));
  each = IsRowOf-append g.width (rows_back g down ++ g.rows) (replicate (height - g.height - down) (blank_row g.width))
      (IsRowOf-append g.width (rows_back g down) g.rows (IsRowOf-back g down i) i.sheet.each)
      (IsRowOf-blanks g.width (height - g.height - down) i.few_cols);
  last = last-row g height down i a h;
}

some-rows : (n : ℕ) → (n == 0) ≡ false → 0 < n
some-rows n e = grind (arith, nat_tests)

IsSheet-lengthened : (g : GridView) (height : ℕ) → IsGrid g → g.height ≤ height
    → IsSheet height g.width (lengthened g height).rows
IsSheet-lengthened g height i h =
    let down = down_rows g height in
    cond_both (length g.rows == 0) [] (rows_back g down ++ g.rows
    ++ replicate (height - g.height - down) (blank_row g.width)) (λ (xs : List RowView). IsSheet height g.width xs)
    (λ _. IsSheet-none height g.width [] (omega arith))
    (λ e. IsSheet-come g height down i (some-rows (length g.rows) e) (omega arith))

-- ---- what is true of the grid

IsKept-fewer : (k : KeptPart) (down : ℕ) → IsKept k → k.offset ≡ 0
    → IsKept (record k { rows = take (length k.rows - down) k.rows; scrolled_off = k.scrolled_off - down })
IsKept-fewer k down i off =
    let n : length (take (length k.rows - down) k.rows) ≡ length k.rows - down =
    length-take-le (length k.rows - down) k.rows (omega arith) in
    record {
      each = λ j l. rw (get_or-take (length k.rows - down) k.rows j (blank_row 0) (omega arith))
          (i.each j (omega arith));
      fits = omega (arith, i.fits);
      counted = omega (arith, i.counted);
      offset = omega (arith, off);
      none = λ e. ((i.none e).0, omega (arith, (i.none e).1));
      bounded = omega (arith, i.bounded);
    }

none-yet : (g : GridView) (height : ℕ) → length (lengthened g height).rows ≡ 0 → length g.rows ≡ 0
none-yet g height =
    let down = down_rows g height in
    cond_both (length g.rows == 0) [] (rows_back g down ++ g.rows
    ++ replicate (height - g.height - down) (blank_row g.width)) (λ (xs : List RowView). length xs ≡ 0
    → length g.rows ≡ 0)
    (λ e _. eqb-true (length g.rows) 0 e)
    (λ _ z. omega (
      arith,
      length-append (rows_back g down
          ++ g.rows) (replicate (height - g.height - down) (blank_row g.width)),
      length-append (rows_back g down) g.rows,
    ))

pub IsGrid-lengthened : (g : GridView) (height : ℕ) → IsGrid g → g.height ≤ height → height < 2 ^ 16 → g.top ≡ 0
    → g.kept.offset ≡ 0 → IsGrid (lengthened g height)
IsGrid-lengthened g height i h small top off = record {
  sheet = IsSheet-lengthened g height i h;
  some_rows = omega (arith, i.some_rows);
  some_cols = i.some_cols;
  few_rows = small;
  few_cols = i.few_cols;
  cursor_row = omega (arith, i.cursor_row);
  cursor_col = i.cursor_col;
  saved_row = omega (arith, i.saved_row);
  saved_col = i.saved_col;
  region = omega (arith, top);
  region_end = omega (arith, i.some_rows);
  region_lines = λ e. omega (arith, i.some_rows);
  kept = IsKept-fewer g.kept (down_rows g height) i.kept off;
  shown = IsShownWide-none (lengthened g height).kept height g.width off;
  fresh = λ z.
      let n = IsNew-of g i (none-yet g height z) in
      let down = down_rows g height in
      let row : g.row + down ≡ 0 = omega (arith, n.row, n.scrolled_off) in
      let saved : g.saved_row + down ≡ 0 = omega (arith, n.saved_row, n.scrolled_off) in
      let count : g.kept.scrolled_off - down ≡ 0 = omega (arith, n.scrolled_off) in
      let kept = ap (λ (xs : List RowView). take (length g.kept.rows - down) xs) n.kept_rows
      ∙ take-nil (length g.kept.rows - down) in
      let new = i.fresh (none-yet g height z) in
      λ j. record (new j) {
        rows = no-rows (lengthened g height).rows z j;
        height = height;
        row = row j;
        saved_row = saved j;
        bottom = height - 1;
        kept = record ((new j).kept) { rows = kept j; scrolled_off = count j };
      };
}

-- where the kept rows alone have become wider
pub IsGrid-kept_changed : (g : GridView) (rows others : List RowView) → IsGrid g → rows ≡ g.rows
    → ((j : ℕ) → j < length others → IsRow (row_at others j)) → length others ≡ length g.kept.rows
    → g.kept.offset ≡ 0 → IsGrid (record g { rows = rows; kept = record (g.kept) { rows = others } })
IsGrid-kept_changed g rows others i e each count off =
    let k : KeptPart = record (g.kept) { rows = others } in
    let kept : IsKept k = record {
      each = each;
      fits = omega (arith, count, i.kept.fits);
      counted = omega (arith, count, i.kept.counted);
      offset = omega (arith, off);
      none = i.kept.none;
      bounded = i.kept.bounded;
    } in
    IsGrid-parts g rows g.col k i (subst (λ (xs : List RowView). IsSheet g.height g.width xs) (sym e) i.sheet)
    i.cursor_col kept (IsShownWide-none k g.height g.width off)
    (λ z.
    let none : length g.rows ≡ 0 = ap (λ (xs : List RowView). length xs) (sym e) ∙ z in
    let new = i.fresh none in
    let left : length others ≡ 0 = count ∙ ap (λ (x : GridView). length x.kept.rows) new in
    λ j. record (new j) { rows = no-rows rows z j; kept = record ((new j).kept) { rows = no-rows others left j } })
