-- Rows that move.
use Rattle.std.proofs.Common.{◌≡◌, ℕ, ◌+◌, ◌-◌, ◌^◌, ◌<◌, ◌≤◌, ◌==◌, cond, ◌||◌, List, length, set}
use Rattle.std.proofs.Common.{refl, ap, ◌∙◌, arith, length-set}
use Rattle.std.proofs.Common.{nat_lt, nat_le}
use Rattle.std.proofs.lemmas.Bool.Decides.{nat_tests}
use Rattle.vt100_rows.specs.Row.{RowView, blank_row, unwrapped}
use Rattle.vt100_rows.proofs.RowLemmas.{IsRow-unwrapped}
use Rattle.vt100_rows.specs.Sheet.{row_at, rows_by_position, IsRowOf, IsSheet, changed_between, moved_down, moved_up}
use Rattle.vt100_rows.specs.Sheet.{turned_up, opened_line}
use Rattle.vt100_rows.proofs.SheetLemmas.{row_at-set, rows_by_position_is, row_at-read, length-read, read_again}
use Rattle.vt100_rows.proofs.SheetLemmas.{IsRowOf-blank, IsRowOf-cond, wrapped-cond, IsSheet-by_position}

-- ---- up

moves_up-read : (rows zs : List RowView) (first end n width r : ℕ) → first + n ≤ end → end ≤ length rows
    → r < length rows → ((k : ℕ) → k < length rows → length (row_at rows k).cells ≡ width)
    → row_at zs r ≡ turned_up rows first end n r
    → changed_between (λ v. blank_row (length v.cells)) zs (end - n) end r ≡ moved_up rows first end n width r
moves_up-read rows zs first end n width r h l k w e = grind (arith, nat_tests, w (r + n - (end - first)))

-- the rows that come in are made blank afterwards
pub moves_up : (rows zs ws : List RowView) (first end n width : ℕ) → first + n ≤ end → end ≤ length rows
    → ((k : ℕ) → k < length rows → IsRowOf width (row_at rows k))
    → zs ≡ rows_by_position (length rows) (turned_up rows first end n)
    → ws ≡ rows_by_position (length zs) (changed_between (λ v. blank_row (length v.cells)) zs (end - n) end)
    → ws ≡ rows_by_position (length rows) (moved_up rows first end n width)
moves_up rows zs ws first end n width h l w ez ew =
    read_again (length rows) (length zs) (changed_between (λ v. blank_row (length v.cells)) zs (end - n) end)
    (moved_up rows first end n width) ws ew (length-read (length rows) (turned_up rows first end n) zs ez)
    (λ r k. moves_up-read rows zs first end n width r h l k (λ j m. (w j m).wide)
    (row_at-read (length rows) (turned_up rows first end n) zs r ez k))

-- what is in the rows that go doesn't matter
pub moves_up_alike : (rows zs ws : List RowView) (m end n width : ℕ) → n ≤ end → end ≤ length rows
    → zs ≡ rows_by_position (length rows) (changed_between (λ v. blank_row width) rows m n)
    → ws ≡ rows_by_position (length zs) (moved_up zs 0 end n width)
    → ws ≡ rows_by_position (length rows) (moved_up rows 0 end n width)
moves_up_alike rows zs ws m end n width h l ez ew =
    let f = changed_between (λ v. blank_row width) rows m n in
    read_again (length rows) (length zs) (moved_up zs 0 end n width) (moved_up rows 0 end n width) ws ew
    (length-read (length rows) f zs ez)
    (λ r k. let read = λ (j : ℕ). row_at-read (length rows) f zs j ez in
    grind (arith, nat_tests, read r, read (r + n)))

-- ---- down

moves_down-read : (rows zs : List RowView) (first end n width r : ℕ) → first + n ≤ end → end ≤ length rows
    → r < length rows → ((k : ℕ) → k < length rows → length (row_at rows k).cells ≡ width)
    → row_at zs r ≡ turned_up rows first end (end - first - n) r
    → changed_between (λ v. blank_row (length v.cells)) zs first (first + n) r ≡ moved_down rows first end n width r
moves_down-read rows zs first end n width r h l k w e = grind (arith, nat_tests, w (r + (end - first - n)))

-- n rows down is the other rows up
pub moves_down : (rows zs ws : List RowView) (first end n width : ℕ) → first + n ≤ end → end ≤ length rows
    → ((k : ℕ) → k < length rows → IsRowOf width (row_at rows k))
    → zs ≡ rows_by_position (length rows) (turned_up rows first end (end - first - n))
    → ws ≡ rows_by_position (length zs) (changed_between (λ v. blank_row (length v.cells)) zs first (first + n))
    → ws ≡ rows_by_position (length rows) (moved_down rows first end n width)
moves_down rows zs ws first end n width h l w ez ew =
    let up = end - first - n in
    read_again (length rows) (length zs) (changed_between (λ v. blank_row (length v.cells)) zs first (first + n))
    (moved_down rows first end n width) ws ew (length-read (length rows) (turned_up rows first end up) zs ez)
    (λ r k. moves_down-read rows zs first end n width r h l k (λ j m. (w j m).wide)
    (row_at-read (length rows) (turned_up rows first end up) zs r ez k))

-- ---- lines that come in

-- the row at `end - 1` isn't wrapped any more
pub unwraps : (f : ℕ → RowView) (zs ws : List RowView) (n end at : ℕ) (v : RowView) → 0 < end → end ≤ n
    → at ≡ end - 1 → length zs ≡ n → ((k : ℕ) → k < n → row_at zs k ≡ f k) → v ≡ unwrapped (row_at zs at)
    → ws ≡ set zs at v → ws ≡ rows_by_position n (λ k. cond ((k + 1) == end) (unwrapped (f k)) (f k))
unwraps f zs ws n end at v pos l ea lz rz ev ew =
    rows_by_position_is n (λ k. cond ((k + 1) == end) (unwrapped (f k)) (f k)) ws
    (ap length ew ∙ length-set zs at v ∙ lz)
    (λ k h. ap (λ vs. row_at vs k) ew ∙ row_at-set zs at v k (omega arith) ∙ ap (cond (k == at) v) (rz k h)
    ∙ (let e : v ≡ unwrapped (f at) = ev ∙ ap unwrapped (rz at (omega arith)) in grind (arith, nat_tests)))

-- ---- what is true of the rows of a screen stays

pub IsRowOf-unwrapped : (width : ℕ) (v : RowView) → IsRowOf width v → IsRowOf width (unwrapped v)
IsRowOf-unwrapped width v r = record { row = IsRow-unwrapped v r.row; wide = r.wide }

pub IsSheet-moved_up : (height width : ℕ) (rows : List RowView) (first end n : ℕ) → IsSheet height width rows
    → 0 < height → width < 2 ^ 16 → end ≤ length rows
    → IsSheet height width (rows_by_position (length rows) (moved_up rows first end n width))
IsSheet-moved_up height width rows first end n i some small h =
    IsSheet-by_position height width (length rows) (moved_up rows first end n width) some i.count
    (λ r l. IsRowOf-cond (nat_lt r first || nat_le end r) width (row_at rows r)
    (cond (nat_lt (r + n) end) (row_at rows (r + n)) (blank_row width)) (λ _. i.each r l)
    (λ _. IsRowOf-cond (nat_lt (r + n) end) width (row_at rows (r + n)) (blank_row width)
    (λ b. i.each (r + n) (grind (arith, nat_tests))) (λ _. IsRowOf-blank width small)))
    (λ l. wrapped-cond (nat_lt (height - 1) first
    || nat_le end (height - 1)) (row_at rows (height - 1))
    (cond (nat_lt (height - 1 + n) end) (row_at rows (height - 1 + n)) (blank_row width)) (λ _. i.last)
    (λ _. wrapped-cond (nat_lt (height - 1 + n) end) (row_at rows (height - 1 + n)) (blank_row width)
    (λ b. let m : height - 1 + n < end = grind (arith, nat_tests) in
    let e : height - 1 + n ≡ height - 1 = omega (arith, i.count l) in
    ap (λ k. (row_at rows k).wrapped) e ∙ i.last)
    (λ _. refl)))

IsRowOf-moved_down : (width : ℕ) (rows : List RowView) (first end n r : ℕ)
    → ((k : ℕ) → k < length rows → IsRowOf width (row_at rows k)) → width < 2 ^ 16 → r < length rows
    → IsRowOf width (moved_down rows first end n width r)
IsRowOf-moved_down width rows first end n r each small l =
    IsRowOf-cond (nat_lt r first || nat_le end r) width (row_at rows r)
    (cond (nat_lt r (first + n)) (blank_row width) (row_at rows (r - n))) (λ _. each r l)
    (λ _. IsRowOf-cond (nat_lt r (first + n)) width (blank_row width) (row_at rows (r - n))
    (λ _. IsRowOf-blank width small) (λ _. each (r - n) (omega arith)))

pub IsSheet-opened_line : (height width : ℕ) (rows : List RowView) (first end n : ℕ) → IsSheet height width rows
    → 0 < height → width < 2 ^ 16 → end ≤ length rows
    → IsSheet height width (rows_by_position (length rows) (opened_line rows first end n width))
IsSheet-opened_line height width rows first end n i some small h =
    IsSheet-by_position height width (length rows) (opened_line rows first end n width) some i.count
    (λ r l. let d = IsRowOf-moved_down width rows first end n r i.each small l in
    IsRowOf-cond ((r + 1) == end) width (unwrapped (moved_down rows first end n width r))
    (moved_down rows first end n width r) (λ _. IsRowOf-unwrapped width (moved_down rows first end n width r) d)
    (λ _. d))
    (λ l. wrapped-cond ((height - 1 + 1) == end) (unwrapped (moved_down rows first end n width (height - 1)))
    (moved_down rows first end n width (height - 1)) (λ _. refl)
    (λ b. let kept : moved_down rows first end n width (height - 1) ≡ row_at rows (height - 1) =
    grind (arith, nat_tests, i.count l) in
    ap (λ (v : RowView). v.wrapped) kept ∙ i.last))
