-- Rows that are kept.
use Rattle.std.proofs.Common.{◌≡◌, ℕ, ◌+◌, ◌-◌, ◌^◌, ◌<◌, ◌≤◌, List, ◌++◌, slice_range, length, map, take, drop, min}
use Rattle.std.proofs.Common.{sym, ap, ◌∙◌, arith, length-take-le}
use Rattle.std.proofs.lemmas.Bool.Decides.{nat_tests}
use Rattle.std.proofs.lemmas.List.{take-take}
use Rattle.std.proofs.lemmas.Slice.{between_is}
use Rattle.vt100_cells.specs.Cell.{default_cell}
use Rattle.vt100_rows.specs.Row.{RowView, grown, trimmed}
use Rattle.vt100_rows.specs.Sheet.{row_at, rows_by_position, IsSheet, moved_up, changed_between}
use Rattle.vt100_rows.proofs.KeptLemmas.{wide_along, grown-wide}
use Rattle.vt100_core.specs.Grid.{KeptPart, IsShownWide}
use Rattle.vt100_core.specs.Scroll.{widened, overflow, kept_after, pushed_out}
use Rattle.vt100_rows.proofs.SheetLemmas.{row_at-by_position, rows_by_position_is, length-rows_by_position}
use Rattle.vt100_rows.proofs.MoveLemmas.{IsSheet-moved_up}

shown-read : (f : RowView → RowView) (rows : List RowView) (offset height first end k : ℕ) → k < length rows
    → first ≡ length rows - offset → end ≡ min (length rows) (first + height)
    → changed_between f rows first end k ≡ changed_between f rows (length rows - offset)
    (length rows - offset + height) k
shown-read f rows offset height first end k h ef ee = grind (arith, nat_tests)

pub shows : (k : KeptPart) (rows : List RowView) (offset height width first end : ℕ) → offset ≤ length k.rows
    → first ≡ length k.rows - offset → end ≡ min (length k.rows) (first + height)
    → rows ≡ rows_by_position (length k.rows) (changed_between (λ v. grown v width default_cell) k.rows first end)
    → record k { rows = rows; offset = offset } ≡ widened (record k { offset = offset }) height width
shows k rows offset height width first end h ef ee e =
    let f : RowView → RowView = λ v. grown v width default_cell in
    let same : rows ≡ rows_by_position (length k.rows)
    (changed_between f k.rows (length k.rows - offset) (length k.rows - offset + height)) =
    rows_by_position_is (length k.rows) (changed_between f k.rows (length k.rows - offset)
    (length k.rows - offset + height)) rows (ap length e
    ∙ length-rows_by_position (length k.rows) (changed_between f k.rows first end))
    (λ j l. ap (λ vs. row_at vs j) e ∙ row_at-by_position (length k.rows) (changed_between f k.rows first end) j l
    ∙ shown-read f k.rows offset height first end j l ef ee) in
    λ i. record k { rows = same i; offset = offset }

-- rows that scroll off

overflow-same : (k : KeptPart) (n m : ℕ) → length k.rows ≤ k.capacity → m ≡ n
    → min n k.capacity - (k.capacity - length k.rows) ≡ overflow k m
overflow-same k n m h e = omega arith

length-first : (rows : List RowView) (n : ℕ) → n ≤ length rows → length (take n rows) ≡ n
length-first rows n h = length-take-le n rows h

pub pushes : (k : KeptPart) (rows one two : List RowView) (n over off : ℕ) → n ≤ length rows
    → length k.rows ≤ k.capacity → over ≡ min n k.capacity - (k.capacity - length k.rows)
    → one ≡ drop over k.rows → two ≡ one ++ map trimmed (slice_range rows (n - min n k.capacity) n)
    → off ≡ min (k.scrolled_off + n) (2 ^ 64 - 1)
    → record k { rows = two; offset = 0; scrolled_off = off } ≡ record (kept_after k (take n rows)) { offset = 0 }
pushes k rows one two n over off h l eo e1 e2 ef =
    let n-is : n ≡ length (take n rows) = sym (length-first rows n h) in
    let gone : one ≡ drop (overflow k (length (take n rows))) k.rows =
    e1 ∙ ap (λ m. drop m k.rows) (eo ∙ overflow-same k n (length (take n rows)) l (sym n-is)) in
    let come : map trimmed (slice_range rows (n - min n k.capacity) n)
    ≡ map trimmed (drop (length (take n rows) - min (length (take n rows)) k.capacity) (take n rows)) =
    ap (λ (xs : List RowView). map trimmed xs) (between_is rows (n - min n k.capacity) n
    ∙ ap (λ m. drop (m - min m k.capacity) (take n rows)) n-is) in
    let all : two ≡ drop (overflow k (length (take n rows))) k.rows
    ++ map trimmed (drop (length (take n rows) - min (length (take n rows)) k.capacity) (take n rows)) =
    e2 ∙ ap (λ (xs : List RowView). xs ++ map trimmed (slice_range rows (n - min n k.capacity) n)) gone
    ∙ ap (λ (xs : List RowView). drop (overflow k (length (take n rows))) k.rows ++ xs) come in
    let count : off ≡ min (k.scrolled_off + length (take n rows)) (2 ^ 64 - 1) =
    ef ∙ ap (λ m. min (k.scrolled_off + m) (2 ^ 64 - 1)) n-is in
    λ i. record k { rows = all i; offset = 0; scrolled_off = count i }

-- what the sink is given
pub pushed : (k : KeptPart) (rows : List RowView) (n over : ℕ) → n ≤ length rows → length k.rows ≤ k.capacity
    → over ≡ min n k.capacity - (k.capacity - length k.rows)
    → take over k.rows ++ take (n - min n k.capacity) rows ≡ pushed_out k (take n rows)
pushed k rows n over h l eo =
    let n-is : n ≡ length (take n rows) = sym (length-first rows n h) in
    ap (λ m. take m k.rows ++ take (n - min n k.capacity) rows) (eo
    ∙ overflow-same k n (length (take n rows)) l (sym n-is))
    ∙ ap (λ (xs : List RowView). take (overflow k (length (take n rows))) k.rows ++ xs)
    (sym (take-take (n - min n k.capacity) n rows (omega arith))
    ∙ ap (λ m. take (m - min m k.capacity) (take n rows)) n-is)

pub IsSheet-scrolled : (rows ws : List RowView) (width end n : ℕ) → IsSheet (length rows) width rows → 0 < end
    → end ≤ length rows → width < 2 ^ 16
    → ws ≡ rows_by_position (length rows) (moved_up rows 0 end n width) → IsSheet (length rows) width ws
IsSheet-scrolled rows ws width end n i some h small e =
    rw e (IsSheet-moved_up (length rows) width rows 0 end n i (omega arith) small h)

-- ---- what is shown of the kept rows

grown-read : (rows : List RowView) (width first end j : ℕ) → first ≤ j → j < end
    → changed_between (λ v. grown v width default_cell) rows first end j ≡ grown (row_at rows j) width default_cell
grown-read rows width first end j a b = grind (arith, nat_tests)

pub IsShownWide-widened : (k : KeptPart) (height width : ℕ) → IsShownWide (widened k height width) height width
IsShownWide-widened k height width =
    let f = changed_between (λ v. grown v width default_cell) k.rows (length k.rows - k.offset)
    (length k.rows - k.offset + height) in
    let n = length-rows_by_position (length k.rows) f in
    λ j a b l. wide_along (row_at (rows_by_position (length k.rows) f) j) (grown (row_at k.rows j) width default_cell)
    width
    (row_at-by_position (length k.rows) f j (omega (arith, n))
    ∙ grown-read k.rows width (length k.rows - k.offset) (length k.rows - k.offset + height) j (omega (arith, n))
    (omega (arith, n)))
    (grown-wide (row_at k.rows j) width)

pub IsShownWide-none : (k : KeptPart) (height width : ℕ) → k.offset ≡ 0 → IsShownWide k height width
IsShownWide-none k height width e = λ j a b l. absurd (omega (arith, e))
