-- Another size of a list of rows.
use Rattle.std.proofs.Common.{◌≡◌, ℕ, ◌-◌, ◌^◌, ◌<◌, ◌≤◌, Bool, true, false, cond, ◌&&◌, List, length, set, take, min}
use Rattle.std.proofs.Common.{refl, sym, ap, ◌∙◌, arith, length-take, nat_lt, nat_le, ⊎_elim, subst}
use Rattle.std.proofs.lemmas.Bool.{cond_both, cases_lt, ltb-true, ltb-false, le-ltb}
use Rattle.std.proofs.lemmas.Bool.Decides.{nat_tests}
use Rattle.std.proofs.lemmas.List.{places, set-get_or}
use Rattle.vt100_forms.specs.Attrs.{default_attrs}
use Rattle.vt100_cells.specs.Cell.{default_cell}
use Rattle.vt100_cells.specs.Line.{cut, extended}
use Rattle.vt100_cells.specs.Cells.{cell_at, by_position}
use Rattle.vt100_rows.specs.Row.{RowView, blank_row, truncated, grown, resized_row, unwrapped}
use Rattle.vt100_rows.proofs.RowLemmas.{IsRow-truncated, IsRow-resized}
use Rattle.vt100_cells.proofs.CellLemmas.{IsCell-empty}
use Rattle.vt100_cells.proofs.ListLemmas.{length-by_position}
use Rattle.vt100_rows.specs.Sheet.{row_at, rows_by_position, IsRowOf, IsSheet, changed_between, first_rows}
use Rattle.vt100_rows.proofs.SheetLemmas.{rows_by_position_is, length-read, read_again, changes-done, IsRowOf-cond}
use Rattle.vt100_rows.proofs.SheetLemmas.{wrapped-cond, IsSheet-by_position, rows_equal, all-read}
use Rattle.vt100_rows.proofs.MoveLemmas.{unwraps}
use Rattle.vt100_rows.proofs.KeptLemmas.{IsRow-grown_default, grown-wide}

first-read : (rows : List RowView) (height k : ℕ) → k < min height (length rows)
    → row_at (take height rows) k ≡ row_at rows k
first-read rows height k h = grind (arith, places)

pub firsts : (rows ys ws : List RowView) (height at : ℕ) (v : RowView) → 0 < height → height ≤ length rows
    → ys ≡ take height rows → at ≡ height - 1 → v ≡ unwrapped (row_at ys at) → ws ≡ set ys at v
    → ws ≡ rows_by_position (min height (length rows)) (first_rows rows height)
firsts rows ys ws height at v h l ey ea ev ew =
    unwraps (row_at rows) ys ws (min height (length rows)) height at v h (omega arith) ea
    (ap length ey ∙ simp length-take (omega arith))
    (λ k m. ap (λ vs. row_at vs k) ey ∙ first-read rows height k m) ev ew

pub firsts-all : (rows ys : List RowView) (height : ℕ) → length rows < height → ys ≡ take height rows
    → ys ≡ rows_by_position (min height (length rows)) (first_rows rows height)
firsts-all rows ys height l ey =
    let n : length ys ≡ min height (length rows) = ap length ey ∙ simp length-take (omega arith) in
    rows_by_position_is (min height (length rows)) (first_rows rows height) ys n
    (λ k m. ap (λ vs. row_at vs k) ey ∙ first-read rows height k m ∙ grind (arith, nat_tests))

pub lt_ltb : (m n : ℕ) → m < n → nat_lt m n ≡ true
lt_ltb m n h = grind (arith, nat_tests)

length-truncated : (v : RowView) (n : ℕ) → n ≤ length v.cells → length (truncated v n).cells ≡ n
length-truncated v n h = length-by_position (min n (length v.cells)) (cut (min n (length v.cells)) (cell_at v.cells))
    ∙ omega arith

length-grown : (v : RowView) (n : ℕ) → length v.cells ≤ n → length (grown v n default_cell).cells ≡ n
length-grown v n h =
    cond_both (nat_lt (length v.cells) n) (record {
      cells = by_position n (extended (length v.cells) (cell_at v.cells) default_cell);
      wrapped = false;
    }) v
    (λ (x : RowView). length x.cells ≡ n)
    (λ _. length-by_position n (extended (length v.cells) (cell_at v.cells) default_cell))
    (λ e. omega (arith, ltb-false (length v.cells) n e))

pub length-resized : (v : RowView) (n : ℕ) → length (resized_row v n default_cell).cells ≡ n
length-resized v n =
    cond_both (nat_lt n (length v.cells)) (truncated v n) (grown v n default_cell) (λ (x : RowView). length x.cells ≡ n)
    (λ e. length-truncated v n (omega (arith, ltb-true n (length v.cells) e)))
    (λ e. length-grown v n (ltb-false n (length v.cells) e))

pub IsRowOf-resized : (from to : ℕ) (v : RowView) → IsRowOf from v → to < 2 ^ 16
    → IsRowOf to (resized_row v to default_cell)
IsRowOf-resized from to v r h = record {
  row = IsRow-resized v to default_cell r.row (IsCell-empty default_attrs) refl
      refl h;
  wide = length-resized v to;
}

pub changes-all : (f : RowView → RowView) (rows ws : List RowView) (n : ℕ) → length ws ≡ length rows → n ≡ length rows
    → ((k : ℕ) → row_at ws k ≡ changed_between f rows 0 n k)
    → ws ≡ rows_by_position (length rows) (λ r. f (row_at rows r))
changes-all f rows ws n l e read =
    read_again (length rows) (length rows) (changed_between f rows 0 (length rows)) (λ r. f (row_at rows r)) ws
    (changes-done f rows ws 0 n (length rows) l e read) refl (all-read f rows)

pub resized-longer : (v : RowView) (to : ℕ) → length v.cells ≤ to
    → grown v to default_cell ≡ resized_row v to default_cell
resized-longer v to h = ap (λ b. cond b (truncated v to) (grown v to default_cell))
    (sym (le-ltb to (length v.cells) h))

pub narrows : (rows : List RowView) (from to : ℕ) → IsSheet (length rows) from rows → to < from
    → rows_by_position (length rows) (changed_between (λ v. truncated v to) rows 0 (length rows))
    ≡ rows_by_position (length rows) (λ r. resized_row (row_at rows r) to default_cell)
narrows rows from to i h =
    let n = length rows in
    let f = changed_between (λ v. truncated v to) rows 0 n in
    read_again n n f (λ r. resized_row (row_at rows r) to default_cell) (rows_by_position n f) refl refl
    (λ k l. let v = row_at rows k in
    all-read (λ w. truncated w to) rows k l ∙ ap (λ b. cond b (truncated v to) (grown v to default_cell))
    (sym (lt_ltb to (length v.cells) (omega (arith, (i.each k l).wide)))))

pub widens : (rows : List RowView) (from to : ℕ) → IsSheet (length rows) from rows → from ≤ to
    → rows_by_position (length rows) (λ r. grown (row_at rows r) to default_cell)
    ≡ rows_by_position (length rows) (λ r. resized_row (row_at rows r) to default_cell)
widens rows from to i h =
    let n = length rows in
    let f : ℕ → RowView = λ r. grown (row_at rows r) to default_cell in
    read_again n n f (λ r. resized_row (row_at rows r) to default_cell) (rows_by_position n f) refl refl
    (λ k l. resized-longer (row_at rows k) to (omega (arith, (i.each k l).wide)))

pub same_read : (rows : List RowView) (r : ℕ) (v : RowView) → v ≡ row_at rows r → (k : ℕ)
    → row_at (set rows r v) k ≡ row_at rows k
same_read rows r v e k = ap (λ vs. row_at vs k) (ap (set rows r) e ∙ set-get_or rows r (blank_row 0))

IsRowOf-back : (from to : ℕ) (v w : RowView) → IsRowOf from v → from ≤ to → to < 2 ^ 16 → w ≡ grown v to default_cell
    → IsRowOf from (truncated w from)
IsRowOf-back from to v w r h small e = record {
  row = IsRow-truncated w from (rw e (IsRow-grown_default v to r.row small));
  wide = length-truncated w from (rw e (omega (arith, grown-wide v to)));
}

pub IsSheet-back : (rows ys ws : List RowView) (from to end : ℕ) → IsSheet (length rows) from rows → from ≤ to
    → to < 2 ^ 16 → length ys ≡ length rows
    → ((k : ℕ) → row_at ys k ≡ changed_between (λ v. grown v to default_cell) rows 0 end k)
    → ws ≡ rows_by_position (length ys) (changed_between (λ v. truncated v from) ys 0 end)
    → IsSheet (length rows) from ws
IsSheet-back rows ys ws from to end i h small l read e =
    let f : ℕ → RowView = changed_between (λ v. truncated v from) ys 0 end in
    let ew : ws ≡ rows_by_position (length rows) f = e ∙ ap (λ n. rows_by_position n f) l in
    let choice = λ (k : ℕ) (b : Bool) (is : (nat_le 0 k && nat_lt k end) ≡ b).
    ap (λ q. cond q (grown (row_at rows k) to default_cell) (row_at rows k)) is in
    ⊎_elim
    (λ (some : 0 < length rows). rw ew (IsSheet-by_position (length rows) from (length rows) f some i.count
    (λ r m. IsRowOf-cond (nat_le 0 r && nat_lt r end) from (truncated (row_at ys r) from) (row_at ys r)
    (λ b. IsRowOf-back from to (row_at rows r) (row_at ys r) (i.each r m) h small (read r ∙ choice r true b))
    (λ b. rw (read r ∙ choice r false b) (i.each r m)))
    (λ m. wrapped-cond (nat_le 0 (length rows - 1)
    && nat_lt (length rows - 1) end) (truncated (row_at ys (length rows - 1)) from) (row_at ys (length rows - 1))
    (λ _. refl)
    (λ b. ap (λ (v : RowView). v.wrapped) (read (length rows - 1) ∙ choice (length rows - 1) false b) ∙ i.last))))
    (λ (none : length rows ≤ 0). subst (λ (xs : List RowView). IsSheet (length rows) from xs)
    (rows_equal rows ws (sym (length-read (length rows) f ws ew)) (λ k m. absurd (omega arith))) i)
    (cases_lt 0 (length rows))
