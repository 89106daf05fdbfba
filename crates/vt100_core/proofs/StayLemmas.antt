-- Where no line scrolls nothing else changes.
use Rattle.std.proofs.Common.{◌≡◌, ℕ, ◌+◌, ◌-◌, ◌^◌, ◌<◌, ◌≤◌, ◌==◌, Bool, true, false, cond, not, ◌&&◌, List, [], ◌++◌}
use Rattle.std.proofs.Common.{length, take, drop, map, min, refl, sym, ap, ◌∙◌, arith, nat_lt, nat_le}
use Rattle.std.specs.Prelude.{Ok}
use Rattle.std.proofs.lemmas.Bool.{cond_both, cond-true}
use Rattle.std.proofs.lemmas.Bool.Decides.{nat_tests}
use Rattle.std.proofs.lemmas.List.{append-nil}
use Rattle.std.proofs.Math.Seq.{drop-nil, take-nil}
use Rattle.vt100_cells.specs.Cell.{default_cell}
use Rattle.vt100_rows.specs.Row.{RowView, grown, trimmed}
use Rattle.vt100_rows.specs.Sheet.{row_at, rows_by_position, changed_between, moved_up}
use Rattle.vt100_rows.proofs.KeptLemmas.{grown-longer}
use Rattle.vt100_rows.proofs.SinkLemmas.{TakesAll-list}
use Rattle.vt100_rows.proofs.SheetLemmas.{rows_by_position_is}
use Rattle.vt100_core.specs.Grid.{KeptPart, IsKept, IsShownWide, GridView, IsGrid, IsAllocated, is_in_region}
use Rattle.vt100_core.specs.Cursor.{moved_rows_down}
use Rattle.vt100_core.specs.Scroll.{Scrolled, ScrollsTo, widened, overflow, kept_after, pushed_out, up_count, left_rows}
use Rattle.vt100_core.specs.Scroll.{is_kept_from, scrolled_up, rows_past_bottom, fed}

stays-one : (rows : List RowView) (first end width m k : ℕ) → m ≡ 0 → row_at rows k ≡ moved_up rows first end m width k
stays-one rows first end width m k e = grind (arith, nat_tests)

stays : (rows : List RowView) (first end width m : ℕ) → m ≡ 0
    → rows_by_position (length rows) (moved_up rows first end m width) ≡ rows
stays rows first end width m e = sym (rows_by_position_is (length rows) (moved_up rows first end m width) rows refl
    (λ k h. stays-one rows first end width m k e))

is-from : (first end j : ℕ) → (nat_le first j && nat_lt j end) ≡ true → first ≤ j
is-from first end j e = grind (arith, nat_tests)

is-before : (first end j : ℕ) → (nat_le first j && nat_lt j end) ≡ true → j < end
is-before first end j e = grind (arith, nat_tests)

wide-one : (rows : List RowView) (width first end j : ℕ) → (first ≤ j → j < end → width ≤ length (row_at rows j).cells)
    → row_at rows j ≡ changed_between (λ v. grown v width default_cell) rows first end j
wide-one rows width first end j wide =
    cond_both (nat_le first j && nat_lt j end) (grown (row_at rows j) width default_cell) (row_at rows j)
    (λ (v : RowView). row_at rows j ≡ v)
    (λ e. sym (grown-longer (row_at rows j) width (wide (is-from first end j e) (is-before first end j e)))) (λ _. refl)

pub widened-none : (k : KeptPart) (height width : ℕ) → IsShownWide k height width → widened k height width ≡ k
widened-none k height width wide =
    let first = length k.rows - k.offset in
    let same = rows_by_position_is (length k.rows)
    (changed_between (λ v. grown v width default_cell) k.rows first (first + height)) k.rows refl
    (λ j h. wide-one k.rows width first (first + height) j (λ a b. wide j a b h)) in
    λ i. record k { rows = sym same i }

overflow-none : (k : KeptPart) → length k.rows ≤ k.capacity → overflow k 0 ≡ 0
overflow-none k h = omega arith

offset-same : (n m : ℕ) → n ≤ m → cond (n == 0) 0 (min (n + 0) m) ≡ n
offset-same n m h = grind (arith, nat_tests)

pub kept_after-none : (k : KeptPart) → IsKept k → kept_after k [] ≡ k
kept_after-none k i =
    let rows : drop (overflow k 0) k.rows ++ map trimmed (drop (0 - min 0 k.capacity) []) ≡ k.rows =
    ap (λ n. drop n k.rows ++ map trimmed (drop (0 - min 0 k.capacity) [])) (overflow-none k i.fits)
    ∙ ap (λ (xs : List RowView). k.rows ++ map trimmed xs) (drop-nil (0 - min 0 k.capacity)) ∙ append-nil k.rows in
    let offset : cond (k.offset == 0) 0 (min (k.offset + 0)
    (length (drop (overflow k 0) k.rows ++ map trimmed (drop (0 - min 0 k.capacity) [])))) ≡ k.offset =
    ap (λ (xs : List RowView). cond (k.offset == 0) 0 (min (k.offset + 0) (length xs))) rows
    ∙ offset-same k.offset (length k.rows) i.offset in
    let count : min (k.scrolled_off + 0) (2 ^ 64 - 1) ≡ k.scrolled_off = omega (arith, i.bounded) in
    λ j. record k { rows = rows j; offset = offset j; scrolled_off = count j }

left-none : (g : GridView) (n : ℕ) → up_count g n ≡ 0 → left_rows g n ≡ []
left-none g n e = ap (λ m. take m (drop g.top g.rows)) e

choice-same : {A : Type 0} (b : Bool) (x y : A) → x ≡ y → cond b x y ≡ y
choice-same true x y e = e
choice-same false x y e = refl

pub scrolls-none : (g : GridView) (n : ℕ) → up_count g n ≡ 0 → IsKept g.kept → IsShownWide g.kept g.height g.width
    → g ≡ (scrolled_up g n).grid
unfolding scrolled_up
scrolls-none g n e i wide =
    let rows = stays g.rows g.top (g.bottom + 1) g.width (up_count g n) e in
    let kept : cond (is_kept_from g) (widened (kept_after g.kept (left_rows g n)) g.height g.width) g.kept ≡ g.kept =
    choice-same (is_kept_from g) (widened (kept_after g.kept (left_rows g n)) g.height g.width) g.kept
    (ap (λ (xs : List RowView). widened (kept_after g.kept xs) g.height g.width) (left-none g n e)
    ∙ ap (λ (k : KeptPart). widened k g.height g.width) (kept_after-none g.kept i)
    ∙ widened-none g.kept g.height g.width wide) in
    λ j. record g { rows = sym rows j; kept = sym kept j }

pub pushed_out-none : (k : KeptPart) → length k.rows ≤ k.capacity → pushed_out k [] ≡ []
pushed_out-none k h = ap (λ n. take n k.rows ++ take (0 - min 0 k.capacity) []) (overflow-none k h)
    ∙ take-nil (0 - min 0 k.capacity)

pub sinks-none : (g : GridView) (n : ℕ) → up_count g n ≡ 0 → length g.kept.rows ≤ g.kept.capacity
    → [] ≡ (scrolled_up g n).sunk
unfolding scrolled_up
sinks-none g n e h =
    sym (ap (λ (xs : List RowView). cond (not (g.top == 0)) [] (cond g.kept.keeps (pushed_out g.kept xs) xs))
    (left-none g n e)
    ∙ ap (λ (xs : List RowView). cond (not (g.top == 0)) [] xs)
    (choice-same g.kept.keeps (pushed_out g.kept []) [] (pushed_out-none g.kept h))
    ∙ choice-same (not (g.top == 0)) [] [] refl)

-- where no line goes
pub scrolls-nothing : {S : Type 0} {takes : S → RowView → S → Type 0} {s : S} {T E : Type 0} {x : T} (g : GridView)
    (n : ℕ) → up_count g n ≡ 0 → IsGrid g → IsAllocated g
    → ScrollsTo takes s s g g {T = T} {E = E} (Ok x) (scrolled_up g n)
scrolls-nothing {takes = takes} {s} g n e i a = record {
  grid = scrolls-none g n e i.kept i.shown;
  sink = TakesAll-list takes s s [] _ (sinks-none g n e i.kept.fits) refl;
  limits = record { height = refl; width = refl; kept = record { keeps = refl; capacity = refl } };
  keeps_none = λ z. refl;
  stays = λ z. refl;
  allocated = a;
}

-- ---- a line feed above the region's last row

pub feeds : (g : GridView) (n : ℕ) → is_in_region g ≡ true
    → scrolled_up (moved_rows_down g n) (rows_past_bottom g n) ≡ fed g n
unfolding fed
feeds g n e = sym (cond-true (is_in_region g) _ _ e)

no-lines : (g : GridView) (m : ℕ) → m ≡ 0 → up_count g m ≡ 0
no-lines g m e = omega arith

pub feeds-none : (g : GridView) (n : ℕ) → is_in_region g ≡ true → rows_past_bottom g n ≡ 0 → IsKept g.kept
    → IsShownWide g.kept g.height g.width → moved_rows_down g n ≡ (fed g n).grid
feeds-none g n inside e i wide =
    let d = moved_rows_down g n in
    scrolls-none d (rows_past_bottom g n) (no-lines d (rows_past_bottom g n) e) i wide
    ∙ ap (λ (s : Scrolled). s.grid) (feeds g n inside)

pub feeds-sunk_none : (g : GridView) (n : ℕ) → is_in_region g ≡ true → rows_past_bottom g n ≡ 0
    → length g.kept.rows ≤ g.kept.capacity → [] ≡ (fed g n).sunk
feeds-sunk_none g n inside e h =
    let d = moved_rows_down g n in
    sinks-none d (rows_past_bottom g n) (no-lines d (rows_past_bottom g n) e) h
    ∙ ap (λ (s : Scrolled). s.sunk) (feeds g n inside)
