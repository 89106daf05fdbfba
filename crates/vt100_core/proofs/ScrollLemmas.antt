-- Scrolling up.
use Rattle.std.proofs.Common.{◌≡◌, ℕ, ◌+◌, ◌<◌, ◌==◌, Bool, true, false, cond, ◌&&◌, List, [], length, take, drop}
use Rattle.std.proofs.Common.{⊎_elim, min, refl, sym, ap, ◌∙◌, arith, nat_le, subst}
use Rattle.std.specs.Prelude.{Result, Ok}
use Rattle.std.proofs.lemmas.Bool.{cases_Bool, eq-eqb, ne_eqb, eqb-true, and_parts, and_from, cond-true, cond-false}
use Rattle.std.proofs.lemmas.Bool.Decides.{nat_tests}
use Rattle.vt100_rows.specs.Row.{RowView, with_wrap}
use Rattle.vt100_rows.proofs.RowLemmas.{IsRow-with_wrap}
use Rattle.vt100_rows.specs.Sheet.{row_at, rows_by_position, IsSheet, moved_up}
use Rattle.vt100_rows.specs.Sink.{TakesAll}
use Rattle.vt100_rows.proofs.SheetLemmas.{length-rows_by_position}
use Rattle.vt100_rows.proofs.SinkLemmas.{TakesAll-list}
use Rattle.vt100_core.specs.Grid.{KeptPart, IsKept, IsShownWide, GridView, IsGrid, IsAllocated, SameKeeping, with_row}
use Rattle.vt100_core.specs.Grid.{with_rows}
use Rattle.vt100_core.specs.Lines.{lines_closed}
use Rattle.vt100_core.specs.Scroll.{ScrollsTo, widened, kept_after, pushed_out, up_count, left_rows, is_kept_from}
use Rattle.vt100_core.specs.Scroll.{scrolled_up, scrollback_erased}
use Rattle.vt100_core.proofs.GridLemmas.{IsGrid-with_row, IsGrid-parts, IsGrid-scrolled}
use Rattle.vt100_core.proofs.KeepLemmas.{IsShownWide-widened}

IsSheet-as : (height height' width width' : ℕ) (rows : List RowView) → height ≡ height' → width ≡ width'
    → IsSheet height width rows → IsSheet height' width' rows
IsSheet-as height height' width width' rows e f s =
    subst (λ w. IsSheet height' w rows) f (subst (λ h. IsSheet h width rows) e s)

pub IsShownWide-is : (k m : KeptPart) (height height' width width' : ℕ) → k ≡ widened m height width → height ≡ height'
    → width ≡ width' → IsShownWide k height' width'
IsShownWide-is k m height height' width width' e f g =
    subst (λ w. IsShownWide k height' w) g (subst (λ h. IsShownWide k h width) f
    (subst (λ (x : KeptPart). IsShownWide x height width) (sym e) (IsShownWide-widened m height width)))

pub IsShownWide-as : (k m : KeptPart) (height height' width width' : ℕ) → k ≡ m → height ≡ height' → width ≡ width'
    → IsShownWide m height' width' → IsShownWide k height width
IsShownWide-as k m height height' width width' e f g wide =
    subst (λ w. IsShownWide k height w) (sym g) (subst (λ h. IsShownWide k h width') (sym f)
    (subst (λ (x : KeptPart). IsShownWide x height' width') (sym e) wide))

count-same : (g : GridView) (count end n : ℕ) → g.top ≡ 0 → end ≡ g.bottom + 1 → n ≡ min count end
    → n ≡ up_count g count
count-same g count end n t e f = omega arith

pub scrolls-off : (g : GridView) (count end n width height : ℕ) (rows : List RowView) (k : KeptPart) → g.top ≡ 0
    → g.kept.keeps ≡ true → end ≡ g.bottom + 1 → n ≡ min count end → width ≡ g.width → height ≡ g.height
    → rows ≡ rows_by_position (length g.rows) (moved_up g.rows 0 end n width)
    → k ≡ widened (kept_after g.kept (take n g.rows)) height width
    → record g { rows = rows; kept = k } ≡ (scrolled_up g count).grid
unfolding scrolled_up
scrolls-off g count end n width height rows k t keeps ee en ew eh er ek =
    let c = count-same g count end n t ee en in
    let same_rows : rows ≡ rows_by_position (length g.rows)
    (moved_up g.rows g.top (g.bottom + 1) (up_count g count) g.width) =
    er ∙ (λ i. rows_by_position (length g.rows) (moved_up g.rows (sym t i) (ee i) (c i) (ew i))) in
    let left : take n g.rows ≡ left_rows g count = λ i. take (c i) (drop (sym t i) g.rows) in
    let same_kept : k ≡ cond (is_kept_from g) (widened (kept_after g.kept (left_rows g count)) g.height g.width)
    g.kept =
    ek ∙ (λ i. widened (kept_after g.kept (left i)) (eh i) (ew i))
    ∙ sym (cond-true (is_kept_from g) _ g.kept (and_from (g.top == 0) g.kept.keeps (eq-eqb g.top 0 t) keeps)) in
    λ i. record (with_rows g (moved_up g.rows g.top (g.bottom + 1) (up_count g count) g.width)) {
      rows = same_rows i;
      kept = same_kept i;
    }

-- the same where the rows that leave aren't kept

and-false : (b : Bool) → (b && false) ≡ false
and-false true = refl
and-false false = refl

pub unkept : (g : GridView) → g.kept.keeps ≡ false → is_kept_from g ≡ false
unkept g e = ap (λ b. (g.top == 0) && b) e ∙ and-false (g.top == 0)

pub unkept-below : (g : GridView) → 0 < g.top → is_kept_from g ≡ false
unkept-below g h = grind (arith, nat_tests)

pub closes : (g : GridView) (count : ℕ) → is_kept_from g ≡ false → lines_closed g g.top count ≡ (scrolled_up g count).grid
unfolding scrolled_up
closes g count k =
    let kept : g.kept ≡ cond (is_kept_from g) (widened (kept_after g.kept (left_rows g count)) g.height g.width)
    g.kept = sym (cond-false (is_kept_from g) _ g.kept k) in
    λ i. record (lines_closed g g.top count) { kept = kept i }

pub sunk-kept : (g : GridView) (count end n : ℕ) → g.top ≡ 0 → g.kept.keeps ≡ true → end ≡ g.bottom + 1
    → n ≡ min count end → pushed_out g.kept (take n g.rows) ≡ (scrolled_up g count).sunk
unfolding scrolled_up
sunk-kept g count end n t keeps ee en =
    let c = count-same g count end n t ee en in
    let left : take n g.rows ≡ left_rows g count = λ i. take (c i) (drop (sym t i) g.rows) in
    rw (eq-eqb g.top 0 t, keeps) (ap (λ (xs : List RowView). pushed_out g.kept xs) left)

pub sunk-unkept : (g : GridView) (count end n : ℕ) → g.top ≡ 0 → g.kept.keeps ≡ false → end ≡ g.bottom + 1
    → n ≡ min count end → take n g.rows ≡ (scrolled_up g count).sunk
unfolding scrolled_up
sunk-unkept g count end n t keeps ee en =
    let c = count-same g count end n t ee en in
    let left : take n g.rows ≡ left_rows g count = λ i. take (c i) (drop (sym t i) g.rows) in
    rw (eq-eqb g.top 0 t, keeps) left

pub sunk-below : (g : GridView) (count : ℕ) → 0 < g.top → [] ≡ (scrolled_up g count).sunk
unfolding scrolled_up
sunk-below g count h = rw (ne_eqb g.top 0 (λ e. absurd (omega (arith, h, e))))

pub taken-kept : {S : Type 0} (takes : S → RowView → S → Type 0) (s t : S) (g : GridView)
    (count end n : ℕ) → g.top ≡ 0 → g.kept.keeps ≡ true → end ≡ g.bottom + 1 → n ≡ min count end
    → TakesAll takes s (pushed_out g.kept (take n g.rows)) t → TakesAll takes s (scrolled_up g count).sunk t
taken-kept takes s t g count end n top keeps ee en taken =
    TakesAll-list takes s t _ _ (sunk-kept g count end n top keeps ee en) taken

-- rows and kept rows as a call leaves them
pub IsGrid-off : (g : GridView) {rows : List RowView} {width : ℕ} (k : KeptPart) → IsGrid g → IsAllocated g
    → length rows ≡ length g.rows → width ≡ g.width → IsSheet (length g.rows) width rows → IsKept k
    → IsShownWide k g.height g.width → IsGrid (record g { rows = rows; kept = k })
IsGrid-off g {rows} k i a count ew sheet kept shown =
    IsGrid-scrolled g rows k i a count (IsSheet-as _ g.height _ g.width rows (i.sheet.count a) ew sheet) kept shown

-- what becomes of a grid that is the same
pub ScrollsTo-at : {g h : GridView} (count : ℕ) → g ≡ h → {S : Type 0} {takes : S → RowView → S → Type 0} {s t : S}
    {k : GridView} {T E : Type 0} {r : Result T E} → ScrollsTo takes s t g k r (scrolled_up g count)
    → ScrollsTo takes s t h k r (scrolled_up h count)
ScrollsTo-at count e {takes = takes} {s} {t} {k} {r = r} h =
    subst (λ (x : GridView). ScrollsTo takes s t x k r (scrolled_up x count)) e h

-- ---- what the code does

-- the region's lines have moved up, and no row is kept
scrolls-closed : {S : Type 0} {takes : S → RowView → S → Type 0} {s t : S} {T E : Type 0} {x : T} (g : GridView)
    {h : GridView} (count : ℕ) → h ≡ lines_closed g g.top count → is_kept_from g ≡ false → IsAllocated h
    → TakesAll takes s (scrolled_up g count).sunk t
    → ScrollsTo takes s t g h {T = T} {E = E} (Ok x) (scrolled_up g count)
scrolls-closed g count e k some taken = record {
  grid = e ∙ closes g count k;
  sink = taken;
  limits = rw e (record { height = refl; width = refl; kept = record { keeps = refl; capacity = refl } });
  keeps_none = λ z. refl;
  stays = λ z. refl;
  allocated = some;
}

-- since the region begins further down
pub scrolls-below : {S : Type 0} {takes : S → RowView → S → Type 0} {s : S} {T E : Type 0} {x : T} (g : GridView)
    {h : GridView} (count : ℕ) → h ≡ lines_closed g g.top count → 0 < g.top → IsAllocated h
    → ScrollsTo takes s s g h {T = T} {E = E} (Ok x) (scrolled_up g count)
scrolls-below {takes = takes} {s} g count e below some = scrolls-closed g count e (unkept-below g below) some
    (TakesAll-list takes s s [] _ (sunk-below g count below) refl)

-- since none is kept at all
pub scrolls-given : {S : Type 0} {takes : S → RowView → S → Type 0} {s t : S} {T E : Type 0} {x : T} (g : GridView)
    {h : GridView} (count end n : ℕ) → h ≡ lines_closed g g.top count → g.top ≡ 0
    → g.kept.keeps ≡ false → end ≡ g.bottom + 1 → n ≡ min count end → IsAllocated h
    → TakesAll takes s (take n g.rows) t → ScrollsTo takes s t g h {T = T} {E = E} (Ok x) (scrolled_up g count)
scrolls-given {takes = takes} {s} {t} g count end n e top keeps ee en some taken =
    scrolls-closed g count e (unkept g keeps) some
    (TakesAll-list takes s t _ _ (sunk-unkept g count end n top keeps ee en) taken)

-- a call makes the rows of g into `rows`, and what is kept into k
pub scrolls-kept : {S : Type 0} {takes : S → RowView → S → Type 0} {s t : S} {T E : Type 0} {x : T} (g : GridView)
    {rows : List RowView} (count end n width height : ℕ) (k : KeptPart) → IsAllocated g
    → g.top ≡ 0 → g.kept.keeps ≡ true → end ≡ g.bottom + 1 → n ≡ min count end → width ≡ g.width
    → height ≡ g.height → rows ≡ rows_by_position (length g.rows) (moved_up g.rows 0 end n width)
    → k ≡ widened (kept_after g.kept (take n g.rows)) height width → SameKeeping g.kept k
    → TakesAll takes s (pushed_out g.kept (take n g.rows)) t
    → ScrollsTo takes s t g (record g { rows = rows; kept = k }) {T = T} {E = E} (Ok x) (scrolled_up g count)
scrolls-kept {takes = takes} {s} {t} g {rows} count end n width height k a top keeps ee en ew eh er ek limits z =
    let some = ap (λ (xs : List RowView). length xs) er
    ∙ length-rows_by_position (length g.rows) (moved_up g.rows 0 end n width) in
    record {
      grid = scrolls-off g count end n width height rows k top keeps ee en ew eh er ek;
      sink = taken-kept takes s t g count end n top keeps ee en z;
      limits = record { height = refl; width = refl; kept = limits };
      keeps_none = λ none. refl;
      stays = λ none. refl;
      allocated = omega (arith, some, a);
    }

-- ---- the row that the cursor leaves

pub IsGrid-wrap_row : (g : GridView) (r : ℕ) (wraps : Bool) → IsGrid g → r < length g.rows
    → (wraps ≡ true → r + 1 < g.height) → IsGrid (with_row g r (with_wrap (row_at g.rows r) wraps))
IsGrid-wrap_row g r wraps i h below =
    let row = i.sheet.each r h in
    IsGrid-with_row g r (with_wrap (row_at g.rows r) wraps) i h
    (record { row = IsRow-with_wrap (row_at g.rows r) wraps row.row; wide = row.wide })
    (λ e. ⊎_elim (λ (t : wraps ≡ true). absurd (omega (arith, below t, e)))
    (λ (f : wraps ≡ false). ap (λ b. (with_wrap (row_at g.rows r) b).wrapped) f) (cases_Bool wraps))

pub above-last : (g : GridView) (r : ℕ) (wrap : Bool) → IsGrid g → (wrap && ((r + 1) == g.row)) ≡ true
    → r + 1 < g.height
above-last g r wrap i e =
    let parts = and_parts wrap ((r + 1) == g.row) e in
    omega (arith, eqb-true (r + 1) g.row parts.1, i.cursor_row)

pub too-wide : (g : GridView) (w : ℕ) → g.width < g.col + w → nat_le (g.col + w) g.width ≡ false
too-wide g w h = grind (arith, nat_tests)

-- ---- no row is kept any more

pub IsGrid-scrollback_erased : (g : GridView) → IsGrid g → IsAllocated g → IsGrid (scrollback_erased g)
IsGrid-scrollback_erased g i a =
    IsGrid-parts g g.rows g.col (record (g.kept) { rows = []; offset = 0; scrolled_off = 0 }) i i.sheet i.cursor_col
    (record {
      each = λ j l. absurd (omega arith);
      fits = omega arith;
      counted = omega arith;
      offset = omega arith;
      none = λ e. ((i.kept.none e).0, refl);
      bounded = omega arith;
    })
    (λ j above below l. absurd (omega arith)) (λ z. absurd (omega arith))
