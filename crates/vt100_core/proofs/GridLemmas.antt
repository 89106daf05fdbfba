-- What is true of a grid stays true.
use Rattle.std.proofs.Common.{◌≡◌, ℕ, ◌+◌, ◌-◌, ◌<◌, ◌≤◌, Bool, true, false, cond, List, [], ◌∷◌, length, set}
use Rattle.std.proofs.Common.{min, refl, sym, ap, ◌∙◌, arith, length-set}
use Rattle.vt100_rows.specs.Row.{RowView}
use Rattle.vt100_rows.specs.Sheet.{rows_by_position, IsRowOf, IsSheet, moved_up, opened_line}
use Rattle.vt100_core.specs.declared.scrollback.Scrollback.{Scrollback}
use Rattle.vt100_core.specs.declared.scrollback.Scrollback.TheVariants.{Disabled, Enabled}
use Rattle.vt100_core.specs.Grid.{KeptPart, IsKept, IsShownWide, GridView, IsGrid, IsAllocated, SameLimits, keeps_of}
use Rattle.vt100_core.specs.Grid.{capacity_of, scrollback_of, new_grid, with_row, with_rows}
use Rattle.vt100_core.specs.Lines.{lines_opened, lines_closed}
use Rattle.vt100_rows.proofs.SheetLemmas.{length-rows_by_position, length-read, IsSheet-with_row}
use Rattle.vt100_rows.proofs.MoveLemmas.{IsSheet-moved_up, IsSheet-opened_line}

pub IsGrid-at : {g h : GridView} → IsGrid h → g ≡ h → IsGrid g
IsGrid-at i e = rw e i

-- rows that a call has changed in place are still there
pub allocated-again : {g s : GridView} {rows : List RowView} (f : ℕ → RowView) → g ≡ s → IsAllocated s
    → rows ≡ rows_by_position (length g.rows) f → 0 < length rows
allocated-again {g} {s} {rows} f e some er =
    omega (arith, some, length-read (length g.rows) f rows er, ap (λ (x : GridView). length x.rows) e)

-- ---- limits

pub SameLimits-trans : (g h k : GridView) → SameLimits g h → SameLimits h k → SameLimits g k
SameLimits-trans g h k p q = record {
  height = q.height ∙ p.height;
  width = q.width ∙ p.width;
  kept = record { keeps = q.kept.keeps ∙ p.kept.keeps; capacity = q.kept.capacity ∙ p.kept.capacity };
}

-- ---- a grid without rows

pub no-rows : (rows : List RowView) → length rows ≡ 0 → rows ≡ []
no-rows [] e = refl
no-rows (v ∷ rows) e = absurd (omega arith)

-- what a new grid is, part by part
pub record IsNew (g : GridView) : Type 0 where
  pub rows : g.rows ≡ []
  pub row : g.row ≡ 0
  pub col : g.col ≡ 0
  pub saved_row : g.saved_row ≡ 0
  pub saved_col : g.saved_col ≡ 0
  pub origin : g.origin ≡ false
  pub saved_origin : g.saved_origin ≡ false
  pub top : g.top ≡ 0
  pub bottom : g.bottom ≡ g.height - 1
  pub kept_rows : g.kept.rows ≡ []
  pub offset : g.kept.offset ≡ 0
  pub scrolled_off : g.kept.scrolled_off ≡ 0

IsNew-made : (g : GridView) (s : Scrollback) → g ≡ new_grid g.height g.width s → IsNew g
IsNew-made g s e = record {
  rows = ap (λ (x : GridView). x.rows) e;
  row = ap (λ (x : GridView). x.row) e;
  col = ap (λ (x : GridView). x.col) e;
  saved_row = ap (λ (x : GridView). x.saved_row) e;
  saved_col = ap (λ (x : GridView). x.saved_col) e;
  origin = ap (λ (x : GridView). x.origin) e;
  saved_origin = ap (λ (x : GridView). x.saved_origin) e;
  top = ap (λ (x : GridView). x.top) e;
  bottom = ap (λ (x : GridView). x.bottom) e;
  kept_rows = ap (λ (x : GridView). x.kept.rows) e;
  offset = ap (λ (x : GridView). x.kept.offset) e;
  scrolled_off = ap (λ (x : GridView). x.kept.scrolled_off) e;
}

pub IsNew-of : (g : GridView) → IsGrid g → length g.rows ≡ 0 → IsNew g
IsNew-of g i z = IsNew-made g (scrollback_of g.kept) (i.fresh z)

keeps-same : (b : Bool) (n : ℕ) → keeps_of (cond b (Enabled n) Disabled) ≡ b
keeps-same true n = refl
keeps-same false n = refl

capacity-same : (b : Bool) (n : ℕ) → (b ≡ false → n ≡ 0) → capacity_of (cond b (Enabled n) Disabled) ≡ n
capacity-same true n h = refl
capacity-same false n h = sym (h refl)

pub new-again : (g : GridView) → IsKept g.kept → IsNew g → g ≡ new_grid g.height g.width (scrollback_of g.kept)
new-again g k n =
    let keeps = sym (keeps-same g.kept.keeps g.kept.capacity) in
    let capacity = sym (capacity-same g.kept.keeps g.kept.capacity (λ e. (k.none e).0)) in
    λ i. record g {
      rows = n.rows i;
      row = n.row i;
      col = n.col i;
      saved_row = n.saved_row i;
      saved_col = n.saved_col i;
      origin = n.origin i;
      saved_origin = n.saved_origin i;
      top = n.top i;
      bottom = n.bottom i;
      kept = record {
        keeps = keeps i;
        rows = n.kept_rows i;
        capacity = capacity i;
        offset = n.offset i;
        scrolled_off = n.scrolled_off i;
      };
    }

-- other rows, another column and other kept rows
pub IsGrid-parts : (g : GridView) (rows : List RowView) (col : ℕ) (k : KeptPart) → IsGrid g
    → IsSheet g.height g.width rows → col ≤ g.width → IsKept k → IsShownWide k g.height g.width
    → (length rows ≡ 0 → record g { rows = rows; col = col; kept = k }
    ≡ new_grid g.height g.width (scrollback_of k)) → IsGrid (record g { rows = rows; col = col; kept = k })
IsGrid-parts g rows col k i sheet cursor kept shown fresh = record {
  sheet = sheet;
  some_rows = i.some_rows;
  some_cols = i.some_cols;
  few_rows = i.few_rows;
  few_cols = i.few_cols;
  cursor_row = i.cursor_row;
  cursor_col = cursor;
  saved_row = i.saved_row;
  saved_col = i.saved_col;
  region = i.region;
  region_end = i.region_end;
  region_lines = i.region_lines;
  kept = kept;
  shown = shown;
  fresh = fresh;
}

pub IsGrid-rows : (g : GridView) (rows : List RowView) → IsGrid g → length rows ≡ length g.rows
    → IsSheet g.height g.width rows → IsGrid (record g { rows = rows })
IsGrid-rows g rows i e sheet = IsGrid-parts g rows g.col g.kept i sheet i.cursor_col i.kept i.shown
    (λ z. let new = i.fresh (sym e ∙ z) in λ j. record (new j) { rows = no-rows rows z j })

pub IsGrid-with_row : (g : GridView) (r : ℕ) (v : RowView) → IsGrid g → r < length g.rows → IsRowOf g.width v
    → ((r + 1) ≡ g.height → v.wrapped ≡ false) → IsGrid (with_row g r v)
IsGrid-with_row g r v i h row last = IsGrid-rows g (set g.rows r v) i (length-set g.rows r v)
    (IsSheet-with_row g.height g.width g.rows r v i.sheet h row last)

-- ---- lines

pub region_rows : (g : GridView) → IsGrid g → IsAllocated g → g.bottom + 1 ≤ length g.rows
region_rows g i a = omega (arith, i.sheet.count a, i.region_end)

pub IsGrid-lines_opened : (g : GridView) (first n : ℕ) → IsGrid g → IsAllocated g → IsGrid (lines_opened g first n)
IsGrid-lines_opened g first n i a =
    let f = opened_line g.rows first (g.bottom + 1) (min n (g.bottom + 1 - first)) g.width in
    IsGrid-rows g (rows_by_position (length g.rows) f) i (length-rows_by_position (length g.rows) f)
    (IsSheet-opened_line g.height g.width g.rows first (g.bottom + 1) (min n (g.bottom + 1 - first)) i.sheet
    i.some_rows i.few_cols (region_rows g i a))

pub IsGrid-moved_up : (g : GridView) (first end n : ℕ) → IsGrid g → end ≤ length g.rows
    → IsGrid (with_rows g (moved_up g.rows first end n g.width))
IsGrid-moved_up g first end n i h =
    IsGrid-rows g (rows_by_position (length g.rows) (moved_up g.rows first end n g.width)) i
    (length-rows_by_position (length g.rows) (moved_up g.rows first end n g.width))
    (IsSheet-moved_up g.height g.width g.rows first end n i.sheet i.some_rows i.few_cols h)

pub IsGrid-lines_closed : (g : GridView) (first n : ℕ) → IsGrid g → IsAllocated g → IsGrid (lines_closed g first n)
IsGrid-lines_closed g first n i a =
    IsGrid-moved_up g first (g.bottom + 1) (min n (g.bottom + 1 - first)) i (region_rows g i a)

-- ---- rows that have scrolled off

pub IsGrid-scrolled : (g : GridView) (rows : List RowView) (k : KeptPart) → IsGrid g → IsAllocated g
    → length rows ≡ length g.rows → IsSheet g.height g.width rows → IsKept k → IsShownWide k g.height g.width
    → IsGrid (record g { rows = rows; kept = k })
IsGrid-scrolled g rows k i a e sheet kept shown =
    IsGrid-parts g rows g.col k i sheet i.cursor_col kept shown (λ z. absurd (omega arith))
