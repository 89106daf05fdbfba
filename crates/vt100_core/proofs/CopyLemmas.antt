-- Grids without kept rows.
use Rattle.std.proofs.Common.{◌≡◌, ◌∙◌, List, length, arith, sym, subst, refl}
use Rattle.std.proofs.lemmas.Bool.{false≢true}
use Rattle.vt100_rows.specs.Row.{RowView}
use Rattle.vt100_rows.specs.Sheet.{HaveSameWidths}
use Rattle.vt100_core.specs.Grid.{GridView, KeptPart, IsKept, IsGrid, IsAllocated, new_grid}
use Rattle.vt100_core.specs.declared.scrollback.Scrollback.TheVariants.{Disabled}
use Rattle.vt100_core.specs.Copy.{nothing_kept, without_kept}
use Rattle.vt100_core.proofs.GridLemmas.{IsGrid-at}

IsKept-nothing : IsKept nothing_kept
IsKept-nothing = record {
  each = λ j h. absurd (omega arith);
  fits = omega arith;
  counted = omega arith;
  offset = omega arith;
  none = λ e. absurd (false≢true (sym e));
  bounded = omega arith;
}

pub IsGrid-without_kept : (g : GridView) → IsGrid g → IsAllocated g → IsGrid (without_kept g)
IsGrid-without_kept g i some = record {
  sheet = i.sheet;
  some_rows = i.some_rows;
  some_cols = i.some_cols;
  few_rows = i.few_rows;
  few_cols = i.few_cols;
  cursor_row = i.cursor_row;
  cursor_col = i.cursor_col;
  saved_row = i.saved_row;
  saved_col = i.saved_col;
  region = i.region;
  region_end = i.region_end;
  region_lines = i.region_lines;
  kept = IsKept-nothing;
  shown = λ j from to inside. absurd (omega arith);
  fresh = λ none. absurd (omega arith);
}

-- the rows of two grids of one size
pub widths-same : (g h : GridView) → IsGrid g → IsGrid h → IsAllocated g → IsAllocated h → g.height ≡ h.height
    → g.width ≡ h.width → HaveSameWidths g.rows h.rows
widths-same g h i j some more tall wide =
    let count : length g.rows ≡ length h.rows = i.sheet.count some ∙ tall ∙ sym (j.sheet.count more) in
    record {
      count = count;
      widths = λ r l. (i.sheet.each r l).wide ∙ wide ∙ sym (j.sheet.each r (omega arith)).wide;
    }

pub widths-lent : {xs ys vs ws : List RowView} → xs ≡ vs → ys ≡ ws → HaveSameWidths vs ws → HaveSameWidths xs ys
widths-lent e f h = rw (e, f) h

-- rows and what is kept, as they are of a copy
pub copied-parts : (g : GridView) (rows : List RowView) (k : KeptPart) → rows ≡ g.rows → k ≡ nothing_kept
    → record g { rows = rows; kept = k } ≡ without_kept g
copied-parts g rows k e f = λ j. record g { rows = e j; kept = f j }

pub IsGrid-copied : (g s : GridView) (rows : List RowView) (k : KeptPart) → g ≡ s → IsGrid g → IsAllocated s
    → rows ≡ g.rows → k ≡ nothing_kept → IsGrid (record g { rows = rows; kept = k })
IsGrid-copied g s rows k same i some e f =
    IsGrid-at (IsGrid-without_kept g i (subst IsAllocated (sym same) some)) (copied-parts g rows k e f)

-- a sheet that has no rows yet, of the size of another one
pub IsGrid-new : (g : GridView) → IsGrid g → IsGrid (new_grid g.height g.width Disabled)
IsGrid-new g i = record {
  sheet = record { count = λ some. absurd (omega arith); each = λ r l. absurd (omega arith); last = refl };
  some_rows = i.some_rows;
  some_cols = i.some_cols;
  few_rows = i.few_rows;
  few_cols = i.few_cols;
  cursor_row = i.some_rows;
  cursor_col = omega arith;
  saved_row = i.some_rows;
  saved_col = omega arith;
  region = omega arith;
  region_end = omega (arith, i.some_rows);
  region_lines = λ e. omega (arith, e, i.some_rows);
  kept = record {
    each = λ j h. absurd (omega arith);
    fits = omega arith;
    counted = omega arith;
    offset = omega arith;
    none = λ e. (refl, refl);
    bounded = omega arith;
  };
  shown = λ j from to inside. absurd (omega arith);
  fresh = λ none. refl;
}
