-- Grids whose rows are all blank.
use Rattle.std.proofs.Common.{◌≡◌, ℕ, ◌-◌, List, length, replicate, refl, sym, ap, subst, ◌∙◌, arith}
use Rattle.std.proofs.lemmas.List.{length-replicate}
use Rattle.vt100_rows.specs.Row.{RowView, blank_row}
use Rattle.vt100_rows.specs.Sheet.{IsSheet}
use Rattle.vt100_rows.proofs.SheetLemmas.{IsSheet-blank}
use Rattle.vt100_core.specs.declared.scrollback.Scrollback.TheVariants.{Disabled}
use Rattle.vt100_core.specs.Grid.{GridView, IsGrid, new_grid, cleared}
use Rattle.vt100_core.proofs.GridLemmas.{IsGrid-parts, no-rows}

pub IsGrid-filled : (g : GridView) (rows : List RowView) → IsGrid g → rows ≡ replicate g.height (blank_row g.width)
    → IsGrid (record g { rows = rows })
IsGrid-filled g rows i e =
    let count = ap (λ (xs : List RowView). length xs) e ∙ length-replicate g.height (blank_row g.width) in
    IsGrid-parts g rows g.col g.kept i
    (subst (λ (xs : List RowView). IsSheet g.height g.width xs) (sym e)
    (IsSheet-blank g.height g.width g.height (λ _. refl) i.few_cols))
    i.cursor_col i.kept i.shown (λ z. absurd (omega (arith, count, i.some_rows)))

pub IsGrid-cleared : (g : GridView) → IsGrid g → IsGrid (cleared g)
IsGrid-cleared g i = record {
  sheet = IsSheet-blank g.height g.width (length g.rows) i.sheet.count i.few_cols;
  some_rows = i.some_rows;
  some_cols = i.some_cols;
  few_rows = i.few_rows;
  few_cols = i.few_cols;
  cursor_row = i.some_rows;
  cursor_col = omega arith;
  saved_row = i.some_rows;
  saved_col = omega arith;
  region = omega arith;
  region_end = omega (arith, i.some_rows);
  region_lines = λ e. omega (arith, i.some_rows);
  kept = i.kept;
  shown = i.shown;
  fresh = λ z.
      let new = i.fresh (sym (length-replicate (length g.rows) (blank_row g.width)) ∙ z) in
      λ j. record (new_grid g.height g.width Disabled) { rows = no-rows (cleared g).rows z j; kept = (new j).kept };
}

pub clears : (g s : GridView) (rows : List RowView) (bottom : ℕ) → g ≡ s
    → rows ≡ replicate (length g.rows) (blank_row g.width) → bottom ≡ g.height - 1
    → record (new_grid g.height g.width Disabled) { rows = rows; bottom = bottom; kept = g.kept } ≡ cleared s
clears g s rows bottom e er eb =
    (λ j. record (new_grid g.height g.width Disabled) { rows = er j; bottom = eb j; kept = g.kept })
    ∙ ap (λ (x : GridView). cleared x) e
