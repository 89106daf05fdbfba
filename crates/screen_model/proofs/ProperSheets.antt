-- Whatever is done to a screen, its cells stay proper, if the current attributes are.
use Rattle.std.proofs.Common.{ℕ, List, [], ◌∷◌, All}
use Rattle.std.proofs.lemmas.List.Elements.{All-from_get_or}
use Rattle.vt100_forms.specs.declared.attrs.Attrs.{Attrs}
use Rattle.vt100_forms.specs.Attrs.{IsProper}
use Rattle.vt100_cells.specs.Cell.{default_cell}
use Rattle.vt100_cells.specs.Cells.{cell_at}
use Rattle.vt100_rows.specs.Row.{RowView, blank_row}
use Rattle.vt100_rows.specs.Sheet.{row_at}
use Rattle.vt100_core.specs.Grid.{GridView, new_grid, allocated}
use Rattle.vt100_core.specs.declared.scrollback.Scrollback.{Scrollback}
use Rattle.vt100_core.specs.Erase.{all_erased, all_erased_forward, all_erased_backward, row_erased, columns_erased}
use Rattle.vt100_core.specs.Erase.{cells_inserted, cells_deleted}
use Rattle.vt100_core.specs.Lines.{lines_inserted, lines_deleted, scrolled_down, fed_up}
use Rattle.vt100_core.specs.Scroll.{scrolled_up, fed, scrollback_shown}
use Rattle.vt100_core.specs.Resize.{resized}
use Rattle.vt100_core.specs.Text.{printed, printed_all}
use Rattle.screen_model.specs.State.{IsProperSheet}
use Rattle.screen_model.proofs.RowTraits.{IsClean, IsCleanRow, proper}
use Rattle.screen_model.proofs.SheetTraits.{IsCleanSheet, sheet-proper, sheet-all_erased, sheet-all_erased_forward}
use Rattle.screen_model.proofs.SheetTraits.{sheet-all_erased_backward, sheet-row_erased, sheet-columns_erased}
use Rattle.screen_model.proofs.SheetTraits.{sheet-cells_inserted, sheet-cells_deleted, sheet-lines_inserted}
use Rattle.screen_model.proofs.SheetTraits.{sheet-lines_deleted, sheet-scrolled_down, sheet-fed_up}
use Rattle.screen_model.proofs.SheetTraits.{sheet-scrolled_up, sheet-fed, sheet-scrollback_shown}
use Rattle.screen_model.proofs.SheetTraits.{sheet-printed, sheet-new, sheet-allocated}
use Rattle.screen_model.proofs.SheetTraits.{sheet-resized}

-- ---- by positions, and for all rows

rows-clean : (rows : List RowView) → ((r k : ℕ) → IsProper (cell_at (row_at rows r).cells k).attrs)
    → All (IsCleanRow proper) rows
rows-clean rows h = All-from_get_or (IsCleanRow proper) rows (blank_row 0) (λ r l. record {
  cells = All-from_get_or (IsClean proper) (row_at rows r).cells default_cell
      (λ k m. record { text = λ j d n. tt; attrs = h r k });
})

sheet-clean : (g : GridView) → IsProperSheet g → IsCleanSheet proper g
sheet-clean g h = record { drawn = rows-clean g.rows h.drawn; kept = rows-clean g.kept.rows h.kept }

stays : (g h : GridView) → (IsCleanSheet proper g → IsCleanSheet proper h) → IsProperSheet g → IsProperSheet h
stays g h f d = sheet-proper proper (λ a p. p) h (f (sheet-clean g d))

-- ---- erasing, and cells and lines that come in and go

pub proper_all_erased : (g : GridView) (a : Attrs) → IsProper a → IsProperSheet g → IsProperSheet (all_erased g a)
proper_all_erased g a p = stays g (all_erased g a) (sheet-all_erased proper g a p)

pub proper_all_erased_forward : (g : GridView) (a : Attrs) → IsProper a → IsProperSheet g
    → IsProperSheet (all_erased_forward g a)
proper_all_erased_forward g a p = stays g (all_erased_forward g a) (sheet-all_erased_forward proper g a p)

pub proper_all_erased_backward : (g : GridView) (a : Attrs) → IsProper a → IsProperSheet g
    → IsProperSheet (all_erased_backward g a)
proper_all_erased_backward g a p = stays g (all_erased_backward g a) (sheet-all_erased_backward proper g a p)

pub proper_row_erased : (g : GridView) (a : Attrs) → IsProper a → IsProperSheet g → IsProperSheet (row_erased g a)
proper_row_erased g a p = stays g (row_erased g a) (sheet-row_erased proper g a p)

pub proper_columns_erased : (g : GridView) (s e : ℕ) (a : Attrs) → IsProper a → IsProperSheet g
    → IsProperSheet (columns_erased g s e a)
proper_columns_erased g s e a p = stays g (columns_erased g s e a) (sheet-columns_erased proper g s e a p)

pub proper_cells_inserted : (g : GridView) (n : ℕ) → IsProperSheet g → IsProperSheet (cells_inserted g n)
proper_cells_inserted g n = stays g (cells_inserted g n) (sheet-cells_inserted proper g n)

pub proper_cells_deleted : (g : GridView) (n : ℕ) → IsProperSheet g → IsProperSheet (cells_deleted g n)
proper_cells_deleted g n = stays g (cells_deleted g n) (sheet-cells_deleted proper g n)

pub proper_lines_inserted : (g : GridView) (n : ℕ) → IsProperSheet g → IsProperSheet (lines_inserted g n)
proper_lines_inserted g n = stays g (lines_inserted g n) (sheet-lines_inserted proper g n)

pub proper_lines_deleted : (g : GridView) (n : ℕ) → IsProperSheet g → IsProperSheet (lines_deleted g n)
proper_lines_deleted g n = stays g (lines_deleted g n) (sheet-lines_deleted proper g n)

pub proper_scrolled_down : (g : GridView) (n : ℕ) → IsProperSheet g → IsProperSheet (scrolled_down g n)
proper_scrolled_down g n = stays g (scrolled_down g n) (sheet-scrolled_down proper g n)

pub proper_fed_up : (g : GridView) (n : ℕ) → IsProperSheet g → IsProperSheet (fed_up g n)
proper_fed_up g n = stays g (fed_up g n) (sheet-fed_up proper g n)

-- ---- scrolling, and printing

pub proper_scrolled_up : (g : GridView) (n : ℕ) → IsProperSheet g → IsProperSheet (scrolled_up g n).grid
proper_scrolled_up g n = stays g (scrolled_up g n).grid (sheet-scrolled_up proper g n)

pub proper_fed : (g : GridView) (n : ℕ) → IsProperSheet g → IsProperSheet (fed g n).grid
proper_fed g n = stays g (fed g n).grid (sheet-fed proper g n)

pub proper_scrollback_shown : (g : GridView) (n : ℕ) → IsProperSheet g → IsProperSheet (scrollback_shown g n)
proper_scrollback_shown g n = stays g (scrollback_shown g n) (sheet-scrollback_shown proper g n)

pub proper_printed : (g : GridView) (c : ℕ) (a : Attrs) → IsProper a → IsProperSheet g
    → IsProperSheet (printed g c a).grid
proper_printed g c a p = stays g (printed g c a).grid (sheet-printed proper g c a tt p)

pub proper_printed_all : (g : GridView) (cs : List ℕ) (a : Attrs) → IsProper a → IsProperSheet g
    → IsProperSheet (printed_all g cs a).grid
proper_printed_all g [] a p d = d
proper_printed_all g (c ∷ cs) a p d = proper_printed_all (printed g c a).grid cs a p (proper_printed g c a p d)

-- ---- whole sheets

pub proper_new : (height width : ℕ) (s : Scrollback) → IsProperSheet (new_grid height width s)
proper_new height width s = sheet-proper proper (λ a p. p) (new_grid height width s) (sheet-new proper height width s)

pub proper_allocated : (g : GridView) → IsProperSheet g → IsProperSheet (allocated g)
proper_allocated g = stays g (allocated g) (sheet-allocated proper g)

pub proper_resized : (g : GridView) (height width : ℕ) → IsProperSheet g → IsProperSheet (resized g height width).grid
proper_resized g height width = stays g (resized g height width).grid (sheet-resized proper g height width)
