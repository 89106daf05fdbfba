-- A grid as a picture.
use Rattle.std.specs.Prelude.{ℕ, ◌-◌, ◌≡◌, ◌==◌, ◌&&◌, Bool, false, nat_lt, List, All, Contains, if◌then◌else◌}
use Rattle.std.specs.Char.{IsScalar}
use Rattle.vt100_forms.specs.declared.attrs.Attrs.{Attrs}
use Rattle.vt100_forms.specs.declared.modes.CursorStyle.{CursorStyle}
use Rattle.vt100_forms.specs.Form.{Text}
use Rattle.vt100_cells.specs.Cell.{CellView, default_cell, columns_of}
use Rattle.vt100_cells.specs.Cells.{cell_at}
use Rattle.vt100_rows.specs.Row.{is_widening}
use Rattle.terminal_model.specs.Term.{Size, Modes, Term}
use Rattle.terminal_model.specs.Apply.{input, apply}
use Rattle.vt100_rows.specs.Picture.{lines_of, wraps_of}
use Rattle.vt100_core.specs.Grid.{GridView, IsGrid, IsAllocated, row_of_cursor, visible_at}
use Rattle.vt100_core.specs.Text.{printed, printed_all}

abbrev pub grid_size : GridView → Size
grid_size g = record { rows = g.height; cols = g.width }

-- what is shown at each row and column of the screen; a kept row may be wider than that
abbrev pub visible_lines : GridView → ℕ → ℕ → CellView
visible_lines g r k = if nat_lt r g.height && nat_lt k g.width then cell_at (visible_at g r).cells k else default_cell

abbrev pub visible_wraps : GridView → ℕ → Bool
visible_wraps g r = nat_lt r g.height && (visible_at g r).wrapped

-- what a terminal has besides its grid
pub record Extras : Type 0 where
  pub hidden : Bool
  pub attrs : Attrs
  pub saved_attrs : Attrs
  pub modes : Modes
  pub style : CursorStyle

-- the terminal that shows the rows that are drawn on
abbrev pub term_of_grid : GridView → Extras → Term
term_of_grid g x = record {
  cell = lines_of g.rows;
  wrapped = wraps_of g.rows;
  row = g.row;
  col = g.col;
  hidden = x.hidden;
  attrs = x.attrs;
  modes = x.modes;
  style = x.style;
  saved_row = g.saved_row;
  saved_col = g.saved_col;
  saved_attrs = x.saved_attrs;
}

-- a grid with its rows, of which all are the scroll region
pub record IsPlain (g : GridView) : Type 0 where
  pub grid : IsGrid g
  pub some : IsAllocated g
  pub top : g.top ≡ 0
  pub bottom : g.bottom ≡ g.height - 1

-- whether c, as U+FE0F, joins the cell left of the cursor and makes it wide
abbrev pub widens : GridView → ℕ → Bool
widens g c = (columns_of c == 0) && (nat_lt 0 g.col && is_widening (row_of_cursor g) g.col c)

-- a character that is printed on a grid is input to the terminal that shows its rows
abbrev pub EachPrintIsInput : Type 0
EachPrintIsInput = (g : GridView) (x : Extras) (c : ℕ) → IsPlain g → widens g c ≡ false
    → term_of_grid (printed g c x.attrs).grid x ≡ input (grid_size g) c (term_of_grid g x)

-- and so is a text without U+FE0F
abbrev pub EachTextIsInput : Type 0
EachTextIsInput = (g : GridView) (x : Extras) (cs : List ℕ) → IsPlain g → All IsScalar cs → (Contains cs 0xFE0F → ⊥)
    → term_of_grid (printed_all g cs x.attrs).grid x ≡ apply (grid_size g) (Text cs) (term_of_grid g x)
