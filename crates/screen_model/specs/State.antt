-- The state of a terminal: the main and the alternate screen (its two sheets), and what they share.
use Rattle.std.specs.Prelude.{ℕ, ◌+◌, ◌≡◌, ◌==◌, Bool, true, false, not, ◌&&◌, List, Option, None, if◌then◌else◌}
use Rattle.vt100_forms.specs.Attrs.{default_attrs, IsProper}
use Rattle.vt100_forms.specs.declared.attrs.Attrs.{Attrs}
use Rattle.vt100_forms.specs.declared.modes.CursorStyle.{CursorStyle}
use Rattle.vt100_forms.specs.declared.modes.CursorStyle.TheVariants as style
use Rattle.vt100_cells.specs.Cells.{cell_at}
use Rattle.terminal_model.specs.Term.{Modes, default_modes}
use Rattle.vt100_rows.specs.Row.{RowView}
use Rattle.vt100_rows.specs.Sheet.{row_at}
use Rattle.vt100_core.specs.Grid.{GridView, IsGrid, IsAllocated, new_grid, allocated}
use Rattle.vt100_core.specs.declared.scrollback.Scrollback.TheVariants.{Disabled, Enabled}

pub record State : Type 0 where
  -- the sheet that is shown and drawn on, and the other one
  pub shown : GridView
  pub other : GridView
  -- whether the shown sheet is the alternate one
  pub alternate : Bool
  -- the current attributes, and those that were saved with a cursor
  pub attrs : Attrs
  pub saved_attrs : Attrs
  -- whether the cursor is hidden
  pub hidden : Bool
  pub modes : Modes
  -- whether the program is in a synchronized update of its own
  pub updating : Bool
  pub style : CursorStyle
  -- the last character that was drawn in a cell of its own, for REP
  pub last : Option ℕ

abbrev pub main_sheet : State → GridView
main_sheet s = if s.alternate then s.other else s.shown

abbrev pub alternate_sheet : State → GridView
alternate_sheet s = if s.alternate then s.shown else s.other

-- ---- at first

-- A blank main screen that keeps at most `capacity` rows, and an alternate one. The alternate one has no rows until
-- it is shown, and keeps none.
abbrev pub fresh_state : ℕ → ℕ → ℕ → State
fresh_state height width capacity = record {
  shown = allocated (new_grid height width (Enabled capacity));
  other = new_grid height width Disabled;
  alternate = false;
  attrs = default_attrs;
  saved_attrs = default_attrs;
  hidden = false;
  modes = default_modes;
  updating = false;
  style = style.Default;
  last = None;
}

-- ---- what is true of every state

-- the attributes of each cell are proper (SGR can set them), on the screen and in the kept rows
pub record HasProperCells (rows kept_rows : List RowView) : Type 0 where
  pub drawn : (r k : ℕ) → IsProper (cell_at (row_at rows r).cells k).attrs
  pub kept : (r k : ℕ) → IsProper (cell_at (row_at kept_rows r).cells k).attrs

abbrev pub IsProperSheet : GridView → Type 0
IsProperSheet g = HasProperCells g.rows g.kept.rows

pub record IsState (s : State) : Type 0 where
  pub shown : IsGrid s.shown
  pub other : IsGrid s.other
  -- the main screen always has rows; the alternate one has them once it is shown
  pub drawn : IsAllocated s.shown
  pub main_drawn : IsAllocated (main_sheet s)
  pub height : s.other.height ≡ s.shown.height
  pub width : s.other.width ≡ s.shown.width
  pub main_keeps : (main_sheet s).kept.keeps ≡ true
  pub alternate_keeps : (alternate_sheet s).kept.keeps ≡ false
  pub attrs : IsProper s.attrs
  pub saved_attrs : IsProper s.saved_attrs
  pub proper : IsProperSheet s.shown
  pub other_proper : IsProperSheet s.other

-- The main screen is shown, with no kept row, the whole screen as scroll region, and positions counted from its top. A
-- redraw is then read as it was meant.
abbrev pub is_plain : State → Bool
is_plain s =
    not s.alternate && ((s.shown.kept.offset == 0) && ((s.shown.top == 0) && (((s.shown.bottom + 1) == s.shown.height)
    && (not s.shown.origin && not s.shown.saved_origin))))
