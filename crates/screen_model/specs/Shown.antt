-- What a terminal shows, and what the getters of a screen return.
use Rattle.std.specs.Prelude.{ℕ, ◌<◌, ◌≡◌, Bool, false, Option, Some, unwrap_or, Contains}
use Rattle.std.specs.Option.{option_map}
use Rattle.vt100_forms.specs.Attrs.{flags_of}
use Rattle.vt100_cells.specs.Cell.{CellView}
use Rattle.terminal_model.specs.Term.{Shown}
use Rattle.vt100_core.specs.Grid.{visible_row_at, cell_in}
use Rattle.vt100_core.specs.Picture.{Extras, visible_lines, visible_wraps}
use Rattle.screen_model.specs.State.{State, IsState}

-- what a terminal has besides its two screens: whether the cursor is hidden, attributes, modes and cursor style
abbrev pub extras_of : State → Extras
extras_of s = record {
  hidden = s.hidden;
  attrs = s.attrs;
  saved_attrs = s.saved_attrs;
  modes = s.modes;
  style = s.style;
}

-- the picture of the shown screen, the input modes and the cursor's style
abbrev pub shown_state : State → Shown
shown_state s = record {
  cell = visible_lines s.shown;
  wrapped = visible_wraps s.shown;
  row = s.shown.row;
  col = s.shown.col;
  hidden = s.hidden;
  attrs = s.attrs;
  modes = s.modes;
  style = s.style;
}

-- the cell that `Screen::cell` returns at a place, and the flag that `Screen::row_wrapped` returns
abbrev pub reported_cell : State → ℕ → ℕ → Option CellView
reported_cell s r c = cell_in (visible_row_at s.shown r) c

abbrev pub reported_wrap : State → ℕ → Bool
reported_wrap s r = unwrap_or (option_map (λ v. v.wrapped) (visible_row_at s.shown r)) false

-- at each place of the screen the getter returns the cell that is shown
abbrev pub EachCellIsReported : Type 0
EachCellIsReported = (s : State) → IsState s → (r c : ℕ) → r < s.shown.height → c < s.shown.width
    → reported_cell s r c ≡ Some ((shown_state s).cell r c)

abbrev pub EachWrapIsReported : Type 0
EachWrapIsReported = (s : State) → IsState s → (r : ℕ) → reported_wrap s r ≡ (shown_state s).wrapped r

-- a character is in the text of a cell that is shown
abbrev pub IsShownSomewhere : State → ℕ → Type 0
IsShownSomewhere s c = (row : ℕ) × (col : ℕ) × Contains ((shown_state s).cell row col).text c

-- a character is in the text of a cell that the getter returns for a place of the screen
pub record IsReportedSomewhere (s : State) (c : ℕ) : Type 0 where
  pub row : ℕ
  pub col : ℕ
  pub in_rows : row < s.shown.height
  pub in_cols : col < s.shown.width
  pub cell : CellView
  pub reported : reported_cell s row col ≡ Some cell
  pub state_after : Contains cell.text c

-- a character is shown somewhere exactly when a getter returns a cell with it
pub record IsReportedWhereShown (s : State) (c : ℕ) : Type 0 where
  pub reported : IsShownSomewhere s c → IsReportedSomewhere s c
  pub shown : IsReportedSomewhere s c → IsShownSomewhere s c

abbrev pub EachCharacterIsReported : Type 0
EachCharacterIsReported = (s : State) → IsState s → (c : ℕ) → IsReportedWhereShown s c

-- two screens of one size, for which all getters return the same
pub record AreReportedAlike (s t : State) : Type 0 where
  pub height : s.shown.height ≡ t.shown.height
  pub width : s.shown.width ≡ t.shown.width
  pub cells : (r c : ℕ) → r < s.shown.height → c < s.shown.width → reported_cell s r c ≡ reported_cell t r c
  pub wraps : (r : ℕ) → r < s.shown.height → reported_wrap s r ≡ reported_wrap t r
  pub row : s.shown.row ≡ t.shown.row
  pub col : s.shown.col ≡ t.shown.col
  pub hidden : s.hidden ≡ t.hidden
  pub fgcolor : s.attrs.fgcolor ≡ t.attrs.fgcolor
  pub bgcolor : s.attrs.bgcolor ≡ t.attrs.bgcolor
  -- bold, dim, italic, underlined and inverse
  pub flags : flags_of s.attrs ≡ flags_of t.attrs
  pub modes : s.modes ≡ t.modes
  pub style : s.style ≡ t.style

-- screens for which all getters return the same show the same
abbrev pub AlikeShowTheSame : Type 0
AlikeShowTheSame = (s t : State) → IsState s → IsState t → AreReportedAlike s t → shown_state s ≡ shown_state t
