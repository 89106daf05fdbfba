-- What a screen's calls write, and what a terminal makes of it.
use Rattle.std.specs.Prelude.{ℕ, ◌<◌, ◌≤◌, ◌≡◌, false, List, [], length, get_or, Contains, None}
use Rattle.vt100_forms.specs.Attrs.{default_attrs}
use Rattle.vt100_forms.specs.Form.{Form, bytes_of}
use Rattle.vt100_forms.specs.declared.modes.MouseProtocolMode.TheVariants as mouse
use Rattle.vt100_forms.specs.declared.modes.MouseProtocolEncoding.TheVariants as encoding
use Rattle.vt100_forms.specs.declared.modes.CursorStyle.TheVariants as style
use Rattle.vt100_forms.specs.declared.modes.CursorStyle.{CursorStyle}
use Rattle.vt100_cells.specs.Cell.{CellView, default_cell}
use Rattle.terminal_model.specs.Term.{Size, Modes, Shown, Term}
use Rattle.terminal_model.specs.Apply.{run}
use Rattle.terminal_model.specs.Leads.{Leads}
use Rattle.terminal_model.specs.FormText.{AreForms}
use Rattle.row_drawing.specs.declared.pen.Pen.{Pen}
use Rattle.vt100_rows.specs.Laws.{IsAtRow, IsRowDrawn}
use Rattle.screen_drawing.specs.Rows.{is_continued}
use Rattle.screen_drawing.specs.Laws.{IsDrawableScreen, with_modes}
use Rattle.screen_drawing.specs.Screen as picture
use Rattle.vt100_core.specs.Picture.{grid_size}
use Rattle.screen_model.specs.State.{State, IsState}
use Rattle.screen_model.specs.Shown.{shown_state}
use Rattle.vt100.specs.Writers.{contents_formatted, state_formatted, contents_diff, state_diff, cursor_state_formatted}
use Rattle.vt100.specs.Writers.{rows_formatted, rows_diff}

-- a state in which no kept row is shown
pub record IsUnscrolled (s : State) : Type 0 where
  pub state : IsState s
  pub offset : s.shown.kept.offset ≡ 0

-- ---- the forms are those of what is shown

pub record AreOfShown (s : State) : Type 0 where
  pub contents : contents_formatted s ≡ picture.contents_formatted (grid_size s.shown) (shown_state s)
  pub state : state_formatted s ≡ picture.state_formatted (grid_size s.shown) (shown_state s)
  pub cursor : cursor_state_formatted s ≡ picture.cursor_state_formatted (grid_size s.shown) (shown_state s)

abbrev pub EachRedrawIsOfShown : Type 0
EachRedrawIsOfShown = (s : State) → IsUnscrolled s → AreOfShown s

-- and of two screens of one size, of what both show
pub record DifferencesAreOfShown (old new : State) : Type 0 where
  pub contents : contents_diff old new
      ≡ picture.contents_diff (grid_size new.shown) (shown_state old) (shown_state new)
  pub state : state_diff old new ≡ picture.state_diff (grid_size new.shown) (shown_state old) (shown_state new)

abbrev pub EachDifferenceIsOfShown : Type 0
EachDifferenceIsOfShown = (old new : State) → IsUnscrolled old → IsUnscrolled new
    → grid_size old.shown ≡ grid_size new.shown → DifferencesAreOfShown old new

-- ---- what is shown can be drawn

-- no cell that is shown has U+FE0F
abbrev pub IsPlainlyShown : Shown → Type 0
IsPlainlyShown s = (r k : ℕ) → Contains (s.cell r k).text 0xFE0F → ⊥

abbrev pub EachScreenIsDrawable : Type 0
EachScreenIsDrawable = (s : State) → IsUnscrolled s → IsPlainlyShown (shown_state s)
    → IsDrawableScreen (grid_size s.shown) (shown_state s)

-- ---- a terminal that reads the forms shows what the screen shows

-- from any picture; the modes with them where the mouse and the cursor's style have their initial values; and the
-- cursor from the screen's own cells and flags
pub record RedrawsLead (s : State) (from : Shown) : Type 0 where
  pub contents : Leads (grid_size s.shown) (contents_formatted s) from
      (with_modes from.modes from.style (shown_state s))
  pub state : from.modes.mouse ≡ mouse.None → from.modes.encoding ≡ encoding.Default → from.style ≡ style.Default
      → Leads (grid_size s.shown) (state_formatted s) from (shown_state s)
  pub cursor : from.attrs ≡ default_attrs → from.cell ≡ (shown_state s).cell → from.wrapped ≡ (shown_state s).wrapped
      → Leads (grid_size s.shown) (cursor_state_formatted s) from
      (record from { row = s.shown.row; col = s.shown.col; hidden = s.hidden })

abbrev pub EachRedrawLeads : Type 0
EachRedrawLeads = (s : State) (from : Shown) → IsUnscrolled s → IsPlainlyShown (shown_state s) → RedrawsLead s from

-- from an earlier screen of the same size: its picture, whatever the modes are, and all that it shows
pub record DifferencesLead (old new : State) : Type 0 where
  pub contents : (m : Modes) (y : CursorStyle) → Leads (grid_size new.shown) (contents_diff old new)
      (with_modes m y (shown_state old)) (with_modes m y (shown_state new))
  pub state : Leads (grid_size new.shown) (state_diff old new) (shown_state old) (shown_state new)

abbrev pub EachDifferenceLeads : Type 0
EachDifferenceLeads = (old new : State) → IsUnscrolled old → IsUnscrolled new
    → grid_size old.shown ≡ grid_size new.shown → IsPlainlyShown (shown_state new) → DifferencesLead old new

-- ---- row by row

-- the same of the cells of one row
abbrev pub IsPlainLine : (ℕ → CellView) → Type 0
IsPlainLine f = (k : ℕ) → Contains (f k).text 0xFE0F → ⊥

-- no character of it is U+FFFD, which a terminal doesn't draw
abbrev pub IsKnownLine : (ℕ → CellView) → Type 0
IsKnownLine f = (k : ℕ) → Contains (f k).text 0xFFFD → ⊥

-- this text is that of forms by which a terminal t comes to show these cells in row i, and nothing else changes but
-- cursor, attributes and that row's flag
pub record DrawsRow (z : Size) (text : List ℕ) (cells : ℕ → CellView) (i : ℕ) (t : Term) : Type 0 where
  pub forms : List Form
  pub written : text ≡ bytes_of forms
  pub are_forms : IsKnownLine cells → AreForms forms
  pub pen : Pen
  pub drawn : IsRowDrawn i cells pen t (run z forms t)

-- text i of those for rows, or an empty text if there is no text i
abbrev pub text_at : List (List ℕ) → ℕ → List ℕ
text_at texts i = get_or texts i []

-- For whole rows there is one text for each row. If the row above doesn't go on in it, a terminal that has default
-- cells there, its cursor at the row's start and the default attributes then shows what the screen shows in the row.
pub record RowTextsLead (s : State) (width : ℕ) : Type 0 where
  pub count : length (rows_formatted s.shown 0 width) ≡ s.shown.height
  pub each : (i : ℕ) (t : Term) → i < s.shown.height → is_continued (shown_state s).wrapped i ≡ false
      → IsPlainLine ((shown_state s).cell i)
      → IsAtRow i (λ k. default_cell) false None None t
      → DrawsRow (grid_size s.shown) (text_at (rows_formatted s.shown 0 width) i) ((shown_state s).cell i) i t

abbrev pub EachRowTextLeads : Type 0
EachRowTextLeads = (s : State) (width : ℕ) → IsUnscrolled s → s.shown.width ≤ width → RowTextsLead s width

-- and of two screens of one size: from what the earlier one shows in the row, whatever the rows above are
pub record RowDifferencesLead (old new : State) (width : ℕ) : Type 0 where
  pub count : length (rows_diff old.shown new.shown 0 width) ≡ new.shown.height
  pub each : (i : ℕ) (t : Term) → i < new.shown.height
      → IsPlainLine ((shown_state new).cell i)
      → IsAtRow i ((shown_state old).cell i) ((shown_state old).wrapped i) None None t
      → DrawsRow (grid_size new.shown) (text_at (rows_diff old.shown new.shown 0 width) i) ((shown_state new).cell i) i
      t

abbrev pub EachRowDifferenceLeads : Type 0
EachRowDifferenceLeads = (old new : State) (width : ℕ) → IsUnscrolled old → IsUnscrolled new
    → grid_size old.shown ≡ grid_size new.shown → new.shown.width ≤ width → RowDifferencesLead old new width
