-- What redraws and differences of whole screens make of a terminal.
use Rattle.std.specs.Prelude.{ℕ, ◌≡◌, List, ◌++◌, Contains, Option, Some, None}
use Rattle.std.specs.List.{AllByRecursion}
use Rattle.vt100_forms.specs.declared.attrs.Attrs.{Attrs}
use Rattle.vt100_forms.specs.declared.position.Pos.{Pos}
use Rattle.vt100_forms.specs.declared.modes.MouseProtocolMode.TheVariants as mouse
use Rattle.vt100_forms.specs.declared.modes.MouseProtocolEncoding.TheVariants as encoding
use Rattle.vt100_forms.specs.declared.modes.CursorStyle.TheVariants as style
use Rattle.vt100_forms.specs.declared.modes.CursorStyle.{CursorStyle}
use Rattle.vt100_forms.specs.Attrs.{IsProper, HasByteColors, default_attrs}
use Rattle.vt100_forms.specs.Form.{Form}
use Rattle.vt100_forms.specs.Mark.{HasPlainText, HasNoMark}
use Rattle.vt100_cells.specs.Cell.{IsCell}
use Rattle.terminal_model.specs.Term.{Size, Modes, Shown, Term, IsShown, blank_shown}
use Rattle.terminal_model.specs.Apply.{run}
use Rattle.terminal_model.specs.Leads.{Leads}
use Rattle.terminal_model.specs.FormText.{IsSentText, IsFormText, AllTexts, AreForms, AreSentForms}
use Rattle.row_drawing.specs.declared.pen.Pen.{Pen}
use Rattle.screen_drawing.specs.Rows.{rows_redraw, rows_difference}
use Rattle.screen_drawing.specs.Cursor.{cursor_position_formatted}
use Rattle.screen_drawing.specs.Modes.{input_mode_formatted, input_mode_diff, attributes_formatted}
use Rattle.screen_drawing.specs.Screen.{grid_redraw, grid_contents_formatted, grid_difference, contents_formatted}
use Rattle.screen_drawing.specs.Screen.{state_formatted, contents_diff, state_diff, cursor_state_formatted}
use Rattle.screen_drawing.specs.Screen.{contents_diffs, last_shown}
use Rattle.screen_drawing.specs.Length.{IsSmallScreen}

-- What can be drawn: a screen's cells, flags and cursor. No text has U+FE0F, which makes a cell wide in some terminals.
pub record IsDrawable (z : Size) (s : Shown) : Type 0 where
  pub shown : IsShown z s
  pub cells : (r k : ℕ) → IsCell (s.cell r k)
  pub plain : (r k : ℕ) → Contains (s.cell r k).text 0xFE0F → ⊥
  pub proper : (r k : ℕ) → IsProper (s.cell r k).attrs

-- the same, and proper attributes for the next character
pub record IsDrawableScreen (z : Size) (s : Shown) : Type 0 where
  pub drawable : IsDrawable z s
  pub attrs : IsProper s.attrs

-- ---- rows

-- the terminal with the cells and flags of s, and the pen's cursor and attributes
abbrev pub showing : Term → Shown → Pen → Term
showing t s p = record t {
  cell = s.cell;
  wrapped = s.wrapped;
  row = p.pos.row;
  col = p.pos.col;
  attrs = p.attrs;
}

-- the redraws of all rows, on a blank screen
abbrev pub EachRowsRedrawLeads : Type 0
EachRowsRedrawLeads = (z : Size) (t : Term) (s : Shown) (p : Pen) → IsDrawable z s → IsProper p.attrs → p.erase ≡ None
    → run z (rows_redraw z s z.rows p).forms (showing t blank_shown p) ≡ showing t s (rows_redraw z s z.rows p).pen

abbrev pub EachRowsDifferenceLeads : Type 0
EachRowsDifferenceLeads = (z : Size) (t : Term) (old new : Shown) (p : Pen) → IsShown z old → IsDrawable z new
    → IsProper p.attrs → p.erase ≡ None
    → run z (rows_difference z old new z.rows p).forms (showing t old p)
    ≡ showing t new (rows_difference z old new z.rows p).pen

-- ---- the cursor

-- the cursor is at p, if p is known
abbrev pub CursorIsAt : Option Pos → Shown → Type 0
CursorIsAt None s = Unit {0}
CursorIsAt (Some p) s = (s.row ≡ p.row) × (s.col ≡ p.col)

-- on a terminal with the cells and flags of s, the cursor moves to that of s, and nothing else changes
abbrev pub EachCursorIsPlaced : Type 0
EachCursorIsPlaced = (z : Size) (s from : Shown) (p : Option Pos) → IsDrawable z s → IsProper from.attrs
    → from.cell ≡ s.cell → from.wrapped ≡ s.wrapped → CursorIsAt p from
    → Leads z (cursor_position_formatted z s p from.attrs) from (record from { row = s.row; col = s.col })

abbrev pub EachCursorStateIsSet : Type 0
EachCursorStateIsSet = (z : Size) (s from : Shown) → IsDrawable z s → from.attrs ≡ default_attrs
    → from.cell ≡ s.cell → from.wrapped ≡ s.wrapped
    → Leads z (cursor_state_formatted z s) from (record from { row = s.row; col = s.col; hidden = s.hidden })

-- ---- modes and attributes

abbrev pub EachModeIsSet : Type 0
EachModeIsSet = (z : Size) (s from : Shown) → from.modes.mouse ≡ mouse.None
    → from.modes.encoding ≡ encoding.Default → from.style ≡ style.Default
    → Leads z (input_mode_formatted s) from (record from { modes = s.modes; style = s.style })

abbrev pub EachModeIsChanged : Type 0
EachModeIsChanged = (z : Size) (old new from : Shown) → from.modes ≡ old.modes → from.style ≡ old.style
    → Leads z (input_mode_diff old new) from (record from { modes = new.modes; style = new.style })

abbrev pub EachAttributeIsSet : Type 0
EachAttributeIsSet = (z : Size) (s from : Shown) → IsProper s.attrs
    → Leads z (attributes_formatted s) from (record from { attrs = s.attrs })

-- ---- grids

-- the cells, flags and cursor of s, and these attributes
abbrev pub with_grid_of : Shown → Attrs → Shown → Shown
with_grid_of s a from = record from {
  cell = s.cell;
  wrapped = s.wrapped;
  row = s.row;
  col = s.col;
  attrs = a;
}

abbrev pub EachGridRedrawLeads : Type 0
EachGridRedrawLeads = (z : Size) (s from : Shown) → IsDrawable z s
    → Leads z (grid_contents_formatted z s) from (with_grid_of s (grid_redraw z s).pen.attrs from)

abbrev pub EachGridDifferenceLeads : Type 0
EachGridDifferenceLeads = (z : Size) (old new : Shown) → IsShown z old → IsProper old.attrs → IsDrawable z new
    → Leads z (grid_difference z old new).forms old (with_grid_of new (grid_difference z old new).pen.attrs old)

-- ---- screens

abbrev pub with_modes : Modes → CursorStyle → Shown → Shown
with_modes m y s = record s { modes = m; style = y }

abbrev pub EachRedrawLeads : Type 0
EachRedrawLeads = (z : Size) (s from : Shown) → IsDrawableScreen z s
    → Leads z (contents_formatted z s) from (with_modes from.modes from.style s)

abbrev pub EachStateRedrawLeads : Type 0
EachStateRedrawLeads = (z : Size) (s from : Shown) → IsDrawableScreen z s → from.modes.mouse ≡ mouse.None
    → from.modes.encoding ≡ encoding.Default → from.style ≡ style.Default → Leads z (state_formatted z s) from s

-- the difference of two screens, whatever the modes and the cursor style are
abbrev pub EachDifferenceLeads : Type 0
EachDifferenceLeads = (z : Size) (old new : Shown) (m : Modes) (y : CursorStyle) → IsShown z old → IsProper old.attrs
    → IsDrawableScreen z new → Leads z (contents_diff z old new) (with_modes m y old) (with_modes m y new)

abbrev pub EachStateDifferenceLeads : Type 0
EachStateDifferenceLeads = (z : Size) (old new : Shown) → IsShown z old → IsProper old.attrs → IsDrawableScreen z new
    → Leads z (state_diff z old new) old new

-- a redraw and the difference of the modes, from any terminal that has the modes and the cursor style of the old screen
abbrev pub EachLaterRedrawLeads : Type 0
EachLaterRedrawLeads = (z : Size) (old new from : Shown) → IsDrawableScreen z new → from.modes ≡ old.modes
    → from.style ≡ old.style → Leads z (contents_formatted z new ++ input_mode_diff old new) from new

-- a redraw, and differences after it, take a terminal to the last of these screens
abbrev pub EachChainLeads : Type 0
EachChainLeads = (z : Size) (s from : Shown) (xs : List Shown) → IsDrawableScreen z s
    → AllByRecursion (IsDrawableScreen z) xs
    → Leads z (contents_formatted z s ++ contents_diffs z s xs) from
    (with_modes from.modes from.style (last_shown s xs))

-- ---- where U+FE0F is shown

-- modes and cursor style are right, even if U+FE0F is shown
pub record ModesAreSet (z : Size) (old new : Shown) (t : Term) : Type 0 where
  pub redrawn : t.modes.mouse ≡ mouse.None → t.modes.encoding ≡ encoding.Default → t.style ≡ style.Default
      → ((run z (state_formatted z new) t).modes ≡ new.modes) × ((run z (state_formatted z new) t).style ≡ new.style)
  pub changed : t.modes ≡ old.modes → t.style ≡ old.style
      → ((run z (state_diff z old new) t).modes ≡ new.modes) × ((run z (state_diff z old new) t).style ≡ new.style)
  pub contents_redrawn : ((run z (contents_formatted z new) t).modes ≡ t.modes)
      × ((run z (contents_formatted z new) t).style ≡ t.style)
  pub contents_changed : ((run z (contents_diff z old new) t).modes ≡ t.modes)
      × ((run z (contents_diff z old new) t).style ≡ t.style)
  pub cursor_set : ((run z (cursor_state_formatted z new) t).modes ≡ t.modes)
      × ((run z (cursor_state_formatted z new) t).style ≡ t.style)

abbrev pub EachModeComesOut : Type 0
EachModeComesOut = (z : Size) (old new : Shown) (t : Term) → ModesAreSet z old new t

-- ---- every list

-- Q is true of each list of forms that is written for these states. The list for the cursor may be written for any
-- attributes that fulfil A.
pub record IsTrueOfLists (Q : List Form → Type 0) (A : Attrs → Type 0) (z : Size) (old new : Shown) : Type 0 where
  pub state_formatted : Q (state_formatted z new)
  pub contents_formatted : Q (contents_formatted z new)
  pub state_diff : Q (state_diff z old new)
  pub contents_diff : Q (contents_diff z old new)
  pub cursor_state_formatted : Q (cursor_state_formatted z new)
  pub input_mode_formatted : Q (input_mode_formatted new)
  pub input_mode_diff : Q (input_mode_diff old new)
  pub attributes_formatted : Q (attributes_formatted new)
  pub grid_formatted : Q (grid_contents_formatted z new)
  pub grid_diff : Q (grid_difference z old new).forms
  pub cursor : (p : Option Pos) (a : Attrs) → A a → Q (cursor_position_formatted z new p a)

abbrev pub IsTrueOfEach : (List Form → Type 0) → Size → Shown → Shown → Type 0
IsTrueOfEach Q z old new = IsTrueOfLists Q (λ a. Unit {0}) z old new

-- no cell shows U+FFFD
pub record IsKnown (s : Shown) : Type 0 where
  pub cells : (r k : ℕ) → IsCell (s.cell r k)
  pub known : (r k : ℕ) → Contains (s.cell r k).text 0xFFFD → ⊥

-- the texts among the forms are those of cells, or spaces
abbrev pub EachTextIsSent : Type 0
EachTextIsSent = (z : Size) (old new : Shown) → IsKnown new → IsTrueOfEach (AllTexts IsSentText) z old new

-- the texts among the forms have no ESC
abbrev pub EachIsPlain : Type 0
EachIsPlain = (z : Size) (old new : Shown) → IsKnown new → IsTrueOfEach (AllByRecursion HasPlainText) z old new

-- the bytes hold no mark of a synchronized update (private mode 2026)
abbrev pub EachHasNoMark : Type 0
EachHasNoMark = (z : Size) (old new : Shown) → IsKnown new → IsTrueOfEach HasNoMark z old new

-- if no cell shows U+FE0F either, the texts among the forms don't have it
abbrev pub EachTextIsAForm : Type 0
EachTextIsAForm = (z : Size) (old new : Shown) → IsKnown new
    → ((r k : ℕ) → Contains (new.cell r k).text 0xFE0F → ⊥) → IsTrueOfEach (AllTexts IsFormText) z old new

-- If the numbers also fit in the code's types, each list consists of forms that writers send, whatever the old screen
-- shows. If no cell shows U+FE0F, they are forms that every reader takes alike.
abbrev pub EachListIsSent : Type 0
EachListIsSent = (z : Size) (old new : Shown) → HasByteColors old.attrs → IsSmallScreen z new → IsKnown new
    → IsTrueOfLists AreSentForms HasByteColors z old new

abbrev pub EachListIsOfForms : Type 0
EachListIsOfForms = (z : Size) (old new : Shown) → HasByteColors old.attrs → IsSmallScreen z new → IsKnown new
    → ((r k : ℕ) → Contains (new.cell r k).text 0xFE0F → ⊥) → IsTrueOfLists AreForms HasByteColors z old new
