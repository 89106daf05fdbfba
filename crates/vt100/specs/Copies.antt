-- A screen of what another one shows, and whether two screens show the same.
use Rattle.std.specs.Prelude.{◌≡◌, ℕ, ◌+◌, ◌-◌, ◌==◌, ◌&&◌, Bool, true, false, nat_lt}
use Rattle.vt100_forms.specs.Attrs.{attrs_eq}
use Rattle.vt100_forms.specs.Form.{mouse_number, encoding_number, style_number}
use Rattle.vt100_forms.specs.declared.modes.MouseProtocolMode.TheVariants as mouse
use Rattle.vt100_forms.specs.declared.modes.MouseProtocolEncoding.TheVariants as encoding
use Rattle.vt100_forms.specs.declared.modes.CursorStyle.TheVariants as style
use Rattle.vt100_forms.specs.declared.modes.CursorStyle.{CursorStyle}
use Rattle.vt100_cells.specs.Cell.{bool_eq, is_filled}
use Rattle.vt100_cells.specs.Line.{cut}
use Rattle.terminal_model.specs.Term.{Size, Modes, Shown}
use Rattle.terminal_model.specs.Leads.{Leads}
use Rattle.screen_drawing.specs.Laws.{with_modes}
use Rattle.vt100_core.specs.Grid.{GridView, new_grid}
use Rattle.vt100_core.specs.Copy.{AreDrawnAlike, without_kept, visible_as_drawn}
use Rattle.vt100_core.specs.Picture.{grid_size}
use Rattle.vt100_core.specs.declared.scrollback.Scrollback.TheVariants.{Disabled}
use Rattle.screen_model.specs.State.{State, IsState}
use Rattle.screen_model.specs.Call.{ScreenView}
use Rattle.screen_model.specs.Shown.{shown_state}
use Rattle.vt100.specs.WriterLaws.{IsUnscrolled, IsPlainlyShown}
use Rattle.vt100.specs.Writers.{contents_formatted, state_formatted, contents_diff, state_diff}

-- this sheet as the main one, and an alternate one that has no rows yet
abbrev pub with_sheet : State → GridView → State
with_sheet s g = record s { shown = g; other = new_grid g.height g.width Disabled; alternate = false }

-- the shown sheet alone, without its kept rows
abbrev pub shown_alone : State → State
shown_alone s = with_sheet s (without_kept s.shown)

-- a screen in that state
abbrev pub copy_of : ScreenView → ScreenView
copy_of v = record v { state = shown_alone v.state }

-- the shown sheet alone, with the rows that are shown in place of those that are drawn on
abbrev pub visible_alone : State → State
visible_alone s = with_sheet s (visible_as_drawn s.shown)

-- a screen in that state
abbrev pub visible_copy_of : ScreenView → ScreenView
visible_copy_of v = record v { state = visible_alone v.state }

-- whether the modes of the keys, of pasting and of the mouse are the same
abbrev pub same_modes : Modes → Modes → Bool
same_modes m n =
    bool_eq m.keypad n.keypad && (bool_eq m.cursor_keys n.cursor_keys && (bool_eq m.paste n.paste
    && ((mouse_number m.mouse == mouse_number n.mouse) && (encoding_number m.encoding == encoding_number n.encoding))))

-- whether hiding and style of the cursor, modes and attributes are the same
abbrev pub same_extras : State → State → Bool
same_extras s t =
    bool_eq s.hidden t.hidden && ((style_number s.style == style_number t.style)
    && (same_modes s.modes t.modes && attrs_eq s.attrs t.attrs))

-- two screens have one size, the same rows that are drawn on, cursor, attributes, input modes and cursor style,
-- whatever kept rows they show
pub record DrawTheSame (s t : State) : Type 0 where
  pub drawn : AreDrawnAlike s.shown t.shown
  pub extras : same_extras s t ≡ true

-- two screens have one size and show the same
pub record ShowTheSame (s t : State) : Type 0 where
  pub size : grid_size s.shown ≡ grid_size t.shown
  pub shown : shown_state s ≡ shown_state t

-- where no kept row is shown, such a copy is a screen of the same size that shows the same
pub record IsCopy (s : State) : Type 0 where
  pub unscrolled : IsUnscrolled (shown_alone s)
  pub same : ShowTheSame (shown_alone s) s

abbrev pub EachCopyShowsTheSame : Type 0
EachCopyShowsTheSame = (s : State) → IsUnscrolled s → IsCopy s

-- ---- copies of what is shown, whether kept rows are shown or not

-- The picture as a terminal of this size can show it. A wide character that the right edge cuts is blank. A row goes on
-- in the next one only if there is one, and its last column shows something.
abbrev pub fitted : Size → Shown → Shown
fitted z s = record s {
  cell = λ r. cut z.cols (s.cell r);
  wrapped = λ r. s.wrapped r && (nat_lt (r + 1) z.rows && is_filled (cut z.cols (s.cell r) (z.cols - 1)));
}

-- no wide character is cut, each row that goes on shows something in its last column, and the last row doesn't go on
pub record IsFitting (z : Size) (s : Shown) : Type 0 where
  pub whole : (r : ℕ) → (s.cell r (z.cols - 1)).wide ≡ false
  pub filled : (r : ℕ) → s.wrapped r ≡ true → is_filled (s.cell r (z.cols - 1)) ≡ true
  pub last : s.wrapped (z.rows - 1) ≡ false

-- such a copy shows no kept row; it has the same size, and shows what is shown as a terminal can show it
pub record IsVisibleCopy (s : State) : Type 0 where
  pub unscrolled : IsUnscrolled (visible_alone s)
  pub size : grid_size (visible_alone s).shown ≡ grid_size s.shown
  pub shown : shown_state (visible_alone s) ≡ fitted (grid_size s.shown) (shown_state s)
  pub same : IsFitting (grid_size s.shown) (shown_state s) → shown_state (visible_alone s) ≡ shown_state s
  pub drawn : s.shown.kept.offset ≡ 0 → visible_alone s ≡ shown_alone s

abbrev pub EachVisibleCopyShowsTheSame : Type 0
EachVisibleCopyShowsTheSame = (s : State) → IsState s → IsVisibleCopy s

-- what its forms lead a terminal to, from any picture: what the screen shows, as a terminal can show it
pub record VisibleRedrawsLead (s : State) (from : Shown) : Type 0 where
  pub contents : Leads (grid_size s.shown) (contents_formatted (visible_alone s)) from
      (with_modes from.modes from.style (fitted (grid_size s.shown) (shown_state s)))
  pub state : from.modes.mouse ≡ mouse.None → from.modes.encoding ≡ encoding.Default → from.style ≡ style.Default
      → Leads (grid_size s.shown) (state_formatted (visible_alone s)) from (fitted (grid_size s.shown) (shown_state s))

abbrev pub EachVisibleRedrawLeads : Type 0
EachVisibleRedrawLeads =
    (s : State) (from : Shown) → IsState s → IsPlainlyShown (shown_state s) → VisibleRedrawsLead s from

-- and the differences of two of them of one size, from what the earlier screen shows
pub record VisibleDifferencesLead (old new : State) : Type 0 where
  pub contents : (m : Modes) (y : CursorStyle)
      → Leads (grid_size new.shown) (contents_diff (visible_alone old) (visible_alone new))
      (with_modes m y (fitted (grid_size old.shown) (shown_state old)))
      (with_modes m y (fitted (grid_size new.shown) (shown_state new)))
  pub state : Leads (grid_size new.shown) (state_diff (visible_alone old) (visible_alone new))
      (fitted (grid_size old.shown) (shown_state old)) (fitted (grid_size new.shown) (shown_state new))

abbrev pub EachVisibleDifferenceLeads : Type 0
EachVisibleDifferenceLeads = (old new : State) → IsState old → IsState new → grid_size old.shown ≡ grid_size new.shown
    → IsPlainlyShown (shown_state new) → VisibleDifferencesLead old new
