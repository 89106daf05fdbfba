-- What each control does to a state.
use Rattle.std.specs.Prelude.{ℕ, zero, suc, ◌+◌, ◌-◌, Bool, true, false, min, List, [], ◌++◌, map, Option, Some, None}
use Rattle.std.specs.Prelude.{if◌then◌else◌}
use Rattle.vt100_forms.specs.declared.modes.CursorStyle.{CursorStyle}
use Rattle.vt100_rows.specs.Row.{RowView}
use Rattle.vt100_core.specs.Grid.{GridView, allocated, cleared}
use Rattle.vt100_core.specs.Cursor.{cursor_at, with_origin, cursor_saved, cursor_restored, with_region, moved_rows_down}
use Rattle.vt100_core.specs.Cursor.{moved_rows_up, tab_stop}
use Rattle.vt100_core.specs.Erase.{all_erased, all_erased_forward, all_erased_backward, row_erased, columns_erased}
use Rattle.vt100_core.specs.Erase.{columns_to_cursor, cells_inserted, cells_deleted}
use Rattle.vt100_core.specs.Lines.{lines_inserted, lines_deleted, scrolled_down, fed_up}
use Rattle.vt100_core.specs.Scroll.{Scrolled, scrolled_up, fed, scrollback_erased, scrollback_shown}
use Rattle.vt100_core.specs.Resize.{resized}
use Rattle.vt100_core.specs.Text.{printed}
use Rattle.vt100_core.specs.declared.printed.Printed.{Printed}
use Rattle.vt100_core.specs.declared.printed.Printed.TheVariants.{Nothing, Spacing, Joined}
use Rattle.terminal_model.specs.Term.{Modes}
use Rattle.screen_model.specs.State.{State, main_sheet, alternate_sheet, fresh_state}

-- a row that has left the screen and isn't kept, and whether it left the alternate screen
pub record Report : Type 0 where
  pub row : RowView
  pub alternate : Bool

abbrev pub reports_of : Bool → List RowView → List Report
reports_of alternate rows = map (λ v. record { row = v; alternate = alternate }) rows

-- a state, and the rows that have left for good on the way to it, the oldest first
pub record Stepped : Type 0 where
  pub state : State
  pub reports : List Report

-- the same for a sequence that can have unknown parts, and how many of these there were
pub record Partly : Type 0 where
  pub state : State
  pub reports : List Report
  pub unhandled : ℕ

-- no row leaves
abbrev pub quietly : State → Stepped
quietly s = record { state = s; reports = [] }

-- the shown screen is replaced by this one
abbrev pub with_shown : State → GridView → State
with_shown s g = record s { shown = g }

-- the shown screen scrolls, and the rows that leave it for good are reported
abbrev pub with_scrolled : State → Scrolled → Stepped
with_scrolled s x = record { state = record s { shown = x.grid }; reports = reports_of s.alternate x.sunk }

-- ---- text

abbrev pub last_after : Printed → ℕ → Option ℕ → Option ℕ
last_after Nothing c last = last
last_after Spacing c last = Some c
last_after Joined c last = last

-- one character
abbrev pub typed : ℕ → State → Stepped
typed c s =
    let d = printed s.shown c s.attrs in
    record {
      state = record s { shown = d.grid; last = last_after d.printed c s.last };
      reports = reports_of s.alternate d.sunk;
    }

-- the same character n times
abbrev pub typed_times : ℕ → ℕ → State → Stepped
typed_times zero c s = quietly s
typed_times (suc n) c s =
    let t = typed_times n c s in
    let u = typed c t.state in
    record { state = u.state; reports = t.reports ++ u.reports }

-- the last drawn character n times, if there is one (REP)
abbrev pub repeated_last : Option ℕ → ℕ → State → Stepped
repeated_last None n s = quietly s
repeated_last (Some c) n s = typed_times n c s

abbrev pub repeated : ℕ → State → Stepped
repeated n s = repeated_last s.last n s

-- ---- the cursor

-- n columns to the left (BS, CUB), to the right (CUF), to the next tab stop (HT)
abbrev pub moved_left : ℕ → State → State
moved_left n s = with_shown s (record (s.shown) { col = s.shown.col - n })

abbrev pub moved_right : ℕ → State → State
moved_right n s = with_shown s (record (s.shown) { col = min (s.shown.col + n) (s.shown.width - 1) })

abbrev pub tabbed : State → State
tabbed s = with_shown s (record (s.shown) { col = tab_stop s.shown })

-- to a column (CR, CHA, HPA), to a row (VPA), both counted from 0
abbrev pub at_column : ℕ → State → State
at_column col s = with_shown s (record (s.shown) { col = min col (s.shown.width - 1) })

abbrev pub at_row : ℕ → State → State
at_row row s = with_shown s (record (s.shown) { row = min row (s.shown.height - 1) })

-- to a position (CUP, HVP)
abbrev pub at_place : ℕ → ℕ → State → State
at_place row col s = with_shown s (cursor_at s.shown row col)

-- n rows up (CUU) or down (CUD), and the same to the first column (CPL, CNL)
abbrev pub cursor_up : ℕ → State → State
cursor_up n s = with_shown s (moved_rows_up s.shown n)

abbrev pub cursor_down : ℕ → State → State
cursor_down n s = with_shown s (moved_rows_down s.shown n)

abbrev pub line_above : ℕ → State → State
line_above n s = cursor_up n (at_column 0 s)

abbrev pub line_below : ℕ → State → State
line_below n s = cursor_down n (at_column 0 s)

-- a row down, or up; the scroll region scrolls at its end (LF, RI)
abbrev pub line_fed : State → Stepped
line_fed s = with_scrolled s (fed s.shown 1)

abbrev pub line_fed_back : State → State
line_fed_back s = with_shown s (fed_up s.shown 1)

-- the scroll region, rows counted from 0 (DECSTBM)
abbrev pub in_region : ℕ → ℕ → State → State
in_region top bottom s = with_shown s (with_region s.shown top bottom)

-- the cursor, origin mode and the attributes are saved, and restored (DECSC, DECRC)
abbrev pub saved : State → State
saved s = record s { shown = cursor_saved s.shown; saved_attrs = s.attrs }

abbrev pub restored : State → State
restored s = record s { shown = cursor_restored s.shown; attrs = s.saved_attrs }

-- ---- erasing, and cells and lines that come in and go

-- ED 0, 1, 2
abbrev pub erased_below : State → State
erased_below s = with_shown s (all_erased_forward s.shown s.attrs)

abbrev pub erased_above : State → State
erased_above s = with_shown s (all_erased_backward s.shown s.attrs)

abbrev pub erased_all : State → State
erased_all s = with_shown s (all_erased s.shown s.attrs)

-- ED 3: the kept rows are removed, and reported
abbrev pub erased_kept : State → Stepped
erased_kept s = record {
  state = record s { shown = scrollback_erased s.shown };
  reports = reports_of s.alternate s.shown.kept.rows;
}

-- EL 0, 1, 2
abbrev pub erased_right : State → State
erased_right s = with_shown s (columns_erased s.shown s.shown.col s.shown.width s.attrs)

abbrev pub erased_left : State → State
erased_left s = with_shown s (columns_erased s.shown 0 (columns_to_cursor s.shown) s.attrs)

abbrev pub erased_row : State → State
erased_row s = with_shown s (row_erased s.shown s.attrs)

-- n cells are erased (ECH), inserted (ICH), deleted (DCH)
abbrev pub cells_erased : ℕ → State → State
cells_erased n s = with_shown s (columns_erased s.shown s.shown.col (min (s.shown.col + n) s.shown.width) s.attrs)

abbrev pub cells_added : ℕ → State → State
cells_added n s = with_shown s (cells_inserted s.shown n)

abbrev pub cells_taken : ℕ → State → State
cells_taken n s = with_shown s (cells_deleted s.shown n)

-- n lines are inserted (IL), deleted (DL); the scroll region scrolls up (SU) or down (SD)
abbrev pub lines_added : ℕ → State → State
lines_added n s = with_shown s (lines_inserted s.shown n)

abbrev pub lines_taken : ℕ → State → State
lines_taken n s = with_shown s (lines_deleted s.shown n)

abbrev pub region_up : ℕ → State → Stepped
region_up n s = with_scrolled s (scrolled_up s.shown n)

abbrev pub region_down : ℕ → State → State
region_down n s = with_shown s (scrolled_down s.shown n)

-- ---- modes

-- the input modes become these
abbrev pub with_modes : State → Modes → State
with_modes s m = record s { modes = m }

abbrev pub with_keypad : Bool → State → State
with_keypad b s = with_modes s (record (s.modes) { keypad = b })

abbrev pub with_cursor_keys : Bool → State → State
with_cursor_keys b s = with_modes s (record (s.modes) { cursor_keys = b })

abbrev pub with_paste : Bool → State → State
with_paste b s = with_modes s (record (s.modes) { paste = b })

abbrev pub with_hidden : Bool → State → State
with_hidden b s = record s { hidden = b }

-- a synchronized update of the program's own begins or ends
abbrev pub with_updating : Bool → State → State
with_updating b s = record s { updating = b }

abbrev pub with_style : CursorStyle → State → State
with_style x s = record s { style = x }

-- positions are counted from the top of the scroll region or of the screen, and the cursor moves to the first one
-- (DECOM)
abbrev pub with_origin_mode : Bool → State → State
with_origin_mode b s = with_shown s (with_origin s.shown b)

-- ---- the alternate sheet

-- the alternate screen is shown, with rows (mode 47 set); if it was shown already, its kept rows no longer are
abbrev pub alternate_shown : State → State
alternate_shown s =
    if s.alternate then with_shown s (scrollback_shown s.shown 0)
    else record s { shown = allocated s.other; other = scrollback_shown s.shown 0; alternate = true }

-- the main screen is shown (mode 47 reset)
abbrev pub main_shown : State → State
main_shown s = if s.alternate then record s { shown = s.other; other = s.shown; alternate = false } else s

abbrev pub alternate_cleared : State → State
alternate_cleared s = if s.alternate then with_shown s (cleared s.shown) else record s { other = cleared s.other }

-- mode 1049 set: as mode 47, but the cursor is saved, and the alternate screen is cleared. Reset: as mode 47, and the
-- cursor is restored.
abbrev pub alternate_entered : State → State
alternate_entered s = alternate_shown (alternate_cleared (saved s))

abbrev pub alternate_left : State → State
alternate_left s = restored (main_shown s)

-- ---- whole screens

-- all is as in a new terminal of this size and capacity (RIS)
abbrev pub made_anew : State → State
made_anew s = fresh_state (main_sheet s).height (main_sheet s).width (main_sheet s).kept.capacity

-- both screens get another size; the rows of the main one are reported first
abbrev pub sheets_resized : ℕ → ℕ → State → Stepped
sheets_resized height width s = record {
  state = record s { shown = (resized s.shown height width).grid; other = (resized s.other height width).grid };
  reports =
      reports_of false (resized (main_sheet s) height width).sunk
      ++ reports_of true (resized (alternate_sheet s) height width).sunk;
}

-- the same, and the program's update ends, even if the size stays
abbrev pub resized_to : ℕ → ℕ → State → Stepped
resized_to height width s = record {
  state = with_updating false (sheets_resized height width s).state;
  reports = (sheets_resized height width s).reports;
}

-- two calls of the screen's own: n of the kept rows are shown, and the kept rows are removed without a report
abbrev pub kept_shown : ℕ → State → State
kept_shown n s = with_shown s (scrollback_shown s.shown n)

abbrev pub kept_dropped : State → State
kept_dropped s = with_shown s (scrollback_erased s.shown)
