-- How a screen's fields give what a contract sees of it.
use Rattle.std.specs.Prelude.{◌≡◌, true, false, not}
use Rattle.vt100_forms.specs.Attrs.{IsProper}
use Rattle.terminal_model.specs.Term.{Modes}
use Rattle.vt100_core.specs.Grid.{IsAllocated}
use Rattle.screen_model.specs.State.{IsProperSheet}
use Rattle.screen_model.specs.Call.{ScreenView}
use Rattle.vt100.specs.declared.screen.modes.Modes as declared
use Rattle.vt100.specs.declared.screen.Screen.TheInside.{Inside}

-- the modes that the code holds as one value
abbrev pub modes_inside : declared.Modes → Modes
modes_inside m = record {
  keypad = m.application_keypad;
  cursor_keys = m.application_cursor;
  paste = m.bracketed_paste;
  mouse = m.mouse_protocol_mode;
  encoding = m.mouse_protocol_encoding;
}

abbrev pub screen_inside : Inside → ScreenView
screen_inside s = record {
  state = record {
    shown = s.grid;
    other = s.other_grid;
    alternate = s.alternate_screen;
    attrs = s.attrs;
    saved_attrs = s.saved_attrs;
    hidden = s.hide_cursor;
    modes = modes_inside s.modes;
    updating = s.synchronized_update;
    style = s.cursor_style;
    last = s.last_char;
  };
  failed = s.failed;
}

-- the shown sheet has rows, and so has the main one; on a screen that hasn't failed both have one size; the main one
-- alone keeps rows; the attributes are such as a terminal's own calls make, and so are those of the cells, on a screen
-- that hasn't failed
pub record IsInside (s : Inside) : Type 0 where
  pub shown : IsAllocated s.grid
  pub main : s.alternate_screen ≡ true → IsAllocated s.other_grid
  pub height : s.failed ≡ false → s.other_grid.height ≡ s.grid.height
  pub width : s.failed ≡ false → s.other_grid.width ≡ s.grid.width
  pub shown_keeps : s.grid.kept.keeps ≡ not s.alternate_screen
  pub other_keeps : s.other_grid.kept.keeps ≡ s.alternate_screen
  pub attrs : IsProper s.attrs
  pub saved_attrs : IsProper s.saved_attrs
  pub proper : s.failed ≡ false → IsProperSheet s.grid
  pub other_proper : s.failed ≡ false → IsProperSheet s.other_grid
