-- Small screens, and the forms that are written for them.
use Rattle.std.specs.Prelude.{ℕ, ◌≡◌, Bool, true, false, List, [], ◌∷◌, ◌++◌, map, codes, slice_index_or, Some, None}
use Rattle.vt100_forms.specs.declared.attrs.Attrs.{Attrs}
use Rattle.vt100_forms.specs.declared.attrs.Color.TheVariants.{Default, Idx}
use Rattle.vt100_forms.specs.declared.modes.MouseProtocolMode.TheVariants as mouse
use Rattle.vt100_forms.specs.declared.modes.MouseProtocolEncoding.TheVariants as encoding
use Rattle.vt100_forms.specs.declared.modes.CursorStyle.TheVariants as style
use Rattle.vt100_forms.specs.Attrs.{default_attrs}
use Rattle.vt100_forms.specs.Form.{Form, Text, MoveTo, MoveRight, EraseChar, ClearRowForward, ClearScreen, ClearAttrs}
use Rattle.vt100_forms.specs.Form.{Lf, Backspace, SaveCursor, RestoreCursor, HideCursor, Keypad, CursorKeys, Paste}
use Rattle.vt100_forms.specs.Form.{Mouse, Encoding, Style, Sgr, no_change, bytes_of}
use Rattle.vt100_cells.specs.Cell.{CellView, default_cell, continuation_cell, cell_of}
use Rattle.vt100_cells.specs.Cells.{cell_at}
use Rattle.terminal_model.specs.Term.{Size, Shown, blank_shown, default_modes}
use Rattle.screen_drawing.specs.Cursor.{cursor_position_formatted}
use Rattle.screen_drawing.specs.Modes.{input_mode_diff, attributes_formatted}
use Rattle.screen_drawing.specs.Screen.{contents_formatted, state_formatted, contents_diff, state_diff}
use Rattle.screen_drawing.specs.Screen.{cursor_state_formatted}

-- ---- screens

abbrev pub size : ℕ → ℕ → Size
size rows cols = record { rows = rows; cols = cols }

-- the cells row by row, which rows wrap, and the cursor
abbrev pub screen : List (List CellView) → List Bool → ℕ → ℕ → Shown
screen rows flags row col = record blank_shown {
  cell = λ r. cell_at (slice_index_or rows r []);
  wrapped = λ r. slice_index_or flags r false;
  row = row;
  col = col;
}

abbrev pub colored : ℕ → Attrs
colored i = record { fgcolor = Idx i; bgcolor = Default; mode = 0 }

abbrev pub letters : Attrs → List ℕ → List CellView
letters a cs = map (λ c. cell_of c a) cs

abbrev pub plain_cells : List ℕ → List CellView
plain_cells = letters default_attrs

-- U+4E2D, which is wide, and its second half
abbrev pub wide : List CellView
wide = record { text = 0x4E2D ∷ []; wide = true; continuation = false; attrs = default_attrs } ∷ continuation_cell ∷ []

abbrev pub blank : List CellView
blank = default_cell ∷ []

-- ---- forms

abbrev pub text : List ℕ → List Form
text cs = map (λ c. Text (c ∷ [])) cs

-- the foreground's colour
abbrev pub dyed : ℕ → Form
dyed i = Sgr (record no_change { fgcolor = Some (Idx i) })

-- what a redraw begins with, if the cursor isn't hidden
abbrev pub start : List Form
start = HideCursor false ∷ ClearAttrs ∷ ClearScreen ∷ []

-- ---- pairs of screens

-- a word in red, and another one in green over it
abbrev pub red_word : Shown
red_word = screen ((plain_cells (codes "text is ") ++ letters (colored 1) (codes "RED")) ∷ []) [] 0 11

abbrev pub green_word : Shown
green_word = record (screen ((plain_cells (codes "text is ") ++ letters (colored 2) (codes "GREEN")) ∷ []) [] 0 13) {
  attrs = colored 2;
}

-- the first row wraps into the second one; its last cell changes, and one in the second row is erased
abbrev pub wrapped_row : Shown
wrapped_row = screen (plain_cells (codes "abcd") ∷ plain_cells (codes "xyz") ∷ []) (true ∷ []) 1 3

abbrev pub wrapped_changed : Shown
wrapped_changed = screen (plain_cells (codes "abce") ∷ (plain_cells (codes "x") ++ blank ++ plain_cells (codes "z"))
    ∷ []) (true ∷ []) 1 1

-- a letter over the second half of a wide character, which makes the terminal lose the row's flag
abbrev pub wide_end : Shown
wide_end = screen ((plain_cells (codes "ab") ++ wide) ∷ plain_cells (codes "x") ∷ []) (true ∷ []) 1 1

abbrev pub wide_covered : Shown
wide_covered = screen ((plain_cells (codes "ab") ++ blank ++ plain_cells (codes "d")) ∷ plain_cells (codes "x") ∷ [])
    (true ∷ []) 0 4

-- a wide character one column to the left, which does the same
abbrev pub wide_last : Shown
wide_last = screen ((plain_cells (codes "an") ++ wide) ∷ plain_cells (codes "y") ∷ []) (true ∷ []) 1 1

abbrev pub wide_moved : Shown
wide_moved = screen ((plain_cells (codes "a") ++ wide ++ plain_cells (codes "x")) ∷ plain_cells (codes "y") ∷ [])
    (true ∷ []) 1 1

-- the cursor is past the last column of a full row, and then of the empty row
abbrev pub full_row : Shown
full_row = screen (plain_cells (codes "ab") ∷ []) [] 0 2

abbrev pub emptied_row : Shown
emptied_row = screen [] [] 0 2

-- it is past the last column of an empty row under a full one
abbrev pub below_full : Shown
below_full = screen (plain_cells (codes "ab") ∷ []) [] 1 2

-- all modes
abbrev pub moded : Shown
moded = record (screen (letters (colored 9) (codes "A") ∷ []) [] 0 1) {
  attrs = colored 9;
  modes = record default_modes {
    keypad = true;
    cursor_keys = true;
    mouse = mouse.PressRelease;
    encoding = encoding.Sgr;
  };
  style = style.SteadyUnderline;
}

abbrev pub with_cursor_keys : Shown
with_cursor_keys = record blank_shown { modes = record default_modes { cursor_keys = true } }

pub record EachExampleIsWritten : Type 0 where
  -- a blank screen; all its forms but those of the mouse and the style have bytes
  pub blank_redrawn : state_formatted (size 2 4) blank_shown ≡ start ++ Keypad false ∷ CursorKeys false ∷ Paste false
      ∷ Mouse mouse.None mouse.None ∷ Encoding encoding.Default encoding.Default ∷ Style style.Default style.Default
      ∷ []
  pub blank_bytes : bytes_of (state_formatted (size 2 4) blank_shown) ≡ 27 ∷ codes "[?25h" ++ 27 ∷ codes "[m"
      ++ 27 ∷ codes "[H" ++ 27 ∷ codes "[J" ++ 27 ∷ codes ">" ++ 27 ∷ codes "[?1l" ++ 27 ∷ codes "[?2004l"
  pub blank_changed : bytes_of (state_diff (size 2 4) blank_shown blank_shown) ≡ []
  -- colours
  pub green_redrawn : contents_formatted (size 2 15) green_word ≡ start ++ text (codes "text is ")
      ++ dyed 2 ∷ text (codes "GREEN")
  pub green_changed : contents_diff (size 2 15) red_word green_word ≡ MoveTo 0 8 ∷ dyed 2 ∷ text (codes "GREEN")
  pub green_attributes : attributes_formatted green_word ≡ ClearAttrs ∷ dyed 2 ∷ []
  pub green_cursor : cursor_state_formatted (size 2 15) green_word ≡ HideCursor false ∷ MoveTo 0 13 ∷ []
  -- modes
  pub modes_changed : bytes_of (input_mode_diff blank_shown with_cursor_keys) ≡ 27 ∷ codes "[?1h"
  pub modes_all : state_formatted (size 1 3) moded ≡ start ++ dyed 9 ∷ text (codes "A") ++ Keypad true ∷ CursorKeys true
      ∷ Paste false ∷ Mouse mouse.PressRelease mouse.None ∷ Encoding encoding.Sgr encoding.Default
      ∷ Style style.SteadyUnderline style.Default ∷ []
  -- rows that wrap: the cursor is moved to the column that is erased
  pub wrapped_redrawn : contents_formatted (size 2 4) wrapped_row ≡ start ++ text (codes "abcdxyz")
  pub wrapped_diff : contents_diff (size 2 4) wrapped_row wrapped_changed ≡ MoveTo 0 3 ∷ text (codes "e") ++ MoveTo 1 1
      ∷ EraseChar 1 ∷ []
  -- the row's last cell and the next row's first one are printed once more, which sets the flag
  pub covered_diff : contents_diff (size 2 4) wide_end wide_covered ≡ MoveTo 0 2 ∷ EraseChar 1
      ∷ MoveRight 1 ∷ text (codes "d") ++ MoveTo 0 3 ∷ text (codes "dx") ++ Backspace ∷ MoveTo 0 3 ∷ text (codes "d")
  pub moved_diff : contents_diff (size 2 4) wide_last wide_moved ≡ MoveTo 0 1 ∷ Text (0x4E2D ∷ [])
      ∷ text (codes "x") ++ MoveTo 0 3 ∷ text (codes "xy") ++ Backspace ∷ MoveRight 1 ∷ []
  -- a cursor past the last column
  pub full_redrawn : contents_formatted (size 2 2) full_row ≡ start ++ text (codes "ab")
  pub emptied_diff : contents_diff (size 2 2) full_row emptied_row ≡ MoveTo 0 0 ∷ ClearRowForward ∷ MoveRight 1
      ∷ Text (32 ∷ []) ∷ SaveCursor ∷ Backspace ∷ EraseChar 1 ∷ RestoreCursor ∷ []
  pub below_redrawn : contents_formatted (size 2 2) below_full ≡ start ++ text (codes "ab") ++ Lf ∷ []
  pub below_cursor : cursor_position_formatted (size 2 2) below_full None default_attrs ≡ MoveTo 0 1 ∷ text (codes "b")
      ++ Lf ∷ []
