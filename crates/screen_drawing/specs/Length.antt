-- How many bytes redraws and differences of screens can have.
use Rattle.std.specs.Prelude.{ℕ, ◌+◌, ◌*◌, ◌^◌, ◌<◌, ◌≤◌, List, length}
use Rattle.vt100_forms.specs.Form.{Form, bytes_of}
use Rattle.vt100_forms.specs.Attrs.{HasByteColors}
use Rattle.vt100_cells.specs.Cell.{IsCell}
use Rattle.terminal_model.specs.Term.{Size, Shown, IsShown}
use Rattle.screen_drawing.specs.Modes.{input_mode_formatted, input_mode_diff}
use Rattle.screen_drawing.specs.Screen.{grid_contents_formatted, grid_difference, contents_formatted, state_formatted}
use Rattle.screen_drawing.specs.Screen.{contents_diff, state_diff}

-- a screen whose numbers fit in the code's types
pub record IsSmallScreen (z : Size) (s : Shown) : Type 0 where
  pub shown : IsShown z s
  pub cells : (r k : ℕ) → IsCell (s.cell r k)
  pub rows : z.rows < 2 ^ 16
  pub cols : z.cols < 2 ^ 16
  pub colors : (r k : ℕ) → HasByteColors (s.cell r k).attrs
  pub attrs : HasByteColors s.attrs

-- at most 1,024 bytes for each cell, and `more` bytes
abbrev pub IsWithin : Size → ℕ → List Form → Type 0
IsWithin z more fs = length (bytes_of fs) ≤ 1024 * (z.rows * z.cols) + more

pub record AreShort (z : Size) (old new : Shown) : Type 0 where
  pub grid_formatted : IsWithin z 256 (grid_contents_formatted z new)
  pub grid_diff : IsWithin z 256 (grid_difference z old new).forms
  pub contents_formatted : IsWithin z 512 (contents_formatted z new)
  pub contents_diff : IsWithin z 512 (contents_diff z old new)
  pub state_formatted : IsWithin z 1008 (state_formatted z new)
  pub state_diff : IsWithin z 1008 (state_diff z old new)
  pub input_mode_formatted : length (bytes_of (input_mode_formatted new)) ≤ 128
  pub input_mode_diff : length (bytes_of (input_mode_diff old new)) ≤ 128

-- the forms for the new screen are short, whatever the old screen shows
abbrev pub EachIsShort : Type 0
EachIsShort = (z : Size) (old new : Shown) → HasByteColors old.attrs → IsSmallScreen z new → AreShort z old new
