-- The texts among forms that draw.
use Rattle.std.proofs.Common.{ℕ, List}
use Rattle.vt100_forms.specs.Form.{Form, Text, MoveTo, MoveRight, EraseChar, ClearRowForward, ClearScreen, ClearAttrs}
use Rattle.vt100_forms.specs.Form.{Crlf, Lf, Backspace, SaveCursor, RestoreCursor, HideCursor, Keypad, CursorKeys}
use Rattle.vt100_forms.specs.Form.{Paste, Mouse, Encoding, Style, Sgr}
use Rattle.vt100_forms.specs.Form.{HasText}
use Rattle.terminal_model.specs.FormText.{AllTexts}
use Rattle.terminal_model.proofs.FormTexts.{all-each}
use Rattle.row_drawing.specs.Texts.{IsDrawing, AllDrawing}

pub drawing-text : (P : List ℕ → Type 0) (f : Form) → IsDrawing P f → HasText P f
drawing-text P (Text cs) h = h
drawing-text P (MoveTo r c) h = tt
drawing-text P (MoveRight n) h = tt
drawing-text P (EraseChar n) h = tt
drawing-text P ClearRowForward h = tt
drawing-text P ClearScreen h = tt
drawing-text P ClearAttrs h = tt
drawing-text P Crlf h = tt
drawing-text P Lf h = tt
drawing-text P Backspace h = tt
drawing-text P SaveCursor h = tt
drawing-text P RestoreCursor h = tt
drawing-text P (HideCursor b) h = tt
drawing-text P (Keypad b) h = tt
drawing-text P (CursorKeys b) h = tt
drawing-text P (Paste b) h = tt
drawing-text P (Mouse to from) h = tt
drawing-text P (Encoding to from) h = tt
drawing-text P (Style to from) h = tt
drawing-text P (Sgr c) h = tt

pub texts : (P : List ℕ → Type 0) (fs : List Form) → AllDrawing P fs → AllTexts P fs
texts P fs h = all-each (IsDrawing P) (HasText P) (drawing-text P) fs h
