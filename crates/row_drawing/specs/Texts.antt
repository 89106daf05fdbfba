-- The texts among a row's forms.
use Rattle.std.specs.Prelude.{ℕ, ◌≡◌, ◌⊎◌, true, List, [], ◌∷◌}
use Rattle.std.specs.List.{AllByRecursion}
use Rattle.vt100_forms.specs.Form.{Form, Text, Keypad, CursorKeys, Paste, Mouse, Encoding, Style}
use Rattle.vt100_cells.specs.Cell.{CellView, has_text}

-- a form that sets no mode and no cursor style, and whose text, if it has one, fulfils P
abbrev pub IsDrawing : (List ℕ → Type 0) → Form → Type 0
IsDrawing P (Text cs) = P cs
IsDrawing P (Keypad b) = ⊥
IsDrawing P (CursorKeys b) = ⊥
IsDrawing P (Paste b) = ⊥
IsDrawing P (Mouse to from) = ⊥
IsDrawing P (Encoding to from) = ⊥
IsDrawing P (Style to from) = ⊥
IsDrawing P _ = Unit {0}

abbrev pub AllDrawing : (List ℕ → Type 0) → List Form → Type 0
AllDrawing P fs = AllByRecursion (IsDrawing P) fs

-- a space, or the text of a cell of the row
abbrev pub IsTextOf : (ℕ → CellView) → List ℕ → Type 0
IsTextOf f cs = (cs ≡ 32 ∷ []) ⊎ ((k : ℕ) × (has_text (f k) ≡ true) × (cs ≡ (f k).text))
