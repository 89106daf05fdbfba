-- Writers of forms. A writer maps a pen to the forms that it appends and the pen after them.
use Rattle.std.specs.Prelude.{ℕ, ◌+◌, ◌-◌, Bool, true, ◌||◌, List, [], ◌∷◌, ◌++◌, Some, None}
use Rattle.vt100_forms.specs.declared.attrs.Attrs.{Attrs}
use Rattle.vt100_forms.specs.Form.{Form, Text, EraseChar, ClearRowForward, Backspace, moves, change}
use Rattle.vt100_cells.specs.Cell.{CellView}
use Rattle.vt100_cells.specs.Line.{span_of}
use Rattle.row_drawing.specs.declared.pen.Pen.{Pen}

-- the forms that are appended, and the pen after them
pub record Drawn : Type 0 where
  pub pen : Pen
  pub forms : List Form

abbrev pub Writer : Type 0
Writer = Pen → Drawn

-- one writer and then another
infixl 5 ◌>>◌
unfoldable pub ◌>>◌ : Writer → Writer → Writer
(f >> g) p = record { pen = (g (f p).pen).pen; forms = (f p).forms ++ (g (f p).pen).forms }

unfoldable pub skip : Writer
skip p = record { pen = p; forms = [] }

-- the cursor moves to a position
unfoldable pub goto : ℕ → ℕ → Writer
goto row col p = record {
  pen = record p { pos = record { row = row; col = col } };
  forms = moves p.pos (record { row = row; col = col });
}

-- the next character wraps to the start of this row: it doesn't fit at the cursor in the row above
unfoldable pub turn : ℕ → Writer
turn row p = record { pen = record p { pos = record { row = row; col = 0 } }; forms = [] }

-- the terminal gets these attributes
unfoldable pub color : Attrs → Writer
color a p = record { pen = record p { attrs = a }; forms = change p.attrs a }

-- the text of a cell is printed; `loses` says whether the terminal then loses the row's flag
unfoldable pub print : CellView → Bool → Writer
print x loses p = record {
  pen = record p { pos = record (p.pos) { col = p.pos.col + span_of x }; lost = p.lost || loses };
  forms = Text x.text ∷ [];
}

unfoldable pub space : Writer
space p = record { pen = record p { pos = record (p.pos) { col = p.pos.col + 1 } }; forms = Text (32 ∷ []) ∷ [] }

unfoldable pub back : Writer
back p = record { pen = record p { pos = record (p.pos) { col = p.pos.col - 1 } }; forms = Backspace ∷ [] }

-- n columns are erased, from the cursor on
unfoldable pub erasing : ℕ → Bool → Writer
erasing n loses p = record { pen = record p { erase = None; lost = p.lost || loses }; forms = EraseChar n ∷ [] }

-- the columns from the cursor to the end of the row are erased
unfoldable pub clearing : Writer
clearing p = record { pen = record p { erase = None; lost = true }; forms = ClearRowForward ∷ [] }

-- the columns from this one on become pending, to be erased with these attributes
unfoldable pub marking : ℕ → Attrs → Writer
marking from a p = record { pen = record p { erase = Some (record { from = from; attrs = a }) }; forms = [] }
