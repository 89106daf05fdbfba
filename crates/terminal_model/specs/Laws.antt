-- What is true of forms and terminals as wholes.
use Rattle.std.specs.Prelude.{ℕ, ◌≡◌, ◌<◌, ◌≤◌, false, List, [], ◌++◌, length, Contains}
use Rattle.vt100_forms.specs.declared.attrs.Attrs.{Attrs}
use Rattle.vt100_forms.specs.declared.position.Pos.{Pos}
use Rattle.vt100_forms.specs.Attrs.{IsProper}
use Rattle.vt100_forms.specs.Form.{Form, Text, form_bytes, change, moves}
use Rattle.vt100_cells.specs.Cell.{CellView, IsCell}
use Rattle.vt100_cells.specs.Line.{span_of}
use Rattle.terminal_model.specs.Term.{Size, Shown, Term, IsTerm, IsShown}
use Rattle.terminal_model.specs.Apply.{print, made_to_fit, apply, run}
use Rattle.terminal_model.specs.Touch.{touches}
use Rattle.terminal_model.specs.Leads.{Leads}

-- a form without bytes changes nothing
abbrev pub EachEmptyFormIsIdle : Type 0
EachEmptyFormIsIdle = (z : Size) (f : Form) (t : Term) → form_bytes f ≡ [] → apply z f t ≡ t

abbrev pub EachFormKeepsTerminals : Type 0
EachFormKeepsTerminals = (z : Size) (f : Form) (t : Term) → IsTerm z t → IsTerm z (apply z f t)

-- reading two joined lists of forms is reading the first and then the second
abbrev pub EachListJoins : Type 0
EachListJoins = (z : Size) (fs gs : List Form) (t : Term) → run z (fs ++ gs) t ≡ run z gs (run z fs t)

abbrev pub EachPathJoins : Type 0
EachPathJoins = (z : Size) (fs gs : List Form) (a b c : Shown) → IsShown z a → Leads z fs a b → Leads z gs b c
    → Leads z (fs ++ gs) a c

-- the cursor moves from p to q, and nothing else changes
abbrev pub EachMoveLeads : Type 0
EachMoveLeads = (z : Size) (t : Term) (p q : Pos) → t.row ≡ p.row → t.col ≡ p.col → q.row < z.rows → q.col < z.cols
    → run z (moves p q) t ≡ record t { row = q.row; col = q.col }

-- the terminal's attributes change from the old ones to the new ones, and nothing else changes
abbrev pub EachChangeIsRead : Type 0
EachChangeIsRead = (z : Size) (t : Term) (old new : Attrs) → t.attrs ≡ old → IsProper old → IsProper new
    → run z (change old new) t ≡ record t { attrs = new }

-- The text of a cell without U+FE0F, read with the cell's attributes, puts that cell at the cursor, or in the next row
-- if too few columns are left.
abbrev pub EachCellIsPrinted : Type 0
EachCellIsPrinted = (z : Size) (t : Term) (x : CellView) → IsTerm z t → IsCell x → 0 < length x.text
    → (Contains x.text 0xFE0F → ⊥) → x.attrs ≡ t.attrs → span_of x ≤ z.cols
    → apply z (Text x.text) t ≡ print z x (made_to_fit z (span_of x) t)

-- a form changes no cell but those that it touches
abbrev pub EachUntouchedCellStays : Type 0
EachUntouchedCellStays = (z : Size) (f : Form) (t : Term) (r k : ℕ) → r < z.rows → k < z.cols
    → touches z f t r k ≡ false → (apply z f t).cell r k ≡ t.cell r k
