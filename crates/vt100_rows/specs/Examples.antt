-- Small rows, and the forms that are appended for them.
use Rattle.std.specs.Prelude.{ℕ, ◌≡◌, true, false, List, [], ◌∷◌, ◌++◌, map, codes, Some, None}
use Rattle.vt100_forms.specs.declared.attrs.Attrs.{Attrs}
use Rattle.vt100_forms.specs.declared.attrs.Color.TheVariants.{Default, Idx}
use Rattle.vt100_forms.specs.declared.position.Pos.{Pos}
use Rattle.vt100_forms.specs.Attrs.{default_attrs}
use Rattle.vt100_forms.specs.Form.{Form, Text, MoveTo, MoveRight, EraseChar, Backspace, Sgr, no_change}
use Rattle.vt100_cells.specs.Cell.{CellView, default_cell}
use Rattle.vt100_rows.specs.Row.{RowView, blank_row}
use Rattle.vt100_rows.specs.Forms.{formatted, differing}

abbrev pub letter : ℕ → Attrs → CellView
letter c a = record { text = c ∷ []; wide = false; continuation = false; attrs = a }

abbrev pub lettered : List ℕ → Attrs → RowView
lettered cs a = record { cells = map (λ c. letter c a) cs; wrapped = false }

abbrev pub text : List ℕ → List Form
text cs = map (λ c. Text (c ∷ [])) cs

abbrev pub place : ℕ → ℕ → Pos
place r c = record { row = r; col = c }

abbrev pub green : Attrs
green = record { fgcolor = Idx 2; bgcolor = Default; mode = 0 }

abbrev pub abc : RowView
abc = lettered (codes "abc") default_attrs

-- a row whose first column is empty
abbrev pub indented : RowView
indented = record { cells = default_cell ∷ letter 98 default_attrs ∷ []; wrapped = false }

pub record EachExampleIsWritten : Type 0 where
  -- the whole row, from its start on
  pub whole : (formatted abc 0 3 0 false None None).forms ≡ text (codes "abc")
  -- a part of it: the cursor is there already, and afterwards it is just past that part
  pub part : (formatted abc 1 1 5 false None None).forms ≡ text (codes "b")
  pub part_pos : (formatted abc 1 1 5 false None None).pen.pos ≡ place 5 2
  -- the same where the cursor is at the origin
  pub part_from : (formatted abc 1 1 5 false (Some (place 0 0)) None).forms ≡ MoveTo 5 1 ∷ text (codes "b")
  -- the row is shorter than the width, and than the start
  pub narrow : (formatted abc 2 80 0 false None None).forms ≡ text (codes "c")
  pub past : (formatted abc 3 80 0 false None None).forms ≡ []
  -- the row above goes on in this one, and the cursor waits at its end
  pub below : (formatted (lettered (codes "ab") default_attrs) 0 2 1 true None None).forms ≡ text (codes "ab")
  pub below_empty : (formatted indented 0 2 1 true None None).forms
      ≡ text (codes " ") ++ Backspace ∷ EraseChar 1 ∷ MoveRight 1 ∷ text (codes "b")
  -- the attributes are set where they change
  pub colored : (formatted (lettered (codes "a") green) 0 1 0 false None None).forms
      ≡ Sgr (record no_change { fgcolor = Some (Idx 2) }) ∷ text (codes "a")
  pub kept : (formatted (lettered (codes "a") green) 0 1 0 false None (Some green)).forms ≡ text (codes "a")
  -- a word is written over another one
  pub differs : (differing (lettered (codes "on") green) (lettered (codes "of") green) 0 2 0 false false (place 0 0)
      default_attrs).forms ≡ MoveRight 1 ∷ Sgr (record no_change { fgcolor = Some (Idx 2) }) ∷ text (codes "n")
  pub differs_attrs : (differing (lettered (codes "on") green) (lettered (codes "of") green) 0 2 0 false false
      (place 0 0) default_attrs).pen.attrs ≡ green
  -- rows of different lengths differ in the columns of both
  pub shorter : (differing abc (blank_row 2) 0 80 0 false false (place 0 0) default_attrs).forms ≡ text (codes "ab")
  pub shorter_past : (differing abc (blank_row 2) 2 80 0 false false (place 0 0) default_attrs).forms ≡ []
