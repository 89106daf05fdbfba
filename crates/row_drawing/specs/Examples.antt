-- Small rows, and the forms that are written for them.
use Rattle.std.specs.Prelude.{ℕ, ◌≡◌, true, false, List, [], ◌∷◌, ◌++◌, map, codes, Some, None}
use Rattle.vt100_forms.specs.declared.attrs.Color.TheVariants.{Default, Idx}
use Rattle.vt100_forms.specs.Attrs.{default_attrs}
use Rattle.vt100_forms.specs.Form.{Form, Text, MoveTo, MoveRight, EraseChar, ClearRowForward, ClearAttrs, Backspace}
use Rattle.vt100_forms.specs.Form.{Sgr, no_change}
use Rattle.vt100_cells.specs.Cell.{CellView, empty_cell, default_cell, continuation_cell, cell_of}
use Rattle.vt100_cells.specs.Cells.{cell_at}
use Rattle.row_drawing.specs.declared.pen.Pen.{Pen}
use Rattle.row_drawing.specs.RowWriter.{RowChange, row_redraw, row_difference}

abbrev pub letters : List ℕ → List CellView
letters cs = map (λ c. cell_of c default_attrs) cs

abbrev pub at_start : ℕ → ℕ → Pen
at_start r c = record { pos = record { row = r; col = c }; attrs = default_attrs; erase = None; lost = false }

-- row 1 of a screen
abbrev pub row_job : ℕ → List CellView → List CellView → RowChange
row_job cols old new = record {
  cols = cols;
  row = 1;
  start = 0;
  old = cell_at old;
  new = cell_at new;
  wrapped = false;
  was_wrapped = false;
  above = false;
  was_above = false;
}

abbrev pub blank : CellView
blank = default_cell

-- a space with a red background, erased
abbrev pub red : CellView
red = empty_cell (record { fgcolor = Default; bgcolor = Idx 1; mode = 0 })

-- 中, which takes two columns
abbrev pub wide : List CellView
wide = record { text = 0x4E2D ∷ []; wide = true; continuation = false; attrs = default_attrs } ∷ continuation_cell ∷ []

abbrev pub text : List ℕ → List Form
text cs = map (λ c. Text (c ∷ [])) cs

abbrev pub reddened : Form
reddened = Sgr (record no_change { bgcolor = Some (Idx 1) })

-- a row of four columns that wraps, as the earlier one did
abbrev pub goes_on : List CellView → List CellView → RowChange
goes_on old new = record (row_job 4 old new) { wrapped = true; was_wrapped = true }

-- a row whose cells stay
abbrev pub kept : RowChange
kept = row_job 3 (letters (codes "abc")) (letters (codes "abc"))

pub record EachExampleIsWritten : Type 0 where
  -- the `y` of `xyz` is erased
  pub middle : (row_difference (row_job 4 (letters (codes "xyz")) (letters (codes "x") ++ blank ∷ letters (codes "z")))
      4 (at_start 0 4)).forms ≡ MoveTo 1 1 ∷ EraseChar 1 ∷ []
  -- the end of the row is erased
  pub end : (row_difference (row_job 4 (letters (codes "xyz")) (letters (codes "x"))) 4 (at_start 1 0)).forms
      ≡ MoveRight 1 ∷ ClearRowForward ∷ []
  -- a row is drawn that has two red columns before its end
  pub drawn : (row_redraw (row_job 4 [] (letters (codes "a") ++ red ∷ red ∷ letters (codes "b"))) 4
      (at_start 1 0)).forms ≡ text (codes "a") ++ reddened ∷ EraseChar 2 ∷ MoveRight 2 ∷ ClearAttrs ∷ text (codes "b")
  -- the row above wraps into this one, which stays; the cursor is past the last column of the row above
  pub flagged : (row_difference (record kept { above = true }) 3 (at_start 0 3)).forms ≡ text (codes "a") ++ Backspace
      ∷ []
  -- the same, if this row begins with an empty column
  pub flagged_empty : (row_difference (record (row_job 4 [] []) { above = true }) 4 (at_start 0 4)).forms
      ≡ text (codes " ") ++ Backspace ∷ EraseChar 1 ∷ []
  -- the same, if the first column becomes empty
  pub flagged_erased : (row_difference (record (row_job 2 (letters (codes "ab")) (blank ∷ letters (codes "b"))) {
    above = true;
  }) 2 (at_start 0 2)).forms ≡ text (codes " ") ++ Backspace ∷ EraseChar 1 ∷ []
  -- this row begins to wrap into the next one
  pub wraps : (row_difference (record kept { wrapped = true }) 3 (at_start 1 0)).forms ≡ MoveRight 2
      ∷ text (codes "c")
  -- it no longer wraps
  pub ends : (row_difference (record kept { was_wrapped = true }) 3 (at_start 1 0)).forms ≡ MoveRight 2 ∷ EraseChar 1
      ∷ text (codes "c")
  -- the wide character is erased, and with it the flag: the last cell is printed once more
  pub lost_by_erase : (row_difference (goes_on (letters (codes "ab") ++ wide)
      (letters (codes "ab") ++ blank ∷ letters (codes "d"))) 4 (at_start 2 1)).forms
      ≡ MoveTo 1 2 ∷ EraseChar 1 ∷ MoveRight 1 ∷ text (codes "d") ++ MoveTo 1 3 ∷ text (codes "d")
  -- the same, if another one is printed over its first half
  pub lost_by_print : (row_difference (goes_on (letters (codes "an") ++ wide)
      (letters (codes "a") ++ wide ++ letters (codes "x"))) 4 (at_start 2 1)).forms
      ≡ MoveTo 1 1 ∷ text (0x4E2D ∷ codes "x") ++ MoveTo 1 3 ∷ text (codes "x")
