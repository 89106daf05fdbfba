-- Small screens, and the cells that their differences touch.
use Rattle.std.specs.Prelude.{ℕ, ◌≡◌, Bool, true, false, ◌||◌, List, [], ◌∷◌, ◌++◌, map, codes, if◌then◌else◌}
use Rattle.std.specs.List.{range_with_len}
use Rattle.vt100_forms.specs.Form.{Form}
use Rattle.vt100_cells.specs.Cell.{CellView}
use Rattle.terminal_model.specs.Term.{Size, Shown, Term, none_saved, term_of}
use Rattle.terminal_model.specs.Apply.{apply}
use Rattle.terminal_model.specs.Touch.{touches}
use Rattle.screen_drawing.specs.Screen.{state_diff}
use Rattle.screen_drawing.specs.Examples.{size, screen, plain_cells, wide, blank, wide_end, wide_covered, full_row}
use Rattle.screen_drawing.specs.Examples.{emptied_row, below_full}

-- whether one of the forms touches the cell, when the forms are read one after the other
abbrev pub any_touches : Size → List Form → Term → ℕ → ℕ → Bool
any_touches z [] t r k = false
any_touches z (f ∷ fs) t r k = touches z f t r k || any_touches z fs (apply z f t) r k

-- the screen row by row, with an `x` for each cell that the difference touches, and a `.` for each other one
abbrev pub touched : Size → Shown → Shown → List (List ℕ)
touched z old new =
    map (λ r. map (λ k. if any_touches z (state_diff z old new) (term_of old none_saved) r k then 120 else 46)
    (range_with_len 0 z.cols)) (range_with_len 0 z.rows)

-- one row of four columns
abbrev pub row : List CellView → Shown
row cells = screen (cells ∷ []) [] 0 0

-- two of them; the first wraps into the second one, or not; the second one shows an `x`
abbrev pub two_rows : List CellView → Bool → Shown
two_rows cells wrapped = screen (cells ∷ plain_cells (codes "x") ∷ []) (wrapped ∷ []) 1 0

pub record EachDifferenceTouches : Type 0 where
  -- nothing changes
  pub none : touched (size 2 4) (two_rows (plain_cells (codes "abcd")) true) (two_rows (plain_cells (codes "abcd"))
      true)
      ≡ codes "...." ∷ codes "...." ∷ []
  -- one cell changes
  pub middle : touched (size 1 4) (row (plain_cells (codes "abcd"))) (row (plain_cells (codes "abxd")))
      ≡ codes "..x." ∷ []
  -- the row's end is erased
  pub end : touched (size 1 4) (row (plain_cells (codes "abcd"))) (row (plain_cells (codes "a"))) ≡ codes ".xxx" ∷ []
  -- a wide character is erased, and a letter is printed over one of its halves
  pub over_first : touched (size 1 4) (row (plain_cells (codes "a") ++ wide ++ plain_cells (codes "d")))
      (row (plain_cells (codes "an") ++ blank ++ plain_cells (codes "d"))) ≡ codes ".xx." ∷ []
  pub over_second : touched (size 1 4) (row (plain_cells (codes "a") ++ wide ++ plain_cells (codes "d")))
      (row (plain_cells (codes "a") ++ blank ++ plain_cells (codes "nd"))) ≡ codes ".xx." ∷ []
  -- an empty column between two that are erased is erased with them
  pub between : touched (size 1 4) (row (plain_cells (codes "ab") ++ blank ++ plain_cells (codes "d")))
      (row (plain_cells (codes "a")))
      ≡ codes ".xxx" ∷ []
  -- the row begins to wrap, or no longer wraps: its last cell is printed once more
  pub wraps : touched (size 2 4) (two_rows (plain_cells (codes "abcd")) false) (two_rows (plain_cells (codes "abcd"))
      true)
      ≡ codes "...x" ∷ codes "x..." ∷ []
  pub ends : touched (size 2 4) (two_rows (plain_cells (codes "abcd")) true) (two_rows (plain_cells (codes "abcd"))
      false)
      ≡ codes "...x" ∷ codes "...." ∷ []
  -- the flag is lost and set again, by the first cell of the next row
  pub lost : touched (size 2 4) wide_end wide_covered ≡ codes "..xx" ∷ codes "x..." ∷ []
  -- the cursor moves past the last column of a full row
  pub waits : touched (size 2 2) (record full_row { col = 0 }) full_row ≡ codes ".x" ∷ codes ".." ∷ []
  -- and past that of the empty row under it, by way of the full one
  pub waits_below : touched (size 2 2) full_row below_full ≡ codes ".." ∷ codes ".." ∷ []
  pub comes_below : touched (size 2 2) (record below_full { col = 0 }) below_full ≡ codes ".x" ∷ codes ".." ∷ []
  -- and past that of an empty row without a full one above it
  pub waits_on_empty : touched (size 1 2) (record emptied_row { col = 0 }) emptied_row ≡ codes ".x" ∷ []
