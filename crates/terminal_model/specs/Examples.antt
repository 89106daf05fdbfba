-- Small screens, form by form.
use Rattle.std.specs.Prelude.{ℕ, ◌≡◌, true, false, List, [], ◌∷◌, ◌++◌, map, codes, Some}
use Rattle.std.specs.List.{range_with_len}
use Rattle.vt100_forms.specs.declared.attrs.Color.TheVariants.{Default, Idx}
use Rattle.vt100_forms.specs.declared.attrs.Attrs.{Attrs}
use Rattle.vt100_forms.specs.Form.{Form, Text, MoveTo, MoveRight, EraseChar, ClearScreen, ClearAttrs, SaveCursor}
use Rattle.vt100_forms.specs.Form.{RestoreCursor, Sgr, no_change}
use Rattle.vt100_cells.specs.Cell.{columns_of, is_undrawable, empty_cell, default_cell}
use Rattle.terminal_model.specs.Term.{Size, Term, blank_term}
use Rattle.terminal_model.specs.Apply.{run}

abbrev pub screen : ℕ → ℕ → Size
screen rows cols = record { rows = rows; cols = cols }

-- the characters of each column, row by row; an empty column has none
abbrev pub texts : Size → Term → List (List (List ℕ))
texts z t = map (λ r. map (λ k. (t.cell r k).text) (range_with_len 0 z.cols)) (range_with_len 0 z.rows)

-- one character in each column
abbrev pub each : List ℕ → List (List ℕ)
each cs = map (λ c. c ∷ []) cs

-- each of the characters as a text of its own
abbrev pub typed : List ℕ → List Form
typed cs = map (λ c. Text (c ∷ [])) cs

abbrev pub after : Size → List Form → Term
after z fs = run z fs blank_term

-- `abcdxyz` on 2 rows of 4 columns, and then `e` over the `d`, and the `y` erased
abbrev pub differed : Term
differed = after (screen 2 4) (typed (codes "abcdxyz") ++ MoveTo 0 3 ∷ typed (codes "e") ++ MoveTo 1 1 ∷ EraseChar 1
    ∷ [])

-- a red background
abbrev pub red : Attrs
red = record { fgcolor = Default; bgcolor = Idx 1; mode = 0 }

abbrev pub reddened : Form
reddened = Sgr (record no_change { bgcolor = Some (Idx 1) })

pub record EachExampleHolds : Type 0 where
  pub typed_texts : texts (screen 2 4) (after (screen 2 4) (typed (codes "abcdxyz"))) ≡ each (codes "abcd")
      ∷ (each (codes "xyz") ++ [] ∷ []) ∷ []
  pub differed_texts : texts (screen 2 4) differed ≡ each (codes "abce") ∷ ((120 ∷ []) ∷ [] ∷ (122 ∷ []) ∷ [] ∷ []) ∷ []
  pub differed_flag : differed.wrapped 0 ≡ true
  -- after a full row the cursor is past the last column; a move to the right ends in the last column, and a move by 0
  -- changes nothing
  pub waiting : (after (screen 1 2) (typed (codes "ab"))).col ≡ 2
  pub moved_right : (after (screen 1 2) (typed (codes "ab") ++ MoveRight 1 ∷ [])).col ≡ 1
  pub moved_by_none : (after (screen 1 2) (typed (codes "ab") ++ MoveRight 0 ∷ [])).col ≡ 2
  -- a fifth character on 2 rows of 2 columns
  pub scrolled_texts : texts (screen 2 2) (after (screen 2 2) (typed (codes "abcde"))) ≡ each (codes "cd")
      ∷ ((101 ∷ []) ∷ [] ∷ []) ∷ []
  pub scrolled_flags : map (after (screen 2 2) (typed (codes "abcde"))).wrapped (0 ∷ 1 ∷ []) ≡ true ∷ false ∷ []
  -- the screen is cleared with the current background colour, and nothing off it
  pub cleared : (after (screen 2 2) (reddened ∷ ClearScreen ∷ [])).cell 1 1 ≡ empty_cell red
  pub cleared_beyond : (after (screen 2 2) (reddened ∷ ClearScreen ∷ [])).cell 1 2 ≡ default_cell
  -- the saved cursor and attributes are restored
  pub restored : (after (screen 1 3) (reddened ∷ Text (97 ∷ []) ∷ SaveCursor ∷ MoveTo 0 0 ∷ ClearAttrs ∷ RestoreCursor
      ∷ [])).attrs ≡ red
  -- a wide character w, of which the second half is erased
  pub halved : (w : ℕ) → columns_of w ≡ 2 → is_undrawable w ≡ false
      → texts (screen 1 3) (after (screen 1 3) (Text (w ∷ []) ∷ MoveTo 0 1 ∷ EraseChar 1 ∷ [])) ≡ ([] ∷ [] ∷ [] ∷ [])
      ∷ []
  -- it doesn't fit in the last column, and the row that it leaves doesn't wrap
  pub wrapped_wide : (w : ℕ) → columns_of w ≡ 2 → is_undrawable w ≡ false
      → texts (screen 2 3) (after (screen 2 3) (typed (codes "ab") ++ Text (w ∷ []) ∷ []))
      ≡ (each (codes "ab") ++ [] ∷ []) ∷ ((w ∷ []) ∷ [] ∷ [] ∷ []) ∷ []
  pub wrapped_flag : (w : ℕ) → columns_of w ≡ 2 → is_undrawable w ≡ false
      → (after (screen 2 3) (typed (codes "ab") ++ Text (w ∷ []) ∷ [])).wrapped 0 ≡ false
  -- a zero-width character m is added to the letter before it, also if the cursor is past the last column
  pub joined : (m : ℕ) → columns_of m ≡ 0 → is_undrawable m ≡ false
      → texts (screen 1 2) (after (screen 1 2) (Text (97 ∷ []) ∷ Text (98 ∷ m ∷ []) ∷ []))
      ≡ ((97 ∷ []) ∷ (98 ∷ m ∷ []) ∷ []) ∷ []
