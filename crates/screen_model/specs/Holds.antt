-- What is true of every terminal after bytes and resizes.
use Rattle.std.specs.Prelude.{ℕ, ◌^◌, ◌<◌, ◌≡◌, List, [], ◌∷◌, All, Contains, false}
use Rattle.vt100_forms.specs.Attrs.{IsProper, HasByteColors}
use Rattle.vt100_cells.specs.Cell.{IsCell}
use Rattle.vt100_cells.specs.Cells.{cell_at}
use Rattle.vt100_core.specs.Grid.{visible_at}
use Rattle.screen_model.specs.State.{State, IsState, main_sheet}
use Rattle.screen_model.specs.Step.{resized_to, with_updating}
use Rattle.screen_model.specs.Made.{Act, Fed, Resized, made}

-- a number of rows, or of columns, that a screen can have
abbrev pub IsSide : ℕ → Type 0
IsSide n = (0 < n) × (n < 2 ^ 16)

abbrev pub IsAct : Act → Type 0
IsAct (Fed bytes) = Unit {0}
IsAct (Resized rows cols) = IsSide rows × IsSide cols

-- bytes and resizes of a terminal that had this size at first, and keeps at most `capacity` rows
pub record AreActs (rows cols capacity : ℕ) (acts : List Act) : Type 0 where
  pub height : IsSide rows
  pub width : IsSide cols
  pub few : capacity < 2 ^ 64
  pub each : All IsAct acts

-- the size that the last resize asked for, or else the first one
abbrev pub last_rows : ℕ → List Act → ℕ
last_rows rows [] = rows
last_rows rows (Fed bytes ∷ acts) = last_rows rows acts
last_rows rows (Resized height width ∷ acts) = last_rows height acts

abbrev pub last_cols : ℕ → List Act → ℕ
last_cols cols [] = cols
last_cols cols (Fed bytes ∷ acts) = last_cols cols acts
last_cols cols (Resized height width ∷ acts) = last_cols width acts

-- bytes and resizes make a valid state of a terminal
abbrev pub MakesStates : Type 0
MakesStates = (rows cols capacity : ℕ) (acts : List Act) → AreActs rows cols capacity acts
    → IsState (made rows cols capacity acts)

-- both the main and the alternate screen have the last size
pub record HasSize (s : State) (rows cols : ℕ) : Type 0 where
  pub height : s.shown.height ≡ rows
  pub width : s.shown.width ≡ cols
  pub other_height : s.other.height ≡ rows
  pub other_width : s.other.width ≡ cols

abbrev pub MakesLastSize : Type 0
MakesLastSize = (rows cols capacity : ℕ) (acts : List Act) → AreActs rows cols capacity acts
    → HasSize (made rows cols capacity acts) (last_rows rows acts) (last_cols cols acts)

-- the main screen's capacity for kept rows stays
abbrev pub MakesCapacity : Type 0
MakesCapacity = (rows cols capacity : ℕ) (acts : List Act) → AreActs rows cols capacity acts
    → (main_sheet (made rows cols capacity acts)).kept.capacity ≡ capacity

-- no kept row is shown, on either screen
pub record ShowsNoKeptRow (s : State) : Type 0 where
  pub shown : s.shown.kept.offset ≡ 0
  pub other : s.other.kept.offset ≡ 0

abbrev pub MakesNoOffset : Type 0
MakesNoOffset = (rows cols capacity : ℕ) (acts : List Act) → AreActs rows cols capacity acts
    → ShowsNoKeptRow (made rows cols capacity acts)

-- each cell that is shown has a cell's text, without U+FFFD
abbrev pub ShowsCells : State → Type 0
ShowsCells s = (r c : ℕ) → IsCell (cell_at (visible_at s.shown r).cells c)
    × (Contains (cell_at (visible_at s.shown r).cells c).text 0xFFFD → ⊥)

abbrev pub MakesCells : Type 0
MakesCells = (rows cols capacity : ℕ) (acts : List Act) → AreActs rows cols capacity acts
    → ShowsCells (made rows cols capacity acts)

-- each cell that is shown has proper attributes
abbrev pub ShowsProperCells : State → Type 0
ShowsProperCells s = (r c : ℕ) → IsProper (cell_at (visible_at s.shown r).cells c).attrs

abbrev pub MakesProperCells : Type 0
MakesProperCells = (rows cols capacity : ℕ) (acts : List Act) → AreActs rows cols capacity acts
    → ShowsProperCells (made rows cols capacity acts)

-- the colours of each cell that is shown, and the current ones, are numbered from 0 to 255
pub record ShowsByteColors (s : State) : Type 0 where
  pub cells : (r c : ℕ) → HasByteColors (cell_at (visible_at s.shown r).cells c).attrs
  pub drawn : HasByteColors s.attrs

abbrev pub MakesByteColors : Type 0
MakesByteColors = (rows cols capacity : ℕ) (acts : List Act) → AreActs rows cols capacity acts
    → ShowsByteColors (made rows cols capacity acts)

-- a resize to the terminal's own size only ends the program's synchronized update, and no row leaves
abbrev pub KeepsAtSameSize : Type 0
KeepsAtSameSize = (s : State) → IsState s
    → resized_to s.shown.height s.shown.width s ≡ record { state = with_updating false s; reports = [] }
