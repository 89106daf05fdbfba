-- The rows that a page of a recording shows.
use Rattle.std.specs.Prelude.{◌≡◌, ◌⊎◌, ℕ, List, [], ◌∷◌, ◌++◌, map, take}
use Rattle.std.specs.List.{All, flat_map}
use Rattle.screen_model.specs.Made.{Act, made}
use Rattle.vt100_cells.specs.Cell.{CellView}
use Rattle.picture_page.specs.Page.{Adds, Shows}
use Rattle.row_pictures.specs.Text.{row_text}
use Rattle.recordings.specs.declared.recording.Event.{Event}
use Rattle.recorded_screen.specs.Moment.{act_of, acts_until}
use Rattle.recorded_screen.specs.Picture.{cells_shown}

-- what events do, in their order
abbrev pub acts_of : List Event → List Act
acts_of events = map (λ e. act_of e.change) events

-- the cells are a row of the screen of a new terminal of this size to which these acts were applied
pub record IsRowAfter (rows cols : ℕ) (acts : List Act) (cells : List CellView) : Type 0 where
  pub row : ℕ
  pub is : cells ≡ cells_shown (made rows cols 0 acts).shown row

-- the acts are those of the first events, or of the events up to a time
abbrev pub IsRowOf : ℕ → ℕ → List Event → List CellView → Type 0
IsRowOf rows cols events cells = ((n : ℕ) × IsRowAfter rows cols (acts_of (take n events)) cells)
    ⊎ ((time : ℕ) × IsRowAfter rows cols (acts_until time events) cells)

-- the texts of rows, each with a newline at its end
abbrev pub rows_text : List (List CellView) → List ℕ
rows_text rows = flat_map (λ cells. row_text cells ++ 10 ∷ []) rows

-- the new bytes are the old ones and then parts with rows of the recording as their text
pub record AddsRows (rows cols : ℕ) (events : List Event) (old new : List ℕ) : Type 0 where
  pub lines : List (List CellView)
  pub adds : Adds old new (rows_text lines)
  pub shown : All (IsRowOf rows cols events) lines

-- all text of the screen in these bytes is rows of the recording
pub record ShowsRows (rows cols : ℕ) (events : List Event) (bytes : List ℕ) : Type 0 where
  pub lines : List (List CellView)
  pub shows : Shows bytes (rows_text lines)
  pub shown : All (IsRowOf rows cols events) lines
