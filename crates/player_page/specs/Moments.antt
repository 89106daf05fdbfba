-- The moments of a recording, as they are painted.
use Rattle.std.specs.Prelude.{◌≡◌, ◌≢◌, ◌<◌, ℕ, suc, true, false, List, [], ◌∷◌, ◌++◌, get_or, length}
use Rattle.screen_model.specs.State.{State}
use Rattle.row_pictures.specs.Html.{IsHtmlRun}
use Rattle.row_pictures.specs.Runs.{AreRuns}
use Rattle.row_pictures.specs.declared.look.Look.{Look}
use Rattle.recordings.specs.declared.recording.Event.{Event}
use Rattle.recordings.specs.declared.recording.ScreenSize.{ScreenSize}
use Rattle.recorded_screen.specs.Film.{is_moment, reached, state_after}
use Rattle.recorded_screen.specs.Picture.{cells_shown, cursor_shown}

-- these bytes are a row of the screen in this state, with the cursor
abbrev pub IsPainted : Look → State → ℕ → List ℕ → Type 0
IsPainted look s r bytes = let cells = cells_shown s.shown r in
    AreRuns (IsHtmlRun look cells (cursor_shown look s r)) (length cells) bytes

-- all rows of the screen, from the top
pub record ArePainted (look : Look) (s : State) (rows : List (List ℕ)) : Type 0 where
  pub count : length rows ≡ s.shown.height
  pub painted : (r : ℕ) → r < length rows → IsPainted look s r (get_or rows r [])

-- from a time on the screen has these rows
pub record Moment : Type 0 where
  pub time : ℕ
  pub rows : List (List ℕ)

-- These are the moments of the screens after 0 events, 1, 2 and so on, fewer than n; the screen has the last rows then.
-- Events at the same time are one moment, and a screen that is painted as before is no moment of its own.
pub data AreMoments (look : Look) (size : ScreenSize) (events : List Event) : ℕ → List Moment → List (List ℕ) → Type 0 where
  none : AreMoments look size events 0 [] []
  passed : {n : ℕ} {moments : List Moment} {rows : List (List ℕ)} → is_moment events n ≡ false
      → AreMoments look size events n moments rows → AreMoments look size events (suc n) moments rows
  same : {n : ℕ} {moments : List Moment} {rows : List (List ℕ)} → is_moment events n ≡ true
      → AreMoments look size events n moments rows → ArePainted look (state_after size events n) rows
      → AreMoments look size events (suc n) moments rows
  next : {n : ℕ} {moments : List Moment} {rows : List (List ℕ)} (new : List (List ℕ)) → is_moment events n ≡ true
      → AreMoments look size events n moments rows → ArePainted look (state_after size events n) new → new ≢ rows
      → AreMoments look size events (suc n) (moments ++ record { time = reached events n; rows = new } ∷ []) new
