-- Pictures and films in frames.
use Rattle.std.specs.Prelude.{◌≡◌, ◌≤◌, ◌<◌, ℕ, List, length}
use Rattle.row_pictures.specs.Frames.{FrameView, framed}
use Rattle.row_pictures.specs.declared.look.Look.{Look}
use Rattle.row_pictures.specs.declared.theme.Theme.{Theme}
use Rattle.recordings.specs.declared.recording.Event.{Event}
use Rattle.recordings.specs.declared.recording.ScreenSize.{ScreenSize}
use Rattle.recorded_screen.specs.Film.{IsFilmOf, count_until, most_cols, most_rows}
use Rattle.recorded_screen.specs.declared.films.Pace.{Pace}

-- these bytes are such a picture, of this many rows and columns, in its frame
pub record IsFramed (f : FrameView) (theme : Theme) (rows cols : ℕ) (IsPicture : List ℕ → Type 0) (bytes : List ℕ)
    : Type 0 where
  pub picture : List ℕ
  pub is : bytes ≡ framed f theme rows cols picture
  pub holds : IsPicture picture

-- in its frame the film of the events up to a time, or already that of fewer events, has more bytes than this
pub record IsFramedTooLong (f : FrameView) (most : ℕ) (look : Look) (size : ScreenSize) (pace : Pace) (moment : ℕ)
    (events : List Event) : Type 0 where
  pub count : ℕ
  pub within : count ≤ count_until moment events
  pub film : List ℕ
  pub is_film : IsFilmOf look size pace moment events count film
  pub long : most < length (framed f look.theme (most_rows moment size events) (most_cols moment size events) film)
