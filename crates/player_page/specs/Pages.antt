-- The page that plays a recording.
use Rattle.std.specs.Prelude.{◌≡◌, ◌<◌, ◌≤◌, ℕ, suc, List, [], ◌∷◌, ◌++◌, Some, length, slice_get, string_bytes}
use Rattle.std.specs.List.{All, flat_map}
use Rattle.picture_page.specs.Bytes.{numbers_bytes}
use Rattle.picture_page.specs.Page.{escaped}
use Rattle.picture_page.specs.Tags.{tag_bytes}
use Rattle.picture_page.specs.declared.tag.Tag.TheVariants as tag
use Rattle.row_pictures.specs.declared.look.Look.{Look}
use Rattle.screen_model.specs.Made.{made}
use Rattle.recordings.specs.declared.recording.Change.{Change}
use Rattle.recordings.specs.declared.recording.Change.TheVariants.{Marker, Output, Resize}
use Rattle.recordings.specs.declared.recording.Event.{Event}
use Rattle.recordings.specs.declared.recording.ScreenSize.{ScreenSize}
use Rattle.recorded_screen.specs.Film.{most_cols, most_rows, state_after}
use Rattle.recorded_screen.specs.Moment.{acts_until}
use Rattle.recorded_screen.specs.declared.moment.TheConstants.{END}
use Rattle.player_page.specs.Heads.{head_bytes, seconds_bytes}
use Rattle.player_page.specs.Lines.{Plays}
use Rattle.player_page.specs.Moments.{ArePainted, IsPainted}
use Rattle.player_page.specs.declared.page.Play.{Play}

-- ---- rows

-- a painted row as an element, on a line of its own
abbrev pub row_bytes : List ℕ → List ℕ
row_bytes row = tag_bytes tag.Line ++ (row ++ (tag_bytes tag.LineEnd ++ 10 ∷ []))

abbrev pub rows_bytes : List (List ℕ) → List ℕ
rows_bytes rows = flat_map row_bytes rows

-- these bytes are a row of one of the recording's screens
pub record IsRowOfSome (look : Look) (size : ScreenSize) (events : List Event) (bytes : List ℕ) : Type 0 where
  pub count : ℕ
  pub row : ℕ
  pub is : IsPainted look (state_after size events count) row bytes

-- rows of the recording's screens, no two of which are the same
pub record IsTable (look : Look) (size : ScreenSize) (events : List Event) (table : List (List ℕ)) : Type 0 where
  pub different : (i j : ℕ) (row : List ℕ) → slice_get table i ≡ Some row → slice_get table j ≡ Some row → i ≡ j
  pub painted : All (IsRowOfSome look size events) table

-- ---- markers

-- an event in the list of markers: its time in seconds, and its name
abbrev pub marker_bytes : ℕ → Change → List ℕ
marker_bytes time (Output bytes) = []
marker_bytes time (Resize size) = []
marker_bytes time (Marker name) =
    seconds_bytes tag.MarkerTime time
    ++ (tag_bytes tag.MarkerName ++ (escaped (string_bytes name) ++ tag_bytes tag.MarkerEnd))

abbrev pub controls_bytes : List Event → List ℕ
controls_bytes events = tag_bytes tag.PlayerControls ++ flat_map (λ e. marker_bytes e.time e.change) events

-- ---- the page

-- how many rows and columns the screen has at most
abbrev pub size_bytes : ScreenSize → List Event → List ℕ
size_bytes size events =
    numbers_bytes ((tag.PlayerRows, most_rows END size events) ∷ (tag.PlayerCols, most_cols END size events) ∷ [])

-- a table of rows, and the lines of moments
abbrev pub strip_bytes : List ℕ → List ℕ → List ℕ
strip_bytes rows lines =
    tag_bytes tag.PlayerTable
    ++ (rows ++ (tag_bytes tag.PlayerMoments ++ (lines ++ tag_bytes tag.PlayerScript)))

-- A page that plays the events: what comes first, the size, the rows at the poster's time, the markers, and the table
-- of rows with the lines that play the moments. Before the poster are the colours and the font.
pub record IsPlayer (look : Look) (size : ScreenSize) (events : List Event) (play : Play) (bytes : List ℕ) : Type 0 where
  pub front : List ℕ
  pub poster : List (List ℕ)
  pub table : List (List ℕ)
  pub lines : List ℕ
  pub is : bytes ≡ head_bytes look play
      ++ (size_bytes size events
      ++ (front ++ (rows_bytes poster ++ (controls_bytes events ++ strip_bytes (rows_bytes table) lines))))
  pub poster_is : ArePainted look (made size.rows.value size.cols.value 0 (acts_until play.poster events)) poster
  pub table_is : IsTable look size events table
  pub plays : Plays look size events (suc (length events)) table lines

-- ---- a page that is too long

-- The rows of some of the recording's screens alone, or the lines of its first moments, have more bytes than this.
pub data HasLongPart (most : ℕ) (look : Look) (size : ScreenSize) (events : List Event) : Type 0 where
  rows : (table : List (List ℕ)) → IsTable look size events table → most < length (rows_bytes table)
      → HasLongPart most look size events
  lines : (n : ℕ) (table : List (List ℕ)) (lines : List ℕ) → n ≤ suc (length events)
      → Plays look size events n table lines → most < length lines → HasLongPart most look size events

-- a part of the page, or the page, has more bytes than this
pub data IsTooLong (most : ℕ) (look : Look) (size : ScreenSize) (events : List Event) (play : Play) : Type 0 where
  part : HasLongPart most look size events → IsTooLong most look size events play
  page : (bytes : List ℕ) → IsPlayer look size events play bytes → most < length bytes
      → IsTooLong most look size events play
