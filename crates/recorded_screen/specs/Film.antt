-- Which screens of a recording a film shows, and when.
use Rattle.std.specs.Prelude.{◌≡◌, ℕ, zero, suc, ◌+◌, ◌-◌, ◌*◌, ◌/◌, ◌≤◌, ◌<◌, ◌==◌, not, max, min, Bool, true, false}
use Rattle.std.specs.Prelude.{List, [], ◌∷◌, Option, Some, length, map, nat_le, slice_get, take, if◌then◌else◌}
use Rattle.std.specs.List.{prefix_len}
use Rattle.std.specs.Option.{option_map, option_map_or}
use Rattle.row_pictures.specs.declared.look.Look.{Look}
use Rattle.screen_model.specs.Made.{made}
use Rattle.screen_model.specs.State.{State}
use Rattle.recordings.specs.declared.recording.Change.{Change}
use Rattle.recordings.specs.declared.recording.Change.TheVariants.{Marker, Output, Resize}
use Rattle.recordings.specs.declared.recording.Event.{Event}
use Rattle.recordings.specs.declared.recording.ScreenSize.{ScreenSize}
use Rattle.recorded_screen.specs.Moment.{act_of}
use Rattle.recorded_screen.specs.Placed.{IsSvgRow}
use Rattle.recorded_screen.specs.Reel.{Track, film_bytes, in_64_bits, showing, track_at}
use Rattle.recorded_screen.specs.Shots.{AreDifferent, IsAt, IsLonger, IsShown, IsTrack, IsUsed, ShowsRowOf, rows_of}
use Rattle.recorded_screen.specs.Shots.{tracks_of}
use Rattle.recorded_screen.specs.declared.films.Pace.{Pace}
use Rattle.recorded_screen.specs.declared.reel.Reel.{Reel}
use Rattle.recorded_screen.specs.declared.reel.Shot.{Shot}

-- ---- times

-- the time that has been reached after the first n events, in microseconds of the recording
abbrev pub reached : List Event → ℕ → ℕ
reached events zero = 0
reached events (suc n) = option_map_or (λ e. e.time) (slice_get events n) 0

-- How long a time of the recording is in the film: a screen stays no longer than `idle`, and the film has its own
-- speed.
abbrev pub paced : Pace → ℕ → ℕ
paced pace time = in_64_bits (option_map_or (min time) pace.idle time * 1000000 / max pace.speed 1)

-- the time of the recording to which a film has played after the first n events: what comes before its beginning is
-- there at once
abbrev pub played_to : Pace → List Event → ℕ → ℕ
played_to pace events n = max pace.from (reached events n)

-- the time of the film that has been reached after the first n events
abbrev pub film_time : Pace → List Event → ℕ → ℕ
film_time pace events zero = 0
film_time pace events (suc n) =
    in_64_bits (film_time pace events n + paced pace (played_to pace events (suc n) - played_to pace events n))

-- how many events there are before the first one that comes later than a time
abbrev pub count_until : ℕ → List Event → ℕ
count_until moment events = prefix_len (λ e. nat_le e.time moment) events

-- the time of the film at a time of the recording
abbrev pub time_in_film : Pace → List Event → ℕ → ℕ
time_in_film pace events time =
    let n = count_until time events in
    in_64_bits (film_time pace events n + paced pace (max pace.from time - played_to pace events n))

-- the time of what is shown where nothing plays, if the pace has a poster
abbrev pub poster_time : Pace → List Event → Option ℕ
poster_time pace events = option_map (time_in_film pace events) pace.poster

-- whether the event after the first n comes at another time than they, or there is no such event
abbrev pub is_moment : List Event → ℕ → Bool
is_moment events n = option_map_or (λ e. not (e.time == reached events n)) (slice_get events n) true

-- ---- slots

-- A second of a film is cut into slots, as many as it has screens at most. A time is in the slot of this number.
abbrev pub slot : Pace → ℕ → ℕ
slot pace time = time * max pace.rate 1 / 1000000

-- when the slot of a time begins
abbrev pub slot_start : Pace → ℕ → ℕ
slot_start pace time = in_64_bits (slot pace time * 1000000 / max pace.rate 1)

-- whether a film may show the screen after the first n events: the next event comes in another slot, or there is none
abbrev pub may_stand : Pace → List Event → ℕ → Bool
may_stand pace events n =
    option_map_or (λ e. not (slot pace (film_time pace events (suc n)) == slot pace (film_time pace events n)))
    (slice_get events n) true

-- a film doesn't show a screen after which another event comes at or before the film's beginning
abbrev pub EarlierScreensDontStand : Type 0
EarlierScreensDontStand = (pace : Pace) (events : List Event) (n : ℕ) (e : Event) → slice_get events n ≡ Some e
    → reached events n ≤ pace.from → e.time ≤ pace.from → may_stand pace events n ≡ false

-- ---- the size

-- the most of what events have, and at least this
abbrev pub most : (Event → ℕ) → ℕ → List Event → ℕ
most amount least [] = least
most amount least (e ∷ es) = most amount (max least (amount e)) es

abbrev pub rows_set : Change → ℕ
rows_set (Output bytes) = 0
rows_set (Resize size) = size.rows.value
rows_set (Marker name) = 0

abbrev pub cols_set : Change → ℕ
cols_set (Output bytes) = 0
cols_set (Resize size) = size.cols.value
cols_set (Marker name) = 0

-- the most rows and columns that are set up to a time
abbrev pub most_rows : ℕ → ScreenSize → List Event → ℕ
most_rows moment size events =
    most (λ e. if nat_le e.time moment then rows_set e.change else 0) size.rows.value events

abbrev pub most_cols : ℕ → ScreenSize → List Event → ℕ
most_cols moment size events =
    most (λ e. if nat_le e.time moment then cols_set e.change else 0) size.cols.value events

-- ---- screens

-- the state of a new terminal of this size after the first n events
abbrev pub state_after : ScreenSize → List Event → ℕ → State
state_after size events n = made size.rows.value size.cols.value 0 (map (λ e. act_of e.change) (take n events))

-- in each row of the screen a shot of it in this state is taken, which is shown from this time on
pub record TakesShot (look : Look) (s : State) (start : ℕ) (old new : Reel) : Type 0 where
  pub rows : IsLonger (rows_of old) (rows_of new)
  pub row : (r : ℕ) → r < new.size.rows.value
      → ShowsRowOf (IsSvgRow look s r) (rows_of new) start (track_at (tracks_of old) r) (track_at (tracks_of new) r)
  pub size : new.size ≡ old.size
  pub time : new.time ≡ old.time

-- a shot of this state is taken, if the flag says so
abbrev pub TakesShotIf : Bool → Look → State → ℕ → Reel → Reel → Type 0
TakesShotIf true look s start old new = TakesShot look s start old new
TakesShotIf false look s start old new = new ≡ old

-- These are the shots of row r of the screens after 0 events, 1, 2 and so on, fewer than this many. The row is shown
-- for the screens where `may_stand` holds, from the beginning of the slot on. A row below the last one is empty.
pub data AreShots (look : Look) (size : ScreenSize) (pace : Pace) (events : List Event) (drawn : List (List ℕ)) (r : ℕ)
    (rows : List ℕ) : ℕ → List Shot → Type 0 where
  none : AreShots look size pace events drawn r rows 0 []
  passed : {n : ℕ} {shots : List Shot} → may_stand pace events n ≡ false
      → AreShots look size pace events drawn r rows n shots → AreShots look size pace events drawn r rows (suc n) shots
  shot : {n : ℕ} {old : List Shot} (new : List Shot) (place : ℕ) → may_stand pace events n ≡ true
      → AreShots look size pace events drawn r rows n old
      → IsAt rows place (λ number. IsAt drawn number (IsSvgRow look (state_after size events n) r))
      → IsShown old new (slot_start pace (film_time pace events n)) place
      → AreShots look size pace events drawn r rows (suc n) new

-- A film of the first n events, at the size of all up to a time. Each row of the screen has a track, which shows that
-- row of the screens where `may_stand` holds, each from its slot on, and the last one for a second. It plays as often
-- as the pace says, and then shows its last screen. Where nothing plays, it shows what it shows at the poster's time.
-- The rows that are drawn are all different, and each is in a track. Those of a track are all different too, and each
-- is shown.
pub record IsFilmOf (look : Look) (size : ScreenSize) (pace : Pace) (moment : ℕ) (events : List Event) (n : ℕ)
    (bytes : List ℕ) : Type 0 where
  pub rows : List (List ℕ)
  pub tracks : List Track
  pub is : bytes ≡ film_bytes look (most_rows moment size events) (most_cols moment size events)
      (showing pace.plays (poster_time pace events) (film_time pace events n)) rows tracks
  pub count : length tracks ≡ most_rows moment size events
  pub shown : (r : ℕ) → r < length tracks
      → AreShots look size pace events rows r (track_at tracks r).rows (suc n) (track_at tracks r).shots
  pub different : AreDifferent rows
  pub used : (i : ℕ) → i < length rows → IsUsed tracks i
  pub tracked : (r : ℕ) → r < length tracks → IsTrack (track_at tracks r)

-- a film of the events up to a time
abbrev pub IsFilm : Look → ScreenSize → Pace → ℕ → List Event → List ℕ → Type 0
IsFilm look size pace moment events bytes =
    IsFilmOf look size pace moment events (count_until moment events) bytes

-- the film of the events up to a time, or already that of fewer events, has more bytes than this
pub record IsTooLong (most : ℕ) (look : Look) (size : ScreenSize) (pace : Pace) (moment : ℕ) (events : List Event)
    : Type 0 where
  pub count : ℕ
  pub within : count ≤ count_until moment events
  pub bytes : List ℕ
  pub film : IsFilmOf look size pace moment events count bytes
  pub long : most < length bytes
