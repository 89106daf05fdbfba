-- A film that is being built: its rows, and its tracks, which say what is shown from when on.
use Rattle.std.specs.Prelude.{◌≡◌, ◌≢◌, ◌⊎◌, ℕ, ◌<◌, List, [], ◌∷◌, ◌++◌, Bool, true, false, Some, length, map, slice_get}
use Rattle.recorded_screen.specs.Reel.{Track, drawn_row, last_shot, numbered, track_at}
use Rattle.recorded_screen.specs.declared.reel.Reel.{Reel}
use Rattle.recorded_screen.specs.declared.reel.Shot.{Shot}
use Rattle.recorded_screen.specs.declared.reel.Track.{Track as GrowingTrack}

abbrev pub rows_of : Reel → List (List ℕ)
rows_of reel = map (λ v. v.items) reel.rows.keys

abbrev pub track_of : GrowingTrack → Track
track_of track = record { rows = track.rows.keys; shots = track.shots.items }

abbrev pub tracks_of : Reel → List Track
tracks_of reel = map track_of reel.tracks.items

-- no two of these are the same
abbrev pub AreDifferent : {A : Type 0} → List A → Type 0
AreDifferent {A} xs = (i j : ℕ) (x : A) → slice_get xs i ≡ Some x → slice_get xs j ≡ Some x → i ≡ j

-- the item of this number exists, and this holds of it
pub record IsAt {A : Type 0} (xs : List A) (number : ℕ) (Holds : A → Type 0) : Type 0 where
  pub item : A
  pub at : slice_get xs number ≡ Some item
  pub holds : Holds item

-- the drawn row of this number is in one of the tracks
pub record IsUsed (tracks : List Track) (number : ℕ) : Type 0 where
  pub row : ℕ
  pub place : ℕ
  pub is : slice_get (track_at tracks row).rows place ≡ Some number

-- this place is shown by one of the shots
pub record IsShot (shots : List Shot) (place : ℕ) : Type 0 where
  pub count : ℕ
  pub shot : Shot
  pub at : slice_get shots count ≡ Some shot
  pub is : shot.place ≡ place

-- the rows of a track are all different, and each is shown
pub record IsTrack (track : Track) : Type 0 where
  pub different : AreDifferent track.rows
  pub shown : (n : ℕ) → n < length track.rows → IsShot track.shots n

-- its rows are all different, and drawn, each by its number
pub record IsDrawn (reel : Reel) : Type 0 where
  pub rows : reel.drawn_rows ≡ numbered drawn_row 0 (rows_of reel)
  pub different : AreDifferent (rows_of reel)

-- each of its rows is in one of its tracks
pub record IsReel (reel : Reel) : Type 0 where
  pub drawn : IsDrawn reel
  pub used : (i : ℕ) → i < length (rows_of reel) → IsUsed (tracks_of reel) i
  pub tracks : (r : ℕ) → IsTrack (track_at (tracks_of reel) r)
  pub count : length reel.tracks.items ≡ reel.size.rows.value

-- these are the old ones, and then others
pub record IsLonger {A : Type 0} (old new : List A) : Type 0 where
  pub more : List A
  pub is : new ≡ old ++ more

-- the numbers of the new ones are those of the old ones, or this one
abbrev pub AddsOnly : {A : Type 0} → ℕ → List A → List A → Type 0
AddsOnly number old new = (i : ℕ) → i < length new → (i < length old) ⊎ (i ≡ number)

-- the row of this number may have been drawn, and nothing else has changed
pub record Grows (number : ℕ) (old new : Reel) : Type 0 where
  pub rows : IsLonger (rows_of old) (rows_of new)
  pub own : AddsOnly number (rows_of old) (rows_of new)
  pub tracks : new.tracks ≡ old.tracks
  pub size : new.size ≡ old.size
  pub time : new.time ≡ old.time

-- an item is inserted, unless it was there; this is its number
abbrev pub Inserts : {A : Type 0} → List A → List A → A → ℕ → Bool → Type 0
Inserts old new item number true =
    (new ≡ old ++ item ∷ []) × (number ≡ length old) × ((i : ℕ) → slice_get old i ≢ Some item)
Inserts old new item number false = (new ≡ old) × (slice_get old number ≡ Some item)

-- an item has this number now, whether it is new or was there: a new one is the last
pub record TakesPlace {A : Type 0} (item : A) (old new : List A) (number : ℕ) : Type 0 where
  pub at : slice_get new number ≡ Some item
  pub longer : IsLonger old new
  pub own : AddsOnly number old new
  pub different : AreDifferent old → AreDifferent new

-- from a time on this place is shown: by a new shot, or by the last one
abbrev pub IsShown : List Shot → List Shot → ℕ → ℕ → Type 0
IsShown old new time place =
    (new ≡ old ++ record { time = time; place = place } ∷ [])
    ⊎ ((new ≡ old) × (shot : Shot) × (last_shot old ≡ Some shot) × (shot.place ≡ place))

-- from a time on such a one is shown in a track
pub record ShowsSuch (Such : ℕ → Type 0) (time : ℕ) (old new : Track) : Type 0 where
  pub place : ℕ
  pub stands : IsAt new.rows place Such
  pub rows : IsLonger old.rows new.rows
  pub shown : IsShown old.shots new.shots time place

-- from a time on the drawn row of this number is shown in a track
abbrev pub Shows : ℕ → ℕ → Track → Track → Type 0
Shows number time old new = ShowsSuch (λ n. n ≡ number) time old new

-- from a time on such a row is shown in a track
abbrev pub ShowsRowOf : (List ℕ → Type 0) → List (List ℕ) → ℕ → Track → Track → Type 0
ShowsRowOf Holds rows time old new = ShowsSuch (λ n. IsAt rows n Holds) time old new

-- such a row is shown in a row of the screen from this time on, and nothing changes in the others
pub record ShowsRow (Holds : List ℕ → Type 0) (row start : ℕ) (old new : Reel) : Type 0 where
  pub rows : IsLonger (rows_of old) (rows_of new)
  pub shows : ShowsRowOf Holds (rows_of new) start (track_at (tracks_of old) row) (track_at (tracks_of new) row)
  pub others : (r : ℕ) → r ≢ row → track_at (tracks_of new) r ≡ track_at (tracks_of old) r
  pub size : new.size ≡ old.size
  pub time : new.time ≡ old.time
