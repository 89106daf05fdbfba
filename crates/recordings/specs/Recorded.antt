-- What a recording says.
use Rattle.std.specs.Prelude.{◌≡◌, ℕ, ◌+◌, ◌-◌, ◌^◌, max, min, List, [], ◌∷◌, map, Option, Some, None, string_bytes}
use Rattle.recordings.specs.declared.recording.Change.{Change}
use Rattle.recordings.specs.declared.recording.Change.TheVariants.{Output, Resize, Marker}
use Rattle.recordings.specs.declared.recording.Event.{Event}
use Rattle.recordings.specs.declared.recording.ScreenSize.{ScreenSize}
use Rattle.recordings.specs.declared.timeline.Pace.{Pace}
use Rattle.recordings.specs.declared.timeline.Pace.TheVariants.{FromStart, FromLast}
use Rattle.recordings.specs.declared.timeline.Timeline.{Timeline}

-- what an event does
pub data Deed : Type 0 where
  writes : List ℕ → Deed
  resizes : ℕ → ℕ → Deed
  marks : List ℕ → Deed

abbrev pub deed_of : Change → Deed
deed_of (Output bytes) = writes bytes.items
deed_of (Resize size) = resizes size.rows.value size.cols.value
deed_of (Marker name) = marks (string_bytes name)

-- rows and columns
abbrev pub size_said : ScreenSize → ℕ × ℕ
size_said size = (size.rows.value, size.cols.value)

-- a time in microseconds, and what happens then
abbrev pub Moment : Type 0
Moment = ℕ × Deed

abbrev pub said : List Event → List Moment
said = map (λ e. (e.time, deed_of e.change))

-- an event as it is stored: its time, and what it does if that concerns a screen or a reader
abbrev pub Row : Type 0
Row = ℕ × Option Deed

-- the time of an event, given that of the previous one
abbrev pub reached : Pace → ℕ → ℕ → ℕ
reached FromStart before time = max before time
reached FromLast before time = min (before + time) (2 ^ 64 - 1)

abbrev pub ended : Pace → ℕ → List Row → ℕ
ended pace before [] = before
ended pace before (row ∷ rows) = ended pace (reached pace before row.0) rows

abbrev pub with_deed : ℕ → Option Deed → List Moment → List Moment
with_deed time None moments = moments
with_deed time (Some deed) moments = (time, deed) ∷ moments

-- what the rows say, after a time
abbrev pub reported : Pace → ℕ → List Row → List Moment
reported pace before [] = []
reported pace before (row ∷ rows) =
    with_deed (reached pace before row.0) row.1 (reported pace (reached pace before row.0) rows)

-- what was read of rows
pub record IsStateAfter (pace : Pace) (rows : List Row) (t : Timeline) : Type 0 where
  pub same_pace : t.pace ≡ pace
  pub last : t.time ≡ ended pace 0 rows
  pub moments : said t.events.items ≡ reported pace 0 rows
