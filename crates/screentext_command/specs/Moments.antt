-- The moments that arguments mean.
use Rattle.std.specs.Prelude.{◌≡◌, ℕ, ◌+◌, ◌-◌, ◌*◌, ◌^◌, ◌==◌, ◌&&◌, min, nat_lt, Bool, false, List, [], ◌∷◌, length}
use Rattle.std.specs.Prelude.{Option, Some, None, if◌then◌else◌}
use Rattle.std.specs.List.{after_first, before_first, position_or_len}
use Rattle.std.specs.Option.{option_map_or, option_or}
use Rattle.std.specs.Str.{bytes_eq}
use Rattle.command_line.specs.Numbers.{count_of}
use Rattle.recordings.specs.Recorded.{Deed, Moment, marks, resizes, writes}
use Rattle.recordings.specs.Times.{time_in}
use Rattle.recordings.specs.declared.recording.Recording.{Recording}
use Rattle.screentext_command.specs.Asked.{Origin}
use Rattle.screentext_command.specs.declared.source.Moments.{Moments}

-- a marker of this name
abbrev pub is_marker : List ℕ → Deed → Bool
is_marker name (writes bytes) = false
is_marker name (resizes rows cols) = false
is_marker name (marks marker) = bytes_eq marker name

-- the time of the first marker of this name
abbrev pub marker_time : List ℕ → List Moment → Option ℕ
marker_time name [] = None
marker_time name (m ∷ ms) = if is_marker name m.1 then Some m.0 else marker_time name ms

-- minutes, of which there are fewer than a million, and fewer than 60 seconds, in microseconds
abbrev pub clock_of : Option ℕ → Option ℕ → Option ℕ
clock_of (Some minutes) (Some seconds) =
    if nat_lt minutes 1000000 && nat_lt seconds 60000000 then Some (minutes * 60000000 + seconds) else None
clock_of _ _ = None

-- those of an argument like `1:30`
abbrev pub clock_in : List ℕ → Option ℕ
clock_in word =
    if nat_lt (position_or_len (λ b. b == 58) word) (length word)
    then clock_of (count_of (before_first (λ b. b == 58) word)) (time_in (after_first (λ b. b == 58) word))
    else None

-- the time that an argument gives in seconds, or else that of the first marker of this name, or else the time that it
-- gives in minutes and seconds
abbrev pub time_meant : List Moment → List ℕ → Option ℕ
time_meant moments word = option_or (option_or (time_in word) (marker_time word moments)) (clock_in word)

-- the moment that an argument means; without one it is the end
abbrev pub IsMoment : List Moment → Option (List ℕ) → ℕ → Type 0
IsMoment moments None time = time ≡ 2 ^ 64 - 1
IsMoment moments (Some word) time = time_meant moments word ≡ Some time

-- another moment that an argument means, if there is one
abbrev pub IsOtherMoment : List Moment → Option (List ℕ) → Option ℕ → Type 0
IsOtherMoment moments None since = since ≡ None
IsOtherMoment moments (Some word) None = ⊥
IsOtherMoment moments (Some word) (Some time) = time_meant moments word ≡ Some time

-- the moments that the arguments for a recording mean
pub record AreMoments (moments : List Moment) (o : Origin) (m : Moments) : Type 0 where
  pub moment_is : IsMoment moments o.moment m.moment
  pub since_is : IsOtherMoment moments o.since m.since
  pub from_is : IsOtherMoment moments o.from m.from
  pub poster_is : IsOtherMoment moments o.poster m.poster

-- a film would begin after its end
abbrev pub is_late : Recording → Moments → Bool
is_late r m = option_map_or (nat_lt (min m.moment r.length)) m.from false
