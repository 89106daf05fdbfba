-- The screen of a recording at a time.
use Rattle.std.specs.Prelude.{◌≡◌, ◌⊎◌, ℕ, ℤ, Option, Some}
use Rattle.recordings.specs.declared.recording.Reading.{Reading}
use Rattle.screen_model.specs.Made.{made}
use Rattle.vt100.specs.Tries.{alive}
use Rattle.recorded_screen.specs.Moment.{acts_until}
use Rattle.c_objects.specs.Codes.{ok}
use Rattle.c_objects.specs.Copied.{IsMadeOf}
use Rattle.c_objects.specs.Hubs.{IsNoObjectCode}
use Rattle.c_objects.specs.Objects.{RecordingSays}
use Rattle.c_objects.specs.Words.{InWord}
use Rattle.c_objects.specs.declared.object.Marked.{Marked}
use Rattle.c_objects.specs.declared.object.Object.{Object}
use Rattle.c_objects.specs.declared.object.Object.TheVariants.{Hub, View, Screen, Recording, Filter}

-- the screen that the events up to this time make of a new one of this size, which keeps at most `capacity` rows
abbrev pub IsPlayed : ℕ → ℕ → ℕ → ℕ → Reading → Marked → Type 0
IsPlayed rows cols capacity time r m =
    IsMadeOf (alive (made rows cols capacity (acts_until time r.recording.events.items))) m

-- the object y is that screen
abbrev pub IsScreenAt : ℕ → ℕ → ℕ → ℕ → Object → Reading → ℤ → Type 0
IsScreenAt rows cols capacity time (Hub h) r code = ⊥
IsScreenAt rows cols capacity time (View v) r code = ⊥
IsScreenAt rows cols capacity time (Screen m) r code = IsPlayed rows cols capacity time r m
IsScreenAt rows cols capacity time (Recording x) r code = ⊥
IsScreenAt rows cols capacity time (Filter f) r code = ⊥

-- that screen of the recording in one word is put into another word, which stays as it was if the call is refused
abbrev pub GetsScreenAt : ℕ → ℕ → ℕ → ℕ → Option Object → Option Object → ℤ → Option Object → Type 0
GetsScreenAt rows cols capacity time from old code new =
    ((code ≡ ok) × (y : Object) × (new ≡ Some y)
    × InWord (RecordingSays (IsScreenAt rows cols capacity time y)) from ok)
    ⊎ (InWord (RecordingSays (λ r c. IsNoObjectCode rows cols c)) from code × (new ≡ old))
