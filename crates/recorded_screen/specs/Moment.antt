-- What the events of a recording up to a moment do to a screen.
use Rattle.std.specs.Prelude.{ℕ, List, [], ◌∷◌, nat_le, if◌then◌else◌}
use Rattle.screen_model.specs.Made.{Act, Fed, Resized}
use Rattle.recordings.specs.declared.recording.Change.{Change}
use Rattle.recordings.specs.declared.recording.Change.TheVariants.{Marker, Output, Resize}
use Rattle.recordings.specs.declared.recording.Event.{Event}

-- what an event does; a marker writes nothing
abbrev pub act_of : Change → Act
act_of (Output bytes) = Fed bytes.items
act_of (Resize size) = Resized size.rows.value size.cols.value
act_of (Marker name) = Fed []

-- what the events whose time is at most `moment` do, in their order
abbrev pub acts_until : ℕ → List Event → List Act
acts_until moment [] = []
acts_until moment (e ∷ es) = if nat_le e.time moment then act_of e.change ∷ acts_until moment es else acts_until moment
    es
