-- How large a screen may be that a recording asks for.
use Rattle.std.specs.Prelude.{ℕ, ◌*◌, nat_le, Bool, true, ◌&&◌}
use Rattle.std.specs.List.{list_all}
use Rattle.std.specs.Option.{option_map, option_map_or}
use Rattle.recordings.specs.Recorded.{Deed, deed_of, marks, resizes, size_said, writes}
use Rattle.recordings.specs.declared.recording.Event.{Event}
use Rattle.recordings.specs.declared.recording.Recording.{Recording}

abbrev pub size_within : ℕ → ℕ × ℕ → Bool
size_within most size = nat_le (size.0 * size.1) most

abbrev pub deed_within : ℕ → Deed → Bool
deed_within most (writes bytes) = true
deed_within most (resizes rows cols) = size_within most (rows, cols)
deed_within most (marks name) = true

abbrev pub is_event_within : ℕ → Event → Bool
is_event_within most event = deed_within most (deed_of event.change)

-- each size that the recording names has at most this many cells
abbrev pub are_within : ℕ → Recording → Bool
are_within most r = option_map_or (size_within most) (option_map size_said r.size) true
    && list_all (is_event_within most) r.events.items
