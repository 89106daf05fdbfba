-- Recordings in which the line drawing set's characters come as Unicode.
use Rattle.std.specs.Prelude.{◌≡◌, ℕ, List, [], ◌∷◌, ◌++◌, string_bytes}
use Rattle.std.specs.Option.{option_map}
use Rattle.charset_filter.specs.Given.{given_after}
use Rattle.recordings.specs.Recorded.{Deed, Moment, said, writes, resizes, marks}
use Rattle.recordings.specs.declared.recording.Recording.{Recording}

-- the bytes that an event writes
abbrev pub written : Deed → List ℕ
written (writes bytes) = bytes
written (resizes rows cols) = []
written (marks name) = []

-- what an event does once these bytes were written: an output is what it gives after them
abbrev pub drawn_deed : List ℕ → Deed → Deed
drawn_deed past (writes bytes) = writes (given_after past bytes)
drawn_deed past (resizes rows cols) = resizes rows cols
drawn_deed past (marks name) = marks name

-- events once these bytes were written, in their order and at their times
abbrev pub drawn_after : List ℕ → List Moment → List Moment
drawn_after past [] = []
drawn_after past (m ∷ ms) = (m.0, drawn_deed past m.1) ∷ drawn_after (past ++ written m.1) ms

pub record IsDrawn (recording drawn : Recording) : Type 0 where
  pub same_kind : drawn.kind ≡ recording.kind
  pub same_size : drawn.size ≡ recording.size
  pub same_theme : drawn.theme ≡ recording.theme
  pub same_idle : drawn.idle ≡ recording.idle
  pub same_title : option_map string_bytes drawn.title ≡ option_map string_bytes recording.title
  pub same_length : drawn.length ≡ recording.length
  pub moments : said drawn.events.items ≡ drawn_after [] (said recording.events.items)
