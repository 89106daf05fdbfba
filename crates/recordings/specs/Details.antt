-- What a recording says besides its size and its events.
use Rattle.std.specs.Prelude.{ℕ, nat_lt, List, length, Option, None, option_and_then, codes, string_bytes}
use Rattle.std.specs.Bool.{then_some}
use Rattle.std.specs.Option.{option_map}
use Rattle.serde_json.specs.Data.{Data}
use Rattle.serde_json.specs.Find.{get}
use Rattle.recordings.specs.Themes.{text_at, theme_in, theme_reported}
use Rattle.recordings.specs.Times.{json_in, time_of}
use Rattle.recordings.specs.declared.recording.Recording.{Recording}

-- its colours, how long a screen stays the same at most, in microseconds, and its title
pub record Details : Type 0 where
  pub theme : Option (List ℕ)
  pub idle : Option ℕ
  pub title : Option (List ℕ)

-- a limit of 0 counts as no limit
abbrev pub idle_in : Data → Option ℕ
idle_in json =
    option_and_then (λ time. then_some (nat_lt 0 time) time)
    (option_and_then time_of (get (codes "idle_time_limit") json))

-- an empty title counts as no title
abbrev pub title_in : Data → Option (List ℕ)
title_in json =
    option_and_then (λ title. then_some (nat_lt 0 (length title)) title) (text_at (codes "title") json)

-- of the header of an asciicast
abbrev pub details_said : List ℕ → Details
details_said line = record {
  theme = option_and_then theme_in (json_in line);
  idle = option_and_then idle_in (json_in line);
  title = option_and_then title_in (json_in line);
}

abbrev pub details_in : Data → Details
details_in json = record { theme = theme_in json; idle = idle_in json; title = title_in json }

abbrev pub no_details : Details
no_details = record { theme = None; idle = None; title = None }

abbrev pub details_of : Recording → Details
details_of r = record {
  theme = theme_reported r.theme;
  idle = r.idle;
  title = option_map string_bytes r.title;
}
