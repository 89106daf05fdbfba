-- Asciicasts of version 1: one object, whose outputs have the times between them.
use Rattle.std.specs.Prelude.{◌≡◌, ◌⊎◌, ◌==◌, ℕ, Bool, false, List, [], ◌∷◌, Option, Some, None, option_and_then, codes}
use Rattle.std.specs.Bool.{then_some}
use Rattle.std.specs.Option.{option_map, option_map_or}
use Rattle.serde_json.specs.Data.{Data, Items, item, no_items}
use Rattle.serde_json.specs.Find.{as_array, as_number, as_str, as_u64, get}
use Rattle.recordings.specs.Details.{details_in, details_of}
use Rattle.recordings.specs.Lines.{unmarked}
use Rattle.recordings.specs.Recorded.{IsStateAfter, Row, ended, reported, said, size_said, writes}
use Rattle.recordings.specs.Sizes.{sides_in}
use Rattle.recordings.specs.Times.{json_in, time_of}
use Rattle.recordings.specs.declared.error.RecordingError.{RecordingError}
use Rattle.recordings.specs.declared.error.RecordingError.TheVariants as error
use Rattle.recordings.specs.declared.recording.Kind.TheVariants.{Asciicast}
use Rattle.recordings.specs.declared.recording.Recording.{Recording}
use Rattle.recordings.specs.declared.timeline.Pace.TheVariants.{FromLast}
use Rattle.recordings.specs.declared.timeline.Timeline.{Timeline}

-- whether an object's version is 1
abbrev pub is_first : Data → Bool
is_first json = option_map_or (λ n. n == 1)
    (option_and_then as_u64 (option_and_then as_number (get (codes "version") json))) false

-- the object that a text is, if its version is 1
abbrev pub first_version : List ℕ → Option Data
first_version text = option_and_then (λ json. then_some (is_first json) json) (json_in (unmarked text))

-- `[DELAY, TEXT]`; what follows is ignored
abbrev pub output_of_items : Items → Option Row
output_of_items (item time (item text more)) =
    option_and_then (λ t. option_map (λ bytes. (t, Some (writes bytes))) (as_str text)) (time_of time)
output_of_items _ = None

abbrev pub output_in : Data → Option Row
output_in json = option_and_then output_of_items (as_array json)

-- outputs, if all values are
abbrev pub rows_of_outputs : Items → Option (List Row)
rows_of_outputs no_items = Some []
rows_of_outputs (item json more) =
    option_and_then (λ row. option_map (λ rows. row ∷ rows) (rows_of_outputs more)) (output_in json)

-- what is read of outputs, if all values are
abbrev pub AreOutputs : Items → Option Timeline → Type 0
AreOutputs items None = rows_of_outputs items ≡ None
AreOutputs items (Some t) = (rows : List Row) × (rows_of_outputs items ≡ Some rows) × IsStateAfter FromLast rows t

abbrev pub outputs_in : Data → Option (List Row)
outputs_in json = option_and_then rows_of_outputs (option_and_then as_array (get (codes "stdout") json))

-- what an object of version 1 says: its size, its title, and outputs with the times between them
pub record IsFirstVersion (json : Data) (r : Recording) : Type 0 where
  pub rows : List Row
  pub outputs : outputs_in json ≡ Some rows
  pub kind : r.kind ≡ Asciicast
  pub sides : ℕ × ℕ
  pub sized : sides_in (codes "height") (codes "width") json ≡ Some sides
  pub size : option_map size_said r.size ≡ Some sides
  pub own : details_of r ≡ details_in json
  pub moments : said r.events.items ≡ reported FromLast 0 rows
  pub length : r.length ≡ ended FromLast 0 rows

-- what is read of such an object: it has no size, or a value that is no output
abbrev pub IsReadObject : Data → Option Recording → Type 0
IsReadObject json None = (sides_in (codes "height") (codes "width") json ≡ None) ⊎ (outputs_in json ≡ None)
IsReadObject json (Some r) = IsFirstVersion json r

-- why it isn't read
abbrev pub IsUnreadObject : Data → RecordingError → Type 0
IsUnreadObject json error.Header = IsReadObject json None
IsUnreadObject json e = e ≡ error.Memory
