-- Asciicasts: of version 1 an object, of versions 2 and 3 a header, and an event a line.
use Rattle.std.specs.Prelude.{◌≡◌, ℕ, ◌+◌, ◌==◌, ◌||◌, Bool, true, false, List, [], ◌∷◌, ◌++◌, drop}
use Rattle.std.specs.Prelude.{length, slice_index, Option, Some, None, is_some, option_and_then, unwrap_or}
use Rattle.std.specs.Prelude.{if◌then◌else◌, codes, string_bytes, IsSomeAnd, ◌⊎◌}
use Rattle.std.specs.Char.{is_ascii_whitespace}
use Rattle.std.specs.List.{list_all, flat_map, before_first, after_first, position_or_len, All}
use Rattle.std.specs.Option.{option_map}
use Rattle.std.specs.Str.{bytes_eq}
use Rattle.serde_json.specs.Data.{Data, Items, item, no_items}
use Rattle.serde_json.specs.Find.{as_array, as_number, as_str, as_u64, get}
use Rattle.command_line.specs.Numbers.{size_in}
use Rattle.recordings.specs.Details.{Details, details_of, details_said}
use Rattle.recordings.specs.FirstVersion.{IsFirstVersion, IsUnreadObject, first_version}
use Rattle.recordings.specs.Lines.{first_line, lines_in, unmarked}
use Rattle.recordings.specs.Recorded.{Deed, IsStateAfter, Row, deed_of, ended, marks, resizes, said, size_said}
use Rattle.recordings.specs.Recorded.{reported, writes}
use Rattle.recordings.specs.Sizes.{sides_in}
use Rattle.recordings.specs.Themes.{theme_reported}
use Rattle.recordings.specs.Times.{json_in, time_of}
use Rattle.recordings.specs.declared.asciicast.Entry.{Entry}
use Rattle.recordings.specs.declared.asciicast.Entry.TheVariants as entry
use Rattle.recordings.specs.declared.asciicast.Header.{Header}
use Rattle.recordings.specs.declared.error.RecordingError.{RecordingError}
use Rattle.recordings.specs.declared.error.RecordingError.TheVariants as error
use Rattle.recordings.specs.declared.recording.Kind.TheVariants.{Asciicast as AsAsciicast}
use Rattle.recordings.specs.declared.recording.Recording.{Recording}
use Rattle.recordings.specs.declared.recording.ScreenSize.{ScreenSize}
use Rattle.recordings.specs.declared.timeline.Pace.{Pace}
use Rattle.recordings.specs.declared.timeline.Pace.TheVariants.{FromStart, FromLast}
use Rattle.recordings.specs.declared.timeline.Timeline.{Timeline}

-- ---- the header

-- version 2 has the size in the header, with times from the beginning; version 3 in its `term`, with times between
-- events
abbrev pub header_of_version : Data → ℕ → Option (Pace × (ℕ × ℕ))
header_of_version json version =
    if version == 2 then option_map (λ size. (FromStart, size)) (sides_in (codes "height") (codes "width") json)
    else (if version == 3 then option_map (λ size. (FromLast, size))
    (option_and_then (sides_in (codes "rows") (codes "cols")) (get (codes "term") json))
    else None)

abbrev pub header_of : Data → Option (Pace × (ℕ × ℕ))
header_of json = option_and_then (header_of_version json)
    (option_and_then as_u64 (option_and_then as_number (get (codes "version") json)))

abbrev pub header_in : List ℕ → Option (Pace × (ℕ × ℕ))
header_in line = option_and_then header_of (json_in line)

abbrev pub layout_said : Pace × ScreenSize → Pace × (ℕ × ℕ)
layout_said layout = (layout.0, size_said layout.1)

abbrev pub header_said : Header → Pace × (ℕ × ℕ)
header_said h = layout_said (h.pace, h.size)

abbrev pub header_details : Header → Details
header_details h = record {
  theme = theme_reported h.theme;
  idle = h.idle;
  title = option_map string_bytes h.title;
}

-- ---- the events

-- `COLSxROWS`
abbrev pub resize_in : List ℕ → Option (ℕ × ℕ)
resize_in text =
    if position_or_len (λ b. b == 0x78) text == length text then None
    else option_and_then (λ cols. option_map (λ rows. (rows, cols)) (size_in (after_first (λ b. b == 0x78) text)))
    (size_in (before_first (λ b. b == 0x78) text))

-- what an event of this code does with its text; other codes do nothing to a screen or a reader, and need no text
abbrev pub deed_in : List ℕ → Option (List ℕ) → Option (Option Deed)
deed_in code text =
    if bytes_eq code (codes "o") then option_map (λ bytes. Some (writes bytes)) text
    else (if bytes_eq code (codes "m") then option_map (λ name. Some (marks name)) text
    else (if bytes_eq code (codes "r") then option_map (λ size. Some (resizes size.0 size.1))
    (option_and_then resize_in text)
    else Some None))

abbrev pub row_of_parts : Option ℕ → Option (List ℕ) → Option (List ℕ) → Option Row
row_of_parts (Some time) (Some code) text = option_map (λ deed. (time, deed)) (deed_in code text)
row_of_parts _ _ _ = None

-- the first value, if it is a text
abbrev pub text_in : Items → Option (List ℕ)
text_in (item text more) = as_str text
text_in no_items = None

-- `[TIME, CODE, TEXT]`; what follows is ignored
abbrev pub row_of_items : Items → Option Row
row_of_items (item time (item code more)) = row_of_parts (time_of time) (as_str code) (text_in more)
row_of_items _ = None

abbrev pub row_in : Data → Option (List Row)
row_in json = option_map (λ row. row ∷ []) (option_and_then row_of_items (as_array json))

-- a comment, of version 3
abbrev pub comments : Pace → List ℕ → Bool
comments FromStart line = false
comments FromLast line = slice_index line 0 == 0x23

-- a line is an event, or no event if it is blank or a comment
abbrev pub rows_in : Pace → List ℕ → Option (List Row)
rows_in pace line =
    if list_all is_ascii_whitespace line || comments pace line then Some []
    else option_and_then row_in (json_in line)

abbrev pub rows_of : Pace → List (List ℕ) → List Row
rows_of pace lines = flat_map (λ line. unwrap_or (rows_in pace line) []) lines

abbrev pub AreEvents : Pace → List (List ℕ) → Type 0
AreEvents pace lines = All (λ line. is_some (rows_in pace line) ≡ true) lines

-- ---- the recording

-- what an asciicast with this header, these details of it and these lines after the header says
pub record Says (header : Pace × (ℕ × ℕ)) (details : Details) (lines : List (List ℕ)) (r : Recording) : Type 0 where
  pub kind : r.kind ≡ AsAsciicast
  pub size : option_map size_said r.size ≡ Some header.1
  pub own : details_of r ≡ details
  pub events : AreEvents header.0 lines
  pub moments : said r.events.items ≡ reported header.0 0 (rows_of header.0 lines)
  pub length : r.length ≡ ended header.0 0 (rows_of header.0 lines)

-- the line of the header, and the lines after it
abbrev pub head : List ℕ → List ℕ
head text = first_line (unmarked text)

abbrev pub body : List ℕ → List (List ℕ)
body text = drop 1 (lines_in (unmarked text))

abbrev pub AreLines : List ℕ → Recording → Type 0
AreLines text r = IsSomeAnd (header_in (head text)) (λ header. Says header (details_said (head text)) (body text) r)

-- what a text says that is an object of version 1, or else lines
abbrev pub IsCast : Option Data → List ℕ → Recording → Type 0
IsCast (Some json) text r = IsFirstVersion json r
IsCast None text r = AreLines text r

abbrev pub IsAsciicast : List ℕ → Recording → Type 0
IsAsciicast text r = IsCast (first_version text) text r

-- the first line that is no event, counted from 1 for the header
pub record IsBadLine (pace : Pace) (lines : List (List ℕ)) (n : ℕ) : Type 0 where
  pub before : List (List ℕ)
  pub line : List ℕ
  pub after : List (List ℕ)
  pub parts : lines ≡ before ++ line ∷ after
  pub number : n ≡ length before + 2
  pub fine : AreEvents pace before
  pub ill : rows_in pace line ≡ None

-- why the lines after the header aren't read
abbrev pub IsFaultIn : Pace → List (List ℕ) → RecordingError → Type 0
IsFaultIn pace lines error.Memory = Unit {0}
IsFaultIn pace lines (error.Line n) = IsBadLine pace lines n
IsFaultIn pace lines _ = ⊥

-- why lines aren't read: the first is no header, or a line after that is no event
abbrev pub IsFaultOfLines : List ℕ → RecordingError → Type 0
IsFaultOfLines text error.Header = header_in (head text) ≡ None
IsFaultOfLines text e =
    IsSomeAnd (header_in (head text)) (λ header. IsFaultIn header.0 (body text) e) ⊎ (e ≡ error.Memory)

abbrev pub IsFaultOfCast : Option Data → List ℕ → RecordingError → Type 0
IsFaultOfCast (Some json) text e = IsUnreadObject json e
IsFaultOfCast None text e = IsFaultOfLines text e

-- why a text isn't read
abbrev pub IsFault : List ℕ → RecordingError → Type 0
IsFault text e = IsFaultOfCast (first_version text) text e

-- ---- up to a fault

-- what is read of lines: what all of them say, or what those before the first say that is no event
abbrev pub AreRead : Pace → List (List ℕ) → Timeline → Option ℕ → Type 0
AreRead pace lines t None = AreEvents pace lines × IsStateAfter pace (rows_of pace lines) t
AreRead pace lines t (Some n) = (bad : IsBadLine pace lines n) × IsStateAfter pace (rows_of pace bad.before) t

-- what is read of the lines after a header: with a fault what the lines before it say
abbrev pub IsReadOf : Pace × (ℕ × ℕ) → Details → List (List ℕ) → Recording → Option RecordingError → Type 0
IsReadOf header details lines r None = Says header details lines r
IsReadOf header details lines r (Some (error.Line n)) =
    (bad : IsBadLine header.0 lines n) × Says header details bad.before r
IsReadOf header details lines r _ = ⊥

abbrev pub AreReadLines : List ℕ → Recording → Option RecordingError → Type 0
AreReadLines text r fault =
    IsSomeAnd (header_in (head text)) (λ header. IsReadOf header (details_said (head text)) (body text) r fault)

-- an object is read as a whole
abbrev pub IsReadCastOf : Option Data → List ℕ → Recording → Option RecordingError → Type 0
IsReadCastOf (Some json) text r fault = IsFirstVersion json r × (fault ≡ None)
IsReadCastOf None text r fault = AreReadLines text r fault

abbrev pub IsReadCast : List ℕ → Recording → Option RecordingError → Type 0
IsReadCast text r fault = IsReadCastOf (first_version text) text r fault

-- why nothing is read of lines
abbrev pub AreUnreadLines : List ℕ → RecordingError → Type 0
AreUnreadLines text error.Header = header_in (head text) ≡ None
AreUnreadLines text e = e ≡ error.Memory

abbrev pub IsUnreadCastOf : Option Data → List ℕ → RecordingError → Type 0
IsUnreadCastOf (Some json) text e = IsUnreadObject json e
IsUnreadCastOf None text e = AreUnreadLines text e

-- why nothing is read
abbrev pub IsUnreadCast : List ℕ → RecordingError → Type 0
IsUnreadCast text e = IsUnreadCastOf (first_version text) text e

-- ---- its kind

-- the first line is an object that has a version, or no value and the text is an object of version 1
abbrev pub begins_so : Option Data → List ℕ → Bool
begins_so (Some json) text = is_some (get (codes "version") json)
begins_so None text = is_some (first_version text)

abbrev pub is_header : List ℕ → Bool
is_header text = begins_so (json_in (head text)) text

abbrev pub entry_said : Entry → Option (List Row)
entry_said entry.Blank = Some []
entry_said (entry.Row time change) = Some ((time, option_map deed_of change) ∷ [])
entry_said entry.Fault = None
