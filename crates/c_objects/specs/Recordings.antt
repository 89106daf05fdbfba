-- Recordings: what is read of a file, what each call reads of it, and the number that it returns.
use Rattle.std.specs.Prelude.{◌≡◌, ◌⊎◌, ℕ, ℤ, List, [], length, slice_get, Option, Some, None, MatchOption}
use Rattle.std.specs.Prelude.{unwrap_or}
use Rattle.std.specs.Option.{option_map}
use Rattle.recordings.specs.Kinds.{IsReadOfKind, IsUnreadOfKind, IsPacked, kind_taken, packer_met}
use Rattle.recordings.specs.Recorded.{Deed, writes, resizes, marks, deed_of, size_said}
use Rattle.recordings.specs.Themes.{theme_reported}
use Rattle.recordings.specs.declared.error.RecordingError.{RecordingError}
use Rattle.recordings.specs.declared.error.RecordingError.TheVariants as error
use Rattle.recordings.specs.declared.recording.Event.{Event}
use Rattle.recordings.specs.declared.recording.Kind.{Kind}
use Rattle.recordings.specs.declared.recording.Kind.TheVariants.{Asciicast, Script, Ttyrec, Raw}
use Rattle.recordings.specs.declared.recording.Reading.{Reading}
use Rattle.c_objects.specs.Codes.{ok, memory, no_header, compressed, no_event}
use Rattle.c_objects.specs.Texts.{IsCopied}
use Rattle.c_objects.specs.declared.plain.CEvent.{CEvent}
use Rattle.c_objects.specs.declared.plain.CRecording.{CRecording}
use Rattle.c_objects.specs.declared.object.Object.{Object}
use Rattle.c_objects.specs.declared.object.Object.TheVariants.{Hub, View, Screen, Recording, Filter}

-- ---- new

-- what these bytes say up to the first fault, and with a timing file as a typescript
pub record IsReading (bytes : List ℕ) (timing : Option (List ℕ)) (r : Reading) : Type 0 where
  pub read : IsReadOfKind (kind_taken None timing bytes) bytes timing r.recording r.fault
  pub unpacked : packer_met None timing bytes ≡ None

abbrev pub IsReadingOf : List ℕ → Option (List ℕ) → Object → Type 0
IsReadingOf bytes timing (Hub h) = ⊥
IsReadingOf bytes timing (View v) = ⊥
IsReadingOf bytes timing (Screen m) = ⊥
IsReadingOf bytes timing (Recording r) = IsReading bytes timing r
IsReadingOf bytes timing (Filter f) = ⊥

-- the number for why nothing is read; of the others there is none
abbrev pub unread_code : RecordingError → ℤ
unread_code error.Memory = memory
unread_code (error.Packed packer) = compressed
unread_code _ = no_header

-- why nothing is read: for memory, since the file is a compressed one, or since it has no header
abbrev pub IsUnread : List ℕ → Option (List ℕ) → RecordingError → Type 0
IsUnread bytes timing e =
    (e ≡ error.Memory)
    ⊎ (IsPacked (packer_met None timing bytes) e ⊎ IsUnreadOfKind (kind_taken None timing bytes) bytes timing e)

abbrev pub IsUnreadCode : List ℕ → Option (List ℕ) → ℤ → Type 0
IsUnreadCode bytes timing code = (e : RecordingError) × IsUnread bytes timing e × (code ≡ unread_code e)

-- ---- calls that read it

abbrev pub kind_number : Kind → ℕ
kind_number Asciicast = 1
kind_number Script = 2
kind_number Ttyrec = 3
kind_number Raw = 4

-- which kind of fault it is, and at which line or byte
abbrev pub fault_of : Option RecordingError → ℕ × ℕ
fault_of (Some (error.Line n)) = (1, n)
fault_of (Some (error.Byte n)) = (2, n)
fault_of (Some (error.Step n)) = (3, n)
fault_of _ = (0, 0)

abbrev pub recording_look : Reading → CRecording
recording_look r =
    let x = r.recording in
    let size : ℕ × ℕ = unwrap_or (option_map size_said x.size) (0, 0) in
    record {
      events = length x.events.items;
      length = x.length;
      place = (fault_of r.fault).1;
      rows = size.0;
      cols = size.1;
      kind = kind_number x.kind;
      fault = (fault_of r.fault).0;
    }

abbrev pub LooksRecorded : CRecording → Reading → ℤ → Type 0
LooksRecorded look r code = (code ≡ ok) × (look ≡ recording_look r)

-- output's bytes, or a marker's name
abbrev pub text_of : Deed → List ℕ
text_of (writes bytes) = bytes
text_of (resizes rows cols) = []
text_of (marks name) = name

abbrev pub number_of : Deed → ℕ
number_of (writes bytes) = 1
number_of (resizes rows cols) = 2
number_of (marks name) = 3

abbrev pub size_of : Deed → ℕ × ℕ
size_of (resizes rows cols) = (rows, cols)
size_of _ = (0, 0)

abbrev pub event_of : Event → CEvent
event_of e =
    let deed = deed_of e.change in
    record {
      time = e.time;
      length = length (text_of deed);
      rows = (size_of deed).0;
      cols = (size_of deed).1;
      kind = number_of deed;
    }

abbrev pub HasEvent : ℕ → CEvent → Reading → ℤ → Type 0
HasEvent n event r code =
    MatchOption (slice_get r.recording.events.items n) (code ≡ no_event) (λ e. (code ≡ ok) × (event ≡ event_of e))

abbrev pub HasEventText : ℕ → List ℕ → List ℕ → ℕ → Reading → ℤ → Type 0
HasEventText n old new count r code =
    MatchOption (slice_get r.recording.events.items n) (code ≡ no_event)
    (λ e. (code ≡ ok) × IsCopied (text_of (deed_of e.change)) old new count)

-- the colours, each as 0xRRGGBB: that of texts, that of backgrounds, and the first sixteen
abbrev pub HasColors : List ℕ → List ℕ → ℕ → Reading → ℤ → Type 0
HasColors old new count r code =
    (code ≡ ok) × IsCopied (unwrap_or (theme_reported r.recording.theme) []) old new count
