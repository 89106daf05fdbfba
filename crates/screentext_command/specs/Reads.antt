-- What is read of a recording, and what is reported of it.
use Rattle.std.specs.Prelude.{◌≡◌, ℕ, ◌&&◌, ◌||◌, Bool, true, false, List, take, codes, Option, Some, None, is_none}
use Rattle.std.specs.Prelude.{if◌then◌else◌}
use Rattle.std.specs.Option.{option_map}
use Rattle.std.specs.Str.{bytes_eq}
use Rattle.recordings.specs.Kinds.{IsReadOfKind, kind_taken, packer_met}
use Rattle.recordings.specs.Recorded.{said, size_said}
use Rattle.recordings.specs.declared.error.RecordingError.{RecordingError}
use Rattle.recordings.specs.declared.error.RecordingError.TheVariants.{Header}
use Rattle.recordings.specs.declared.recording.Kind.{Kind}
use Rattle.recordings.specs.declared.recording.Kind.TheVariants.{Raw}
use Rattle.recordings.specs.declared.recording.Reading.{Reading}
use Rattle.recordings.specs.declared.recording.Recording.{Recording}
use Rattle.screentext_command.specs.Asked.{Origin, Wish}
use Rattle.screentext_command.specs.Drawn.{IsDrawn}
use Rattle.screentext_command.specs.Limits.{are_within}
use Rattle.screentext_command.specs.Listed.{list_text}
use Rattle.screentext_command.specs.Moments.{AreMoments}
use Rattle.screentext_command.specs.Texts.{IsAnswer, size_at_first}
use Rattle.screentext_command.specs.declared.error.TextError.{TextError}
use Rattle.screentext_command.specs.declared.error.TextError.TheVariants.{Cut, Guessed}
use Rattle.screentext_command.specs.declared.source.Moments.{Moments}

-- the bytes of the timing file that the arguments name, if they name one
abbrev pub IsTiming : (List ℕ → List ℕ → Type 0) → Option (List ℕ) → Option (List ℕ) → Type 0
IsTiming holds None timing = timing ≡ None
IsTiming holds (Some path) None = ⊥
IsTiming holds (Some path) (Some bytes) = holds path bytes

-- this is read of bytes, up to the first fault, with this kind and these lines of a timing file
pub record IsReadAs (kind : Option Kind) (timing : Option (List ℕ)) (bytes : List ℕ) (r : Reading) : Type 0 where
  pub reads : IsReadOfKind (kind_taken kind timing bytes) bytes timing r.recording r.fault
  pub unpacked : packer_met kind timing bytes ≡ None

-- the same, with the timing file that the arguments name, if they name one
pub record IsRead (holds : List ℕ → List ℕ → Type 0) (o : Origin) (bytes : List ℕ) (r : Reading) : Type 0 where
  pub timing : Option (List ℕ)
  pub given : IsTiming holds o.timing timing
  pub read : IsReadAs o.kind timing bytes r

-- the bytes begin as the header of an asciicast does, which may have been cut or laid out over lines
abbrev pub begins_as_asciicast : List ℕ → Bool
begins_as_asciicast bytes = (bytes_eq (take 10 bytes) (codes "{\"version\"") || bytes_eq (take 2 bytes) (codes "{\n"))
    || bytes_eq (take 3 bytes) (codes "{\r\n")

-- what is reported of a recording of this kind, read up to this fault
abbrev pub note_of : Bool → Kind → Option RecordingError → Option TextError
note_of begins kind (Some fault) = Some (Cut fault)
note_of begins Raw None = if begins then Some Guessed else None
note_of begins _ None = None

-- why a recording of this kind, read up to this fault, isn't whole: the fault, or a header that was cut
abbrev pub flaw_of : Bool → Kind → Option RecordingError → Option RecordingError
flaw_of begins kind (Some fault) = Some fault
flaw_of begins Raw None = if begins then Some Header else None
flaw_of begins _ None = None

-- a recording that isn't whole isn't accepted, or this is reported of it
abbrev pub IsNoted : Bool → Bool → Reading → Option TextError → Type 0
IsNoted true begins r remark = (flaw_of begins r.recording.kind r.fault ≡ None) × (remark ≡ None)
IsNoted false begins r remark = remark ≡ note_of begins r.recording.kind r.fault

-- these bytes are to be guessed to be a recording, and begin as an asciicast does
abbrev pub seems_asciicast : Origin → List ℕ → Bool
seems_asciicast o bytes = is_none o.kind && begins_as_asciicast bytes

-- this is read of the bytes, and this is reported of it
pub record IsPart (holds : List ℕ → List ℕ → Type 0) (o : Origin) (bytes : List ℕ) (r : Recording)
    (remark : Option TextError) : Type 0 where
  pub reading : Reading
  pub read : IsRead holds o bytes reading
  pub same : r ≡ reading.recording
  pub noted : IsNoted o.strict (seems_asciicast o bytes) reading remark

-- the recording as it is shown, with lines drawn unless letters are to stay
abbrev pub IsDrawnSo : Bool → Recording → Recording → Type 0
IsDrawnSo true read shown = IsDrawn read shown
IsDrawnSo false read shown = shown ≡ read

-- this recording is shown, and this is reported of it
pub record IsShown (holds : List ℕ → List ℕ → Type 0) (o : Origin) (bytes : List ℕ)
    (shown : Recording) (remark : Option TextError) : Type 0 where
  pub read : Recording
  pub part : IsPart holds o bytes read remark
  pub within : are_within o.most_cells read ≡ true
  pub drawn : IsDrawnSo o.draws_lines read shown

-- this text is printed of a recording: a screen or a film, at the moments that the arguments mean, in the form that
-- they say
pub record IsScreenText (o : Origin) (w : Wish) (r : Recording) (text : List ℕ) : Type 0 where
  pub moments : Moments
  pub meant : AreMoments (said r.events.items) o moments
  pub prints : IsAnswer w.form w (size_at_first w.size (option_map size_said r.size)) r moments text

-- this text is printed of the bytes, and this is reported of them
pub record IsAnswerTo (holds : List ℕ → List ℕ → Type 0) (o : Origin)
    (w : Wish) (bytes text : List ℕ) (remark : Option TextError) : Type 0 where
  pub recording : Recording
  pub shown : IsShown holds o bytes recording remark
  pub list : o.list ≡ true → text ≡ list_text recording
  pub screen : o.list ≡ false → IsScreenText o w recording text
