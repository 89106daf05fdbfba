-- Why no text of a recording is printed.
use Rattle.std.specs.Prelude.{◌≡◌, ◌⊎◌, ℕ, true, false, List, Option, Some, None}
use Rattle.recordings.specs.Kinds.{IsPacked, IsUnreadOfKind, kind_taken, packer_met}
use Rattle.recordings.specs.Recorded.{Moment, said}
use Rattle.recordings.specs.declared.error.RecordingError.{RecordingError}
use Rattle.recordings.specs.declared.recording.Kind.{Kind}
use Rattle.recordings.specs.declared.recording.Reading.{Reading}
use Rattle.recordings.specs.declared.recording.Recording.{Recording}
use Rattle.screentext_command.specs.Asked.{Origin, Wish}
use Rattle.screentext_command.specs.Limits.{are_within}
use Rattle.screentext_command.specs.Moments.{AreMoments, is_late, time_meant}
use Rattle.screentext_command.specs.Reads.{IsPart, IsRead, IsShown, IsTiming, flaw_of, seems_asciicast}
use Rattle.screentext_command.specs.declared.error.TextError.{TextError}
use Rattle.screentext_command.specs.declared.error.TextError.TheVariants as error
use Rattle.screentext_command.specs.declared.source.Moments.{Moments}
use Rattle.screentext_command.specs.declared.words.Form.{Form}
use Rattle.screentext_command.specs.declared.words.Form.TheVariants.{Film, Player, Still}

-- nothing is read of bytes with this kind and these lines of a timing file: they are compressed, they have no header,
-- or the kind needs a timing file
abbrev pub IsUnreadAs : Option Kind → Option (List ℕ) → List ℕ → RecordingError → Type 0
IsUnreadAs kind timing bytes e =
    IsPacked (packer_met kind timing bytes) e ⊎ IsUnreadOfKind (kind_taken kind timing bytes) bytes timing e

-- there is an argument, and it means no moment
abbrev pub MeansNone : List Moment → Option (List ℕ) → Type 0
MeansNone moments None = ⊥
MeansNone moments (Some word) = time_meant moments word ≡ None

-- why an argument has no moment: an allocation failed, or it means no moment
abbrev pub IsNoMoment : List Moment → Option (List ℕ) → TextError → Type 0
IsNoMoment moments word e = (e ≡ error.Memory) ⊎ ((e ≡ error.Marker) × MeansNone moments word)

-- why there is no text in this form, but for a failed allocation: it would be too long, or a film would begin after
-- its end
abbrev pub IsUnfit : Form → Recording → Moments → TextError → Type 0
IsUnfit (Still picture) r m e = ⊥
IsUnfit Film r m e = (e ≡ error.Film) ⊎ ((e ≡ error.Late) × (is_late r m ≡ true))
IsUnfit Player r m e = e ≡ error.Player

-- Why there is no text of a recording that is shown, but for a failed allocation.
pub data HasNoText (o : Origin) (w : Wish) (r : Recording) : TextError → Type 0 where
  -- an argument means no moment of it
  no_moment : MeansNone (said r.events.items) o.moment
      ⊎ (MeansNone (said r.events.items) o.since
      ⊎ (MeansNone (said r.events.items) o.from ⊎ MeansNone (said r.events.items) o.poster))
      → HasNoText o w r error.Marker
  -- the film or the page would be too long, or the film would begin after its end
  unfit : (e : TextError) (m : Moments) → AreMoments (said r.events.items) o m → o.list ≡ false
      → IsUnfit w.form r m e → HasNoText o w r e

-- Why no text of these bytes is printed: an allocation failed, or this is the first reason that holds.
pub data IsMissing (holds : List ℕ → List ℕ → Type 0) (lacks : List ℕ → Type 0) (o : Origin) (w : Wish)
    (bytes : List ℕ) : TextError → Type 0 where
  -- an allocation failed
  refused : IsMissing holds lacks o w bytes error.Memory
  -- the arguments name a timing file that can't be read
  no_file : (path : List ℕ) → o.timing ≡ Some path → lacks path → IsMissing holds lacks o w bytes error.File
  -- nothing is read of the bytes
  unread : (timing : Option (List ℕ)) (e : RecordingError) → IsTiming holds o.timing timing
      → IsUnreadAs o.kind timing bytes e → IsMissing holds lacks o w bytes (error.Recording e)
  -- for this reason the recording isn't whole, and the arguments ask for all of it
  cut : (r : Reading) (e : RecordingError) → IsRead holds o bytes r → o.strict ≡ true
      → flaw_of (seems_asciicast o bytes) r.recording.kind r.fault ≡ Some e → IsMissing holds lacks o w bytes (error.Recording e)
  -- a size in what is read has too many cells
  large : (r : Recording) (remark : Option TextError) → IsPart holds o bytes r remark
      → are_within o.most_cells r ≡ false → IsMissing holds lacks o w bytes (error.Cells o.most_cells)
  -- there is no text of the recording that is shown
  no_text : (e : TextError) (r : Recording) (remark : Option TextError) → IsShown holds o bytes r remark
      → HasNoText o w r e → IsMissing holds lacks o w bytes e
