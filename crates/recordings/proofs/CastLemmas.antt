-- What is read of an asciicast, up to a fault.
use Rattle.std.proofs.Common.{◌≡◌, ◌∙◌, ℕ, List, sym, ap, subst, Option, Some, None}
use Rattle.std.specs.Prelude.{IsSomeAnd}
use Rattle.std.specs.Option.{option_map}
use Rattle.recordings.specs.Asciicast.{AreRead, AreReadLines, IsReadOf, body, head, header_in, header_said}
use Rattle.recordings.specs.Asciicast.{header_details}
use Rattle.recordings.specs.Details.{Details, details_of, details_said}
use Rattle.recordings.specs.Recorded.{said, size_said}
use Rattle.recordings.specs.declared.asciicast.Header.{Header}
use Rattle.recordings.specs.declared.error.RecordingError.{RecordingError}
use Rattle.recordings.specs.declared.error.RecordingError.TheVariants.{Line}
use Rattle.recordings.specs.declared.recording.Kind.TheVariants.{Asciicast}
use Rattle.recordings.specs.declared.recording.Recording.{Recording}
use Rattle.recordings.specs.declared.timeline.Timeline.{Timeline}

-- what the lines say
read_of : (h : Header) (details : Details) (lines : List (List ℕ)) (t : Timeline) (n : Option ℕ) (r : Recording)
    → AreRead h.pace lines t n → r.kind ≡ Asciicast → r.size ≡ Some h.size → details_of r ≡ details
    → r.events ≡ t.events → r.length ≡ t.time
    → IsReadOf (header_said h) details lines r (option_map Line n)
read_of h details lines t None r read kind size own events length = record {
  kind = kind;
  size = ap (option_map size_said) size;
  own = own;
  events = read.0;
  moments = ap (λ es. said es.items) events ∙ read.1.moments;
  length = length ∙ read.1.last;
}
read_of h details lines t (Some n) r read kind size own events length = (
  read.0,
  record {
    kind = kind;
    size = ap (option_map size_said) size;
    own = own;
    events = read.0.fine;
    moments = ap (λ es. said es.items) events ∙ read.1.moments;
    length = length ∙ read.1.last;
  },
)

pub is_read : (text : List ℕ) (h : Header) (lines : List (List ℕ)) (t : Timeline) (n : Option ℕ) (r : Recording)
    (fault : Option RecordingError) → Some (header_said h) ≡ header_in (head text) → header_details h
    ≡ details_said (head text)
    → lines ≡ body text → AreRead h.pace lines t n → r.kind ≡ Asciicast → r.size ≡ Some h.size
    → details_of r ≡ header_details h → r.events ≡ t.events → r.length ≡ t.time → fault ≡ option_map Line n
    → AreReadLines text r fault
is_read text h lines t n r fault header details body_is read kind size own events length fault_is =
    let said = read_of h (details_said (head text)) lines t n r read kind size (own ∙ details) events
    length in
    let here = subst (λ (o : Option RecordingError). IsReadOf (header_said h) (details_said (head text)) lines r o)
    (sym fault_is) said in
    let all = subst (λ (ls : List (List ℕ)). IsReadOf (header_said h) (details_said (head text)) ls r fault) body_is
    here in
    subst (λ o. IsSomeAnd o (λ header. IsReadOf header (details_said (head text)) (body text) r fault)) header all
