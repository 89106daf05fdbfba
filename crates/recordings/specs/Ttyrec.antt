-- Ttyrecs: frames with a header of 12 bytes each.
use Rattle.std.specs.Prelude.{◌≡◌, ℕ, ◌+◌, ◌-◌, ◌*◌, ◌<◌, nat_le, ◌&&◌, Bool, List, [], ◌∷◌, ◌++◌, map, take, drop}
use Rattle.std.specs.Prelude.{length, Option, Some, None, ◌⊎◌}
use Rattle.std.specs.Int.{to_le_bytes, from_le_bytes, w32}
use Rattle.std.specs.List.{flat_map}
use Rattle.recordings.specs.Details.{details_of, no_details}
use Rattle.recordings.specs.Recorded.{Row, ended, said, reported, writes}
use Rattle.recordings.specs.declared.error.RecordingError.{RecordingError}
use Rattle.recordings.specs.declared.error.RecordingError.TheVariants as error
use Rattle.recordings.specs.declared.recording.Kind.TheVariants.{Ttyrec as AsTtyrec}
use Rattle.recordings.specs.declared.recording.Recording.{Recording}
use Rattle.recordings.specs.declared.timeline.Pace.TheVariants.{FromStart}
use Rattle.recordings.specs.declared.ttyrec.Frame.{Frame}

-- bytes that were written at once, and when
pub record Piece : Type 0 where
  pub seconds : ℕ
  pub micros : ℕ
  pub text : List ℕ

abbrev pub piece_of : Frame → Piece
piece_of f = record { seconds = f.seconds; micros = f.micros; text = f.bytes.now }

-- seconds, microseconds and a length, in four bytes each with the lowest first, and then as many bytes
abbrev pub stored_one : Piece → List ℕ
stored_one p = to_le_bytes w32 p.seconds ++ (to_le_bytes w32 p.micros ++ (to_le_bytes w32 (length p.text) ++ p.text))

abbrev pub stored : List Piece → List ℕ
stored = flat_map stored_one

-- in microseconds
abbrev pub clock : Piece → ℕ
clock p = p.seconds * 1000000 + p.micros

abbrev pub start_of : List Piece → ℕ
start_of [] = 0
start_of (p ∷ ps) = clock p

-- each is output, at a time that counts from the start
abbrev pub rows_after : ℕ → List Piece → List Row
rows_after start ps = map (λ p. (clock p - start, Some (writes p.text))) ps

-- the bytes are frames, and the events are what they say
pub record IsTtyrec (bytes : List ℕ) (r : Recording) : Type 0 where
  pub pieces : List Piece
  pub whole : bytes ≡ stored pieces
  pub kind : r.kind ≡ AsTtyrec
  pub size : r.size ≡ None
  pub own : details_of r ≡ no_details
  pub moments : said r.events.items ≡ reported FromStart 0 (rows_after (start_of pieces) pieces)
  pub length : r.length ≡ ended FromStart 0 (rows_after (start_of pieces) pieces)

-- the header isn't whole, or what it says comes isn't there
abbrev pub IsNoFrame : List ℕ → Type 0
IsNoFrame bytes = (length bytes < 12) ⊎ (length bytes < 12 + from_le_bytes w32 (take 4 (drop 8 bytes)))

-- these frames, and then, from byte n on, what begins with none
pub record IsCutAfter (pieces : List Piece) (bytes : List ℕ) (n : ℕ) : Type 0 where
  pub left : List ℕ
  pub whole : bytes ≡ stored pieces ++ left
  pub number : n ≡ length (stored pieces)
  pub none : IsNoFrame left

abbrev pub IsCutAt : List ℕ → ℕ → Type 0
IsCutAt bytes n = (pieces : List Piece) × IsCutAfter pieces bytes n

abbrev pub IsCut : List ℕ → RecordingError → Type 0
IsCut bytes (error.Byte n) = IsCutAt bytes n
IsCut bytes _ = ⊥

-- the frames of the bytes: all, or those before the first that isn't whole
abbrev pub AreFrames : List ℕ → List Piece → Option ℕ → Type 0
AreFrames bytes pieces None = bytes ≡ stored pieces
AreFrames bytes pieces (Some n) = IsCutAfter pieces bytes n

-- what is read: with a fault what the bytes before it say
abbrev pub IsReadTtyrec : List ℕ → Recording → Option RecordingError → Type 0
IsReadTtyrec bytes r None = IsTtyrec bytes r
IsReadTtyrec bytes r (Some (error.Byte n)) = IsCutAt bytes n × IsTtyrec (take n bytes) r
IsReadTtyrec bytes r _ = ⊥

-- a whole frame that isn't empty, and whose microseconds are less than a second
abbrev pub begins_with_frame : List ℕ → Bool
begins_with_frame bytes =
    let size = from_le_bytes w32 (take 4 (drop 8 bytes)) in
    (nat_le 12 (length bytes) && nat_le (12 + size) (length bytes))
    && (nat_le 1 size && nat_le (from_le_bytes w32 (take 4 (drop 4 bytes)) + 1) 1000000)
