-- Frames of ttyrec, one after another.
use Rattle.std.proofs.Common.{◌≡◌, ◌∙◌, ◌<◌, ◌+◌, ◌-◌, ◌^◌, ℕ, zero, suc, List, [], ◌∷◌, ◌++◌, map, length, take, drop}
use Rattle.std.proofs.Common.{get_or, length-append, nat_le, ◌&&◌, true, false, refl, sym, ap, ap₂, subst, Some}
use Rattle.std.proofs.Common.{append_assoc, arith, Option, None}
use Rattle.std.specs.Int.{to_le_bytes, from_le_bytes, w32}
use Rattle.std.proofs.Math.Numerals.{add-one}
use Rattle.std.proofs.Math.Seq.{take-append_seam, take-suc}
use Rattle.std.specs.Option.{option_map}
use Rattle.std.proofs.lemmas.Grind.{flat_map-append}
use Rattle.std.proofs.lemmas.List.{append-nil, get_or-map, length-map, length-take-le, map-append, take-append-drop}
use Rattle.std.proofs.lemmas.Bool.Decides.{nat_tests}
use Rattle.std.proofs.lemmas.Nat.{from_le_bytes-to_le_bytes_4, le_bytes_4}
use Rattle.recordings.specs.Details.{details_of, no_details}
use Rattle.recordings.specs.Recorded.{Row, IsStateAfter, said, writes}
use Rattle.recordings.specs.Ttyrec.{AreFrames, IsNoFrame, IsReadTtyrec, IsTtyrec, Piece, begins_with_frame, clock}
use Rattle.recordings.specs.Ttyrec.{piece_of, rows_after, start_of, stored, stored_one}
use Rattle.recordings.specs.declared.error.RecordingError.{RecordingError}
use Rattle.recordings.specs.declared.error.RecordingError.TheVariants.{Byte}
use Rattle.recordings.specs.declared.recording.Kind.TheVariants.{Ttyrec as AsTtyrec}
use Rattle.recordings.specs.declared.recording.Recording.{Recording}
use Rattle.recordings.specs.declared.timeline.Pace.TheVariants.{FromStart}
use Rattle.recordings.specs.declared.timeline.Timeline.{Timeline}
use Rattle.recordings.specs.declared.ttyrec.Frame.{Frame}

small-take : (n : ℕ) (bs : List ℕ) → ((i : ℕ) → get_or bs i 0 < 256) → (i : ℕ) → get_or (take n bs) i 0 < 256
small-take zero bs h i = omega arith
small-take (suc n) [] h i = omega arith
small-take (suc n) (b ∷ bs) h zero = h 0
small-take (suc n) (b ∷ bs) h (suc i) = small-take n bs (λ j. h (suc j)) i

-- four bytes at the start are a number
pub prefix_number : (bytes number after : List ℕ) (n : ℕ) → number ≡ take 4 bytes → after ≡ drop 4 bytes
    → length after + 4 ≡ length bytes → ((i : ℕ) → get_or bytes i 0 < 256) → n ≡ from_le_bytes w32 number
    → bytes ≡ to_le_bytes w32 n ++ after
prefix_number bytes number after n is_number is_after lengths small e =
    let four = ap length is_number ∙ length-take-le 4 bytes (omega (arith, lengths)) in
    let bytes_small : (i : ℕ) → get_or number i 0 < 256 =
    subst (λ bs. (i : ℕ) → get_or bs i 0 < 256) (sym is_number) (small-take 4 bytes small) in
    sym (take-append-drop 4 bytes)
    ∙ ap₂ (λ xs ys. xs ++ ys) (sym is_number ∙ sym (le_bytes_4 number n four bytes_small e)) (sym is_after)

-- one more frame is stored
pub next_stored : (bytes left after : List ℕ) (frames new : List Frame) (f : Frame)
    → bytes ≡ stored (map piece_of frames) ++ left → left ≡ stored_one (piece_of f) ++ after → new ≡ frames ++ f ∷ []
    → bytes ≡ stored (map piece_of new) ++ after
next_stored bytes left after frames new f whole first push =
    let one = flat_map-append stored_one (map piece_of frames) (piece_of f ∷ [])
    ∙ ap (λ bs. stored (map piece_of frames) ++ bs) (append-nil (stored_one (piece_of f))) in
    let all = ap (λ fs. stored (map piece_of fs)) push ∙ (ap stored (map-append piece_of frames (f ∷ [])) ∙ one) in
    whole ∙ (ap (λ bs. stored (map piece_of frames) ++ bs) first
    ∙ (sym (append_assoc (stored (map piece_of frames)) (stored_one (piece_of f)) after) ∙ ap (λ bs. bs ++ after)
    (sym all)))

-- one more frame is played
pub next_played : (frames : List Frame) (i : ℕ) (d : Frame) (start time : ℕ) (text : List ℕ) (t : Timeline)
    → i < length frames
    → time ≡ clock (piece_of (get_or frames i d)) - start → text ≡ (piece_of (get_or frames i d)).text
    → IsStateAfter FromStart (rows_after start (take i (map piece_of frames)) ++ (time, Some (writes text)) ∷ []) t
    → IsStateAfter FromStart (rows_after start (take (i + 1) (map piece_of frames))) t
next_played frames i d start time text t lt when what state_after =
    let n = length-map frames piece_of in
    let row : Piece → Row = λ p. (clock p - start, Some (writes p.text)) in
    let taken = ap (λ k. take k (map piece_of frames)) (add-one i) ∙ (take-suc (map piece_of frames) i (piece_of d)
    (omega (arith, n))
    ∙ ap (λ x. take i (map piece_of frames) ++ x ∷ []) (get_or-map piece_of frames i d (piece_of d) lt)) in
    let rows = ap (rows_after start) taken ∙ map-append row (take i (map piece_of frames)) (piece_of (get_or frames i d)
    ∷ []) in
    let last = ap₂ (λ (k : ℕ) bs. rows_after start (take i (map piece_of frames)) ++ (k, Some (writes bs)) ∷ []) when
    what in
    subst (λ (rs : List Row). IsStateAfter FromStart rs t) (last ∙ sym rows) state_after

-- ---- what is read up to a fault

plays : (bytes : List ℕ) (pieces : List Piece) (t : Timeline) (r : Recording) → bytes ≡ stored pieces
    → IsStateAfter FromStart (rows_after (start_of pieces) pieces) t → r.kind ≡ AsTtyrec → r.size ≡ None
    → details_of r ≡ no_details → r.events ≡ t.events → r.length ≡ t.time → IsTtyrec bytes r
plays bytes pieces t r whole state_after kind size own events length = record {
  pieces = pieces;
  whole = whole;
  kind = kind;
  size = size;
  own = own;
  moments = ap (λ es. said es.items) events ∙ state_after.moments;
  length = length ∙ state_after.last;
}

pub frames_read : (bytes : List ℕ) (pieces : List Piece) (cut : Option ℕ) (t : Timeline) (r : Recording)
    (fault : Option RecordingError) → AreFrames bytes pieces cut
    → IsStateAfter FromStart (rows_after (start_of pieces) pieces) t → r.kind ≡ AsTtyrec → r.size ≡ None
    → details_of r ≡ no_details → r.events ≡ t.events → r.length ≡ t.time → fault ≡ option_map Byte cut
    → IsReadTtyrec bytes r fault
frames_read bytes pieces None t r fault frames state_after kind size own events length is =
    subst (IsReadTtyrec bytes r) (sym is) (plays bytes pieces t r frames state_after kind size own events length)
frames_read bytes pieces (Some n) t r fault frames state_after kind size own events length is =
    let before = ap₂ (λ k bs. take k bs) frames.number frames.whole ∙ take-append_seam (stored pieces) frames.left in
    subst (IsReadTtyrec bytes r) (sym is) (
      (pieces, frames),
      plays (take n bytes) pieces t r before state_after kind size own events length,
    )

-- ---- whether the bytes begin with a frame

frame_parts : (bytes after : List ℕ) (p : Piece) → bytes ≡ stored_one p ++ after → p.micros < 2 ^ 32
    → length p.text < 2 ^ 32
    → (from_le_bytes w32 (take 4 (drop 4 bytes)) ≡ p.micros) × (from_le_bytes w32 (take 4 (drop 8 bytes))
    ≡ length p.text)
    × (length bytes ≡ 12 + length p.text + length after)
frame_parts bytes after p is small short = (
  ap (λ bs. from_le_bytes w32 (take 4 (drop 4 bs))) is ∙ from_le_bytes-to_le_bytes_4 p.micros small,
  ap (λ bs. from_le_bytes w32 (take 4 (drop 8 bs))) is ∙ from_le_bytes-to_le_bytes_4 (length p.text) short,
  ap length is ∙ let n = length-append p.text after in omega (arith, n),
)

test_of_frame : (bytes : List ℕ) (micros size more : ℕ) → from_le_bytes w32 (take 4 (drop 4 bytes)) ≡ micros
    → from_le_bytes w32 (take 4 (drop 8 bytes)) ≡ size → length bytes ≡ 12 + size + more
    → begins_with_frame bytes ≡ (nat_le 1 size && nat_le (micros + 1) 1000000)
test_of_frame bytes micros size more a b c =
    let long : nat_le 12 (length bytes) ≡ true = grind (arith, nat_tests) in
    let whole : nat_le (12 + size) (length bytes) ≡ true = grind (arith, nat_tests) in
    rw (a, b, long, whole) refl

pub begins_by_frame : (bytes after : List ℕ) (p : Piece) → bytes ≡ stored_one p ++ after → p.micros < 2 ^ 32
    → length p.text < 2 ^ 32
    → begins_with_frame bytes ≡ (nat_le 1 (length p.text) && nat_le (p.micros + 1) 1000000)
begins_by_frame bytes after p is small short =
    let parts = frame_parts bytes after p is small short in
    test_of_frame bytes p.micros (length p.text) (length after) parts.0 parts.1 parts.2

pub begins_by_none : (bytes : List ℕ) → IsNoFrame bytes → begins_with_frame bytes ≡ false
begins_by_none bytes none = grind (arith, nat_tests)
