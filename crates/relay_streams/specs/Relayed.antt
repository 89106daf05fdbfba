-- What `relay` returns, reads and writes.
use Rattle.std.specs.Prelude.{ℕ, List, [], ◌∷◌, ◌++◌, Ok, Err, Result}
use Rattle.std.specs.declared.io.Error.{Error}
use Rattle.relay_streams.specs.declared.error.RelayError.{RelayError}
use Rattle.relay_streams.specs.declared.error.RelayError.TheVariants.{Write, Memory, FrameTooLong}
use Rattle.relay_streams.specs.Pieces.{piece_len, Begun, Drained}
use Rattle.relay_streams.specs.Sessions.{AreRelayed, EndsOverlong, WantsMemory}
use Rattle.byte_streams.specs.Sent.{Sends}

-- Pieces are read from a source, and the frame that is due after each is sent to the writer before the next piece is
-- read. The constructors say which result this has, and how it leaves the source and the writer.
pub data Streams {S W : Type 0} (gives : S → ℕ → Result (List ℕ) Error → S → Type 0)
    (takes : W → List ℕ → Result ℕ Error → W → Type 0) (rows cols : ℕ) (s : S) (w : W)
    : Result (Unit {0}) RelayError → S → W → Type 0 where
  -- a read failed, or there were too many reads: the frames of the full pieces were sent
  unread : {t : S} {v : W} (pieces frames : List (List ℕ)) (rest : List ℕ) (e : RelayError)
      → Drained gives piece_len s (pieces ++ rest ∷ []) (Err e) t → AreRelayed rows cols pieces frames
      → Sends takes w frames (Ok tt) v → Streams gives takes rows cols s w (Err e) t v
  -- there was no memory for the last piece or its frame, which may need some: the frames before it were sent
  unmade : {t : S} {v : W} (pieces frames : List (List ℕ)) (piece : List ℕ)
      → Begun gives piece_len s (pieces ++ piece ∷ []) t → AreRelayed rows cols pieces frames
      → WantsMemory rows cols pieces piece → Sends takes w frames (Ok tt) v
      → Streams gives takes rows cols s w (Err Memory) t v
  -- the frame of the last piece would be too long: the frames before it were sent
  overlong : {t : S} {v : W} (pieces frames : List (List ℕ)) (piece : List ℕ)
      → Begun gives piece_len s (pieces ++ piece ∷ []) t → AreRelayed rows cols pieces frames
      → EndsOverlong rows cols (pieces ++ piece ∷ []) → Sends takes w frames (Ok tt) v
      → Streams gives takes rows cols s w (Err FrameTooLong) t v
  -- a write of the last piece's frame failed or took nothing
  stopped : {t : S} {v : W} (pieces frames : List (List ℕ)) (e : Error) → Begun gives piece_len s pieces t
      → AreRelayed rows cols pieces frames → Sends takes w frames (Err e) v
      → Streams gives takes rows cols s w (Err Write) t v
  -- the input was read to its end, and all frames were sent
  sent : {t : S} {v : W} (pieces frames : List (List ℕ)) → Drained gives piece_len s pieces (Ok tt) t
      → AreRelayed rows cols pieces frames → Sends takes w frames (Ok tt) v
      → Streams gives takes rows cols s w (Ok tt) t v

-- The result of `relay`, and how it leaves the source and the writer.
pub data Relays {S W : Type 0} (gives : S → ℕ → Result (List ℕ) Error → S → Type 0)
    (takes : W → List ℕ → Result ℕ Error → W → Type 0) (flushes : W → Result (Unit {0}) Error → W → Type 0)
    (rows cols : ℕ) (s : S) (w : W) : Result (Unit {0}) RelayError → S → W → Type 0 where
  -- there was no memory for the screen: nothing is read or written
  refused : Relays gives takes flushes rows cols s w (Err Memory) s w
  -- a fault came while pieces were read and frames sent
  broken : {t : S} {v : W} (e : RelayError) → Streams gives takes rows cols s w (Err e) t v
      → Relays gives takes flushes rows cols s w (Err e) t v
  -- the flush failed
  unflushed : {t : S} {v : W} (m : W) (e : Error) → Streams gives takes rows cols s w (Ok tt) t m
      → flushes m (Err e) v → Relays gives takes flushes rows cols s w (Err Write) t v
  -- all went well
  written : {t : S} {v : W} (m : W) → Streams gives takes rows cols s w (Ok tt) t m
      → flushes m (Ok tt) v → Relays gives takes flushes rows cols s w (Ok tt) t v
