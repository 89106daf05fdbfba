-- What `relay_live` returns, reads and writes.
use Rattle.std.specs.Prelude.{◌≡◌, ◌≢◌, ◌⊎◌, ℕ, ◌+◌, false, List, [], ◌∷◌, ◌++◌, Option, Ok, Err, Result}
use Rattle.std.specs.Prelude.{◌<◌, ◌≤◌, ⊤, take, IfOk}
use Rattle.std.specs.List.{concat}
use Rattle.std.specs.IoError.{error_kind}
use Rattle.std.specs.declared.io.Error.{Error}
use Rattle.std.specs.declared.io.ErrorKind.TheVariants.{Interrupted}
use Rattle.byte_streams.specs.Output.{TakesPrefix}
use Rattle.byte_streams.specs.Pump.{Pumps}
use Rattle.terminal_model.specs.Term.{Shown}
use Rattle.screen_model.specs.State.{State}
use Rattle.termrelay.specs.Hub.{HubState, as_kept}
use Rattle.relay_theorem.specs.History.{Story}
use Rattle.relay_streams.specs.declared.live.TheConstants.{FAREWELL}
use Rattle.relay_streams.specs.declared.error.RelayError.{RelayError}
use Rattle.relay_streams.specs.declared.error.RelayError.TheVariants.{Read, Write, Memory, TooManyReads, FrameTooLong}
use Rattle.charset_filter.specs.declared.lines.LineDrawing.{LineDrawing}
use Rattle.charset_filter.specs.declared.lines.LineDrawing.TheVariants.{Kept, Drawn}
use Rattle.relay_streams.specs.Fill.{max_reads}
use Rattle.relay_streams.specs.Frames.{state_after}
use Rattle.charset_filter.specs.Lines.{all_passed, passed}
use Rattle.relay_streams.specs.Sessions.{IsRelayed, has_overlong, AreRelayed, EndsOverlong, WantsMemory}
use Rattle.relay_streams.specs.Turns.{MayWantMemory, Turned}
use Rattle.relay_streams.specs.Updates.{cut_pieces, last_end}

-- the size of the buffer of a live read, in bytes
abbrev pub live_len : ℕ
live_len = 65536

-- ---- reading

-- `Tries step room s n answer t`: n reads from the source s, into a buffer of `room` bytes, until one isn't
-- interrupted. That read gives bytes (none at the input's end) or fails. Or no further read may be made. The source
-- is then t.
pub data Tries {S : Type 0} (step : S → ℕ → Result (List ℕ) Error → S → Type 0) (room : ℕ)
    : S → ℕ → Result (List ℕ) RelayError → S → Type 0 where
  gave : {s t : S} {bytes : List ℕ} → step s room (Ok bytes) t → Tries step room s 1 (Ok bytes) t
  failed : {s t : S} {e : Error} → step s room (Err e) t → error_kind e ≢ Interrupted
      → Tries step room s 1 (Err Read) t
  stopped : {s : S} → Tries step room s 0 (Err TooManyReads) s
  again : {s t : S} {n : ℕ} {answer : Result (List ℕ) RelayError} (m : S) (e : Error) → step s room (Err e) m
      → error_kind e ≡ Interrupted → Tries step room m n answer t → Tries step room s (1 + n) answer t

-- the number of reads made in all: `max_reads` if the result is `TooManyReads`, else at most `max_reads`
abbrev pub CountsReads : {A : Type 0} → Result A RelayError → ℕ → Type 0
CountsReads (Err TooManyReads) count = count ≡ max_reads
CountsReads answer count = count ≤ max_reads

-- the bytes that one read gave, by a function's result and what it leaves in the buffer
abbrev pub read_as : Result ℕ RelayError → List ℕ → Result (List ℕ) RelayError
read_as (Ok n) room = Ok (take n room)
read_as (Err e) room = Err e

-- One read that isn't interrupted was made, after `before` earlier reads.
pub record TriesOnce {S : Type 0} (step : S → ℕ → Result (List ℕ) Error → S → Type 0) (old : S) (room before : ℕ)
    (answer : Result ℕ RelayError) (new : S) (piece : List ℕ) (after : ℕ) : Type 0 where
  pub made : ℕ
  pub tries : Tries step room old made (read_as answer piece) new
  pub counted : after ≡ before + made
  pub most : CountsReads answer after
  pub within : IfOk answer (λ n. n ≤ room)
  pub some : IfOk answer (λ n. 0 < made)

-- `Listens step room s n pieces t`: n reads from the source s give these pieces, each by a read that gives something.
-- The source is then t.
pub data Listens {S : Type 0} (step : S → ℕ → Result (List ℕ) Error → S → Type 0) (room : ℕ) (s : S)
    : ℕ → List (List ℕ) → S → Type 0 where
  begun : Listens step room s 0 [] s
  more : {t : S} {n k : ℕ} {pieces : List (List ℕ)} {bytes : List ℕ} (m : S) → Listens step room s n pieces m
      → Tries step room m k (Ok bytes) t → bytes ≢ [] → Listens step room s (n + k) (pieces ++ bytes ∷ []) t

-- ---- the end

-- the bytes that end all that a program may have left on (the law `FarewellEndsAll`)
abbrev pub farewell : List ℕ
farewell = FAREWELL.now

-- these pieces of an output, and at its end the farewell
abbrev pub ended : List (List ℕ) → List (List ℕ)
ended pieces = pieces ++ farewell ∷ []

-- `Hears step room s n pieces t`: n reads from the source s give bytes that are cut into these pieces, those of each
-- read at the last end of an update in them. The source is then t. At the input's end the farewell follows.
pub data Hears {S : Type 0} (step : S → ℕ → Result (List ℕ) Error → S → Type 0) (room : ℕ) (s : S)
    : ℕ → List (List ℕ) → S → Type 0 where
  heard : {t : S} {n : ℕ} (pieces : List (List ℕ)) → Listens step room s n pieces t
      → Hears step room s n (cut_pieces pieces) t
  -- the rest of the last piece comes next
  partly : {t : S} {n : ℕ} (pieces : List (List ℕ)) (piece : List ℕ) → Listens step room s n (pieces ++ piece ∷ []) t
      → 0 < last_end (concat pieces) piece
      → Hears step room s n (cut_pieces pieces ++ take (last_end (concat pieces) piece) piece ∷ []) t
  at_end : {t : S} {n k : ℕ} (m : S) (pieces : List (List ℕ)) → Listens step room s n pieces m
      → Tries step room m k (Ok []) t → Hears step room s (n + k) (ended (cut_pieces pieces)) t

-- ---- writing

-- `SendsFlushed takes flushes w texts answer v`: each of these texts is pumped to the writer w, which is flushed
-- after each. `answer` is the result of the last of these calls, and v is the writer after it. All calls before it
-- succeed.
pub data SendsFlushed {W : Type 0} (takes : W → List ℕ → Result ℕ Error → W → Type 0)
    (flushes : W → Result (Unit {0}) Error → W → Type 0) (w : W)
    : List (List ℕ) → Result (Unit {0}) Error → W → Type 0 where
  none : SendsFlushed takes flushes w [] (Ok tt) w
  sent : {v : W} {text : List ℕ} {texts : List (List ℕ)} {n : ℕ} {answer : Result (Unit {0}) Error} (m k : W)
      → SendsFlushed takes flushes w texts (Ok tt) m → Pumps takes m text (Ok tt) n k → flushes k answer v
      → SendsFlushed takes flushes w (texts ++ text ∷ []) answer v
  broken : {v : W} {text : List ℕ} {texts : List (List ℕ)} {n : ℕ} {e : Error} (m : W)
      → SendsFlushed takes flushes w texts (Ok tt) m → Pumps takes m text (Err e) n v
      → SendsFlushed takes flushes w (texts ++ text ∷ []) (Err e) v

-- ---- both

-- A piece may need memory if it passes the filter and is fed after these pieces. Where lines are drawn this is always
-- so, since the filter's output may need some.
abbrev pub WantsRoom : LineDrawing → ℕ → ℕ → List (List ℕ) → List ℕ → Type 0
WantsRoom Kept rows cols pieces piece = WantsMemory rows cols pieces piece
WantsRoom Drawn rows cols pieces piece = ⊤

-- A turn with a piece that passed may need memory: one of its events may take some, or a frame is made after it.
-- Where lines are drawn this is always so, since there must be room for the filter's output.
abbrev pub MayWantRoom : LineDrawing → ℕ → ℕ → List (List ℕ) → List ℕ → Option Shown → Type 0
MayWantRoom Kept rows cols fed piece base = MayWantMemory rows cols fed piece base
MayWantRoom Drawn rows cols fed piece base = ⊤

-- A turn feeds this piece after these other pieces, where the client has this base and its writer is w. Then the
-- writer is flushed. Both have this result; the writer is then v, and the hub g.
abbrev pub PassedOn : LineDrawing → {W : Type 0} → (W → List ℕ → Result ℕ Error → W → Type 0)
    → (W → Result (Unit {0}) Error → W → Type 0) → ℕ → ℕ → List (List ℕ) → List ℕ → Option Shown → ℕ → W
    → Result (Unit {0}) RelayError → W → HubState as_kept → Type 0
PassedOn lines {W} takes flushes rows cols fed piece base key w (Ok u) v g =
    (k : W) × Turned takes rows cols fed piece base key w (Ok u) k g × flushes k (Ok tt) v
PassedOn lines takes flushes rows cols fed piece base key w (Err Memory) v g =
    MayWantRoom lines rows cols fed piece base × (v ≡ w)
PassedOn lines takes flushes rows cols fed piece base key w (Err FrameTooLong) v g =
    Turned takes rows cols fed piece base key w (Err FrameTooLong) v g
PassedOn lines {W} takes flushes rows cols fed piece base key w (Err Write) v g =
    Turned takes rows cols fed piece base key w (Err Write) v g
    ⊎ ((k : W) × (e : Error) × Turned takes rows cols fed piece base key w (Ok tt) k g × flushes k (Err e) v)
PassedOn lines takes flushes rows cols fed piece base key w (Err Read) v g = ⊥
PassedOn lines takes flushes rows cols fed piece base key w (Err TooManyReads) v g = ⊥

-- The same for a part of a piece that follows these bytes through the filter. If the part is empty, nothing is done;
-- the hub was h.
abbrev pub PassedPart : LineDrawing → {W : Type 0} → (W → List ℕ → Result ℕ Error → W → Type 0)
    → (W → Result (Unit {0}) Error → W → Type 0) → ℕ → ℕ → List (List ℕ) → List ℕ → List ℕ → Option Shown → ℕ → W
    → HubState as_kept → Result (Unit {0}) RelayError → W → HubState as_kept → Type 0
PassedPart lines takes flushes rows cols fed past [] base key w h answer v g = (answer ≡ Ok tt) × (v ≡ w) × (g ≡ h)
PassedPart lines takes flushes rows cols fed past (b ∷ bs) base key w h answer v g =
    PassedOn lines takes flushes rows cols fed (passed lines past (b ∷ bs)) base key w answer v g

-- Pieces are read from a source, and each is cut at the last end of an update in it. Its parts pass the filter. The
-- frame that is due after each part is sent to the writer and flushed before the next piece is read. At the end the
-- farewell is fed. The constructors say which result this has, and how it leaves the source and the writer.
pub data StreamsThrough (lines : LineDrawing) {S W : Type 0} (gives : S → ℕ → Result (List ℕ) Error → S → Type 0)
    (takes : W → List ℕ → Result ℕ Error → W → Type 0) (flushes : W → Result (Unit {0}) Error → W → Type 0)
    (rows cols : ℕ) (s : S) (w : W) : Result (Unit {0}) RelayError → S → W → Type 0 where
  -- a read failed, or there were too many reads: the frames of the pieces were sent
  unread : {t : S} {v : W} {n k : ℕ} (m : S) (pieces frames : List (List ℕ)) (e : RelayError)
      → Listens gives live_len s n pieces m → Tries gives live_len m k (Err e) t
      → AreRelayed rows cols (all_passed lines (cut_pieces pieces)) frames
      → SendsFlushed takes flushes w frames (Ok tt) v → CountsReads {A = Unit {0}} (Err e) (n + k)
      → StreamsThrough lines gives takes flushes rows cols s w (Err e) t v
  -- there was no memory for the last piece or its frame, which may need some: the frames before it were sent
  unmade : {t : S} {v : W} {n : ℕ} (pieces frames : List (List ℕ)) (piece : List ℕ)
      → Hears gives live_len s n (pieces ++ piece ∷ []) t → AreRelayed rows cols (all_passed lines pieces) frames
      → WantsRoom lines rows cols pieces piece → SendsFlushed takes flushes w frames (Ok tt) v → n ≤ max_reads
      → StreamsThrough lines gives takes flushes rows cols s w (Err Memory) t v
  -- the frame of the last piece would be too long: the frames before it were sent
  overlong : {t : S} {v : W} {n : ℕ} (pieces frames : List (List ℕ)) (piece : List ℕ)
      → Hears gives live_len s n (pieces ++ piece ∷ []) t → AreRelayed rows cols (all_passed lines pieces) frames
      → EndsOverlong rows cols (all_passed lines (pieces ++ piece ∷ [])) → SendsFlushed takes flushes w frames (Ok tt) v
      → n ≤ max_reads → StreamsThrough lines gives takes flushes rows cols s w (Err FrameTooLong) t v
  -- a write of the last piece's frame failed or took nothing, or the flush after it failed
  stopped : {t : S} {v : W} {n : ℕ} (pieces frames : List (List ℕ)) (e : Error)
      → Hears gives live_len s n pieces t → AreRelayed rows cols (all_passed lines pieces) frames
      → SendsFlushed takes flushes w frames (Err e) v → n ≤ max_reads
      → StreamsThrough lines gives takes flushes rows cols s w (Err Write) t v
  -- the input was read to its end, the farewell was fed, and all frames were sent
  finished : {t : S} {v : W} {n k : ℕ} (m : S) (pieces frames : List (List ℕ)) → Listens gives live_len s n pieces m
      → Tries gives live_len m k (Ok []) t → AreRelayed rows cols (all_passed lines (ended (cut_pieces pieces))) frames
      → SendsFlushed takes flushes w frames (Ok tt) v → n + k ≤ max_reads
      → StreamsThrough lines gives takes flushes rows cols s w (Ok tt) t v

-- The result, and how the source and the writer are left. Either there was no memory for the screen, and nothing is
-- read or written; or pieces were read and frames sent.
pub data RelaysThrough (lines : LineDrawing) {S W : Type 0} (gives : S → ℕ → Result (List ℕ) Error → S → Type 0)
    (takes : W → List ℕ → Result ℕ Error → W → Type 0) (flushes : W → Result (Unit {0}) Error → W → Type 0)
    (rows cols : ℕ) (s : S) (w : W) : Result (Unit {0}) RelayError → S → W → Type 0 where
  refused : RelaysThrough lines gives takes flushes rows cols s w (Err Memory) s w
  streamed : {t : S} {v : W} {answer : Result (Unit {0}) RelayError}
      → StreamsThrough lines gives takes flushes rows cols s w answer t v
      → RelaysThrough lines gives takes flushes rows cols s w answer t v

-- the same where each piece is fed as it was read
abbrev pub RelaysLive : {S W : Type 0} → (S → ℕ → Result (List ℕ) Error → S → Type 0)
    → (W → List ℕ → Result ℕ Error → W → Type 0) → (W → Result (Unit {0}) Error → W → Type 0) → ℕ → ℕ → S → W
    → Result (Unit {0}) RelayError → S → W → Type 0
RelaysLive gives takes flushes rows cols s w answer t v =
    RelaysThrough Kept gives takes flushes rows cols s w answer t v

-- ---- what comes out

-- the screen that a program's output makes, with lines drawn or kept, after the modes and the update that it left on
-- are ended
abbrev pub screen_at_end : LineDrawing → ℕ → ℕ → List ℕ → State
screen_at_end lines rows cols input = state_after rows cols (passed lines [] (input ++ farewell))

-- The text is what is pumped to a client to which the whole input is relayed, in some pieces, with each frame that is
-- due.
pub record IsLiveText (rows cols : ℕ) (input text : List ℕ) : Type 0 where
  pub pieces : List (List ℕ)
  pub whole : concat pieces ≡ input
  pub key : ℕ
  pub story : Story
  pub is : IsRelayed rows cols key pieces story
  pub fits : has_overlong story ≡ false
  pub pumped : story.session.pumped ≡ text

-- A writer has taken a prefix of what is pumped to a client to which the first bytes of the input are relayed, in
-- some pieces.
pub record TakesLive (rows cols : ℕ) (input : List ℕ) (before after : Option (List ℕ)) : Type 0 where
  pub pieces : List (List ℕ)
  pub rest : List ℕ
  pub cut : input ≡ concat pieces ++ rest
  pub key : ℕ
  pub story : Story
  pub is : IsRelayed rows cols key pieces story
  pub took : TakesPrefix before after story.session.pumped
