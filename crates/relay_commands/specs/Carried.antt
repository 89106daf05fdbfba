-- A program's screen that is carried to a view and printed.
use Rattle.std.specs.Prelude.{◌≡◌, ℕ, false, true, List, [], ◌∷◌, ◌++◌, Option, Ok, Err, Result, OnOk}
use Rattle.std.specs.List.{concat}
use Rattle.std.specs.Io.KnownBytes.{Appends}
use Rattle.std.specs.declared.io.Error.{Error}
use Rattle.terminal_model.specs.Term.{Shown}
use Rattle.screen_model.specs.Shown.{shown_state}
use Rattle.termview.specs.declared.view.View.{View}
use Rattle.termview.specs.declared.until_cleared.UntilCleared.{UntilCleared}
use Rattle.termrelay.specs.Frame.{is_unsure}
use Rattle.termrelay.specs.Hub.{HubState, as_kept}
use Rattle.relay_theorem.specs.History.{Story}
use Rattle.relay_streams.specs.declared.error.RelayError.{RelayError}
use Rattle.relay_streams.specs.declared.error.RelayError.TheVariants.{Read, Write, Memory, TooManyReads, FrameTooLong}
use Rattle.charset_filter.specs.declared.lines.LineDrawing.{LineDrawing}
use Rattle.relay_streams.specs.Frames.{answered, asked, is_overlong}
use Rattle.relay_streams.specs.Led.{Led}
use Rattle.charset_filter.specs.Lines.{HasPassed, all_passed, passed}
use Rattle.relay_streams.specs.Pieces.{Begun, Drained, piece_len, pieces_of}
use Rattle.relay_streams.specs.Sessions.{AreRelayed, EndsOverlong, IsRelayed, has_overlong}
use Rattle.relay_streams.specs.Shown.{IsTextShown, Prints, screen_text, sized}
use Rattle.relay_streams.specs.Live.{MayWantRoom, WantsRoom, ended, screen_at_end}
use Rattle.relay_streams.specs.Turns.{Relaying}
use Rattle.relay_commands.specs.Ends.{Sink, Source}
use Rattle.relay_commands.specs.declared.far_screen.FilteredHub.{FilteredHub}

-- the view was given these bytes, in some pieces
pub record Carries (old : View UntilCleared) (bytes : List ℕ) (new : View UntilCleared) : Type 0 where
  pub pieces : List (List ℕ)
  pub joined : concat pieces ≡ bytes
  pub led : Led old pieces new

-- `text` is what is pumped to a client where these pieces are fed
pub record IsPumped (rows cols : ℕ) (pieces : List (List ℕ)) (text : List ℕ) : Type 0 where
  pub key : ℕ
  pub story : Story
  pub is : IsRelayed rows cols key pieces story
  pub fits : has_overlong story ≡ false
  pub pumped : story.session.pumped ≡ text

-- `text` is what is relayed of a program's output and of the farewell: a frame after each 4,096 bytes, and one at the
-- end. Each piece is fed unchanged, or the filter's output for it is fed.
abbrev pub IsRelayedThrough : LineDrawing → ℕ → ℕ → List ℕ → List ℕ → Type 0
IsRelayedThrough lines rows cols input text = IsPumped rows cols (all_passed lines (ended (pieces_of input))) text

-- A fresh view of this size was given, in some pieces, what is relayed of a program's output and of the farewell.
-- `text` is the text of what it shows.
pub record IsFarText (lines : LineDrawing) (rows cols : ℕ) (input text : List ℕ) : Type 0 where
  pub pieces : List (List ℕ)
  pub relayed : IsRelayedThrough lines rows cols input (concat pieces)
  pub shown : IsTextShown (sized rows cols) pieces text

-- The text that is appended to a writer is that of the screen that a program's output makes, after the modes and the
-- update that it left on are ended. This holds unless that screen shows U+FE0F.
abbrev pub AppendsScreen : LineDrawing → ℕ → ℕ → List ℕ → Option (List ℕ) → Option (List ℕ) → Type 0
AppendsScreen lines rows cols input old new =
    is_unsure (sized rows cols) (shown_state (screen_at_end lines rows cols input)) ≡ false
    → Appends old new (screen_text (sized rows cols) (shown_state (screen_at_end lines rows cols input)).cell)

-- A turn feeds this piece after these other pieces, where the client has this base, and has this result. The frame
-- reached the view, or there was no memory where some may be needed, or the frame would be too long.
abbrev pub Carried : LineDrawing → ℕ → ℕ → List (List ℕ) → List ℕ → Option Shown → ℕ → View UntilCleared
    → Result (Unit {0}) RelayError → View UntilCleared → HubState as_kept → Type 0
Carried lines rows cols past piece base key old (Ok u) new g =
    (is_overlong (answered rows cols (concat (past ++ piece ∷ [])) base) ≡ false)
    × Carries old (asked rows cols (concat (past ++ piece ∷ [])) base).owed new
    × Relaying rows cols (past ++ piece ∷ []) (asked rows cols (concat (past ++ piece ∷ [])) base).base g key
Carried lines rows cols past piece base key old (Err Memory) new g = MayWantRoom lines rows cols past piece base
Carried lines rows cols past piece base key old (Err FrameTooLong) new g =
    is_overlong (answered rows cols (concat (past ++ piece ∷ [])) base) ≡ true
Carried lines rows cols past piece base key old (Err Read) new g = ⊥
Carried lines rows cols past piece base key old (Err Write) new g = ⊥
Carried lines rows cols past piece base key old (Err TooManyReads) new g = ⊥

-- A piece passes the filter and is fed to the hub, and the frame that is then due is carried to the view: the hub and
-- the view, before and after.
abbrev pub CarriesPiece : FilteredHub → View UntilCleared → List ℕ → Result (Unit {0}) RelayError → FilteredHub
    → View UntilCleared → Type 0
CarriesPiece h old piece answer g new = (g.client ≡ h.client)
    × OnOk answer ((lines : LineDrawing) (past : List ℕ) → HasPassed h.filter lines past
    → HasPassed g.filter lines (past ++ piece))
    × ((rows cols : ℕ) (lines : LineDrawing) (past : List ℕ) (fed : List (List ℕ)) (base : Option Shown)
    → Relaying rows cols fed base h.hub h.client → HasPassed h.filter lines past
    → Carried lines rows cols fed (passed lines past piece) base h.client old answer new g.hub)

-- These pieces come from a source: they were read; or the input ended, and the last one is the farewell.
pub data Comes {S : Type 0} (gives : S → ℕ → Result (List ℕ) Error → S → Type 0) (s : S) : List (List ℕ) → S
    → Type 0 where
  read : {t : S} {pieces : List (List ℕ)} → Begun gives piece_len s pieces t → Comes gives s pieces t
  at_end : {t : S} {pieces : List (List ℕ)} → Drained gives piece_len s pieces (Ok tt) t → Comes gives s (ended pieces) t

-- Pieces come from a source and pass the filter, and these frames are made of them. The constructors say which result
-- this has, and how it leaves the source.
pub data Follows (lines : LineDrawing) {S : Type 0} (gives : S → ℕ → Result (List ℕ) Error → S → Type 0)
    (rows cols : ℕ) (s : S) : List (List ℕ) → Result (Unit {0}) RelayError → S → Type 0 where
  -- a read failed, or there were too many reads
  unread : {t : S} {frames : List (List ℕ)} (pieces : List (List ℕ)) (rest : List ℕ) (e : RelayError)
      → Drained gives piece_len s (pieces ++ rest ∷ []) (Err e) t
      → AreRelayed rows cols (all_passed lines pieces) frames → Follows lines gives rows cols s frames (Err e) t
  -- there was no memory for the last piece or its frame, which may need some
  unmade : {t : S} {frames : List (List ℕ)} (pieces : List (List ℕ)) (piece : List ℕ)
      → Comes gives s (pieces ++ piece ∷ []) t → AreRelayed rows cols (all_passed lines pieces) frames
      → WantsRoom lines rows cols pieces piece → Follows lines gives rows cols s frames (Err Memory) t
  -- the frame of the last piece would be too long
  overlong : {t : S} {frames : List (List ℕ)} (pieces : List (List ℕ)) (piece : List ℕ)
      → Comes gives s (pieces ++ piece ∷ []) t → AreRelayed rows cols (all_passed lines pieces) frames
      → EndsOverlong rows cols (all_passed lines (pieces ++ piece ∷ []))
      → Follows lines gives rows cols s frames (Err FrameTooLong) t
  -- the input was read to its end, and the farewell was fed
  followed : {t : S} {frames : List (List ℕ)} (pieces : List (List ℕ)) → Drained gives piece_len s pieces (Ok tt) t
      → AreRelayed rows cols (all_passed lines (ended pieces)) frames → Follows lines gives rows cols s frames (Ok tt) t

-- The result of the call, and how it leaves the source and the writer. Nothing is written before the input has ended.
pub data PrintsFar (lines : LineDrawing) {S W : Type 0} (i : Source S) (o : Sink W)
    (flushes : W → Result (Unit {0}) Error → W → Type 0) (rows cols : ℕ) : Result (Unit {0}) RelayError → Type 0 where
  -- there was no memory for the hub, its client or the view: nothing is read
  refused : i.new ≡ i.old → o.new ≡ o.old → PrintsFar lines i o flushes rows cols (Err Memory)
  -- a fault came before the input had ended
  broken : (frames : List (List ℕ)) (e : RelayError) → Follows lines i.gives rows cols i.old frames (Err e) i.new
      → o.new ≡ o.old → PrintsFar lines i o flushes rows cols (Err e)
  -- a fresh view was given all frames, in some pieces, and what it shows was printed
  printed : {answer : Result (Unit {0}) RelayError} (frames pieces : List (List ℕ)) (text : List ℕ)
      → Follows lines i.gives rows cols i.old frames (Ok tt) i.new → concat pieces ≡ concat frames
      → IsTextShown (sized rows cols) pieces text → Prints o.takes flushes o.old text answer o.new
      → PrintsFar lines i o flushes rows cols answer
