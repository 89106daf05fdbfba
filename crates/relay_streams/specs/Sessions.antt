-- What is relayed is a session of a history.
use Rattle.std.specs.Prelude.{◌≡◌, ℕ, suc, Bool, true, false, List, [], ◌∷◌, ◌++◌, map, length, take, Some, slice_get}
use Rattle.std.specs.List.{concat, list_any}
use Rattle.screen_model.specs.Made.{Fed, events_added}
use Rattle.screen_model.specs.Holds.{IsSide}
use Rattle.vt100.specs.Memory.{some_may_allocate}
use Rattle.termrelay.specs.Answers.{may_allocate}
use Rattle.termrelay.specs.Calls.{Call, Feed, Attach, Frame, Pump}
use Rattle.termrelay.specs.declared.answer.Answer.{Answer}
use Rattle.termrelay.specs.declared.answer.Answer.TheVariants.{TooLong}
use Rattle.termrelay.specs.declared.runs.call.Reply.{Reply}
use Rattle.termrelay.specs.declared.runs.call.Reply.TheVariants.{Attached, Refused}
use Rattle.relay_theorem.specs.History.{Entry, Story, size_of_story}
use Rattle.relay_theorem.specs.Judge.{texts}
use Rattle.relay_theorem.specs.Laws.{IsSession}
use Rattle.relay_streams.specs.Frames.{is_overlong, state_after}
use Rattle.relay_streams.specs.Pieces.{pieces_of}
use Rattle.relay_streams.specs.Shown.{sized}

-- the calls for each piece: it is fed, the client of a key asks for a frame, and the bytes that wait for it are
-- pumped
abbrev pub turn_calls : ℕ → List (List ℕ) → List Call
turn_calls key [] = []
turn_calls key (piece ∷ pieces) = Feed piece ∷ Frame key ∷ Pump key [] ∷ turn_calls key pieces

-- the same after the client's attach
abbrev pub relay_calls : ℕ → List (List ℕ) → List Call
relay_calls key pieces = Attach ∷ turn_calls key pieces

abbrev pub is_refused : Reply → Bool
is_refused (Refused e) = true
is_refused reply = false

-- the story of the client, where no call is refused
pub record IsRelayed (rows cols key : ℕ) (pieces : List (List ℕ)) (t : Story) : Type 0 where
  pub replies : List Reply
  pub served : list_any is_refused replies ≡ false
  pub session : IsSession rows cols (relay_calls key pieces) (Attached key ∷ replies) 0 t

-- its answers, one for each piece
abbrev pub answers_in : Story → List Answer
answers_in t = map (λ e. e.answer) t.entries

-- and their texts: that of the frame, or nothing where no frame was made
abbrev pub texts_of : Story → List (List ℕ)
texts_of t = map (λ e. e.text) t.entries

-- a frame would have been too long
abbrev pub has_overlong : Story → Bool
has_overlong t = list_any is_overlong (answers_in t)

-- `frames` are the texts that are relayed of these pieces, where no frame would be too long
pub record AreRelayed (rows cols : ℕ) (pieces frames : List (List ℕ)) : Type 0 where
  pub key : ℕ
  pub story : Story
  pub is : IsRelayed rows cols key pieces story
  pub fits : has_overlong story ≡ false
  pub texts : texts_of story ≡ frames

-- `text` is what is pumped to the client where the input is fed in full pieces
pub record IsRelayText (rows cols : ℕ) (input text : List ℕ) : Type 0 where
  pub key : ℕ
  pub story : Story
  pub is : IsRelayed rows cols key (pieces_of input) story
  pub fits : has_overlong story ≡ false
  pub pumped : story.session.pumped ≡ text

-- after the last one of these pieces the frame would be too long
pub record EndsOverlong (rows cols : ℕ) (pieces : List (List ℕ)) : Type 0 where
  pub key : ℕ
  pub story : Story
  pub is : IsRelayed rows cols key pieces story
  pub prefix : List Answer
  pub answers : answers_in story ≡ prefix ++ TooLong ∷ []

-- What a piece may need memory for that is fed after these.
pub data WantsMemory (rows cols : ℕ) (pieces : List (List ℕ)) (piece : List ℕ) : Type 0 where
  -- one of its events may allocate
  by_event : some_may_allocate (events_added (concat pieces) piece) (state_after rows cols (concat pieces)) ≡ true
      → WantsMemory rows cols pieces piece
  -- a frame is made after it, whether it is too long or not
  by_frame : (key : ℕ) (story : Story) (prefix : List Answer) (answer : Answer)
      → IsRelayed rows cols key (pieces ++ piece ∷ []) story → answers_in story ≡ prefix ++ answer ∷ []
      → may_allocate answer ≡ true → WantsMemory rows cols pieces piece

-- ---- laws

-- there is such a story for any pieces
abbrev pub EachRelayIsASession : Type 0
EachRelayIsASession = (rows cols key : ℕ) (pieces : List (List ℕ)) → IsSide rows → IsSide cols
    → (t : Story) × IsRelayed rows cols key pieces t

-- The story has the hub's size and an answer for each piece, given when just the pieces up to it had been fed. All
-- its frames are pumped.
pub record AnswersEach (rows cols : ℕ) (pieces : List (List ℕ)) (t : Story) : Type 0 where
  pub size : size_of_story t ≡ sized rows cols
  pub each : length t.entries ≡ length pieces
  pub moments : (n : ℕ) (e : Entry) → slice_get t.entries n ≡ Some e → e.moment ≡ map Fed (take (suc n) pieces)
  pub pumped : t.session.pumped ≡ texts t.entries

abbrev pub EachRelayIsPumped : Type 0
EachRelayIsPumped = (rows cols key : ℕ) (pieces : List (List ℕ)) (t : Story) → IsRelayed rows cols key pieces t
    → AnswersEach rows cols pieces t

-- all such stories have the same answers, with the same texts, and the same bytes are pumped to them
abbrev pub RelayedAreOne : Type 0
RelayedAreOne = (rows cols key other : ℕ) (pieces : List (List ℕ)) (t u : Story) → IsRelayed rows cols key pieces t
    → IsRelayed rows cols other pieces u → (t.entries ≡ u.entries) × (t.session.pumped ≡ u.session.pumped)

abbrev pub RelayTextsAreOne : Type 0
RelayTextsAreOne = (rows cols : ℕ) (input a b : List ℕ) → IsRelayText rows cols input a → IsRelayText rows cols input b
    → a ≡ b
