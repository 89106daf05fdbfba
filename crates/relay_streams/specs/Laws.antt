-- Laws of what is shown.
use Rattle.std.specs.Prelude.{◌≡◌, ◌<◌, ℕ, false, List, [], ◌∷◌, ◌++◌, Option, None, map, take}
use Rattle.std.specs.List.{All, concat}
use Rattle.vte.specs.Moves.{Gives}
use Rattle.vte.specs.Frames.{Drives, IsFrame}
use Rattle.terminal_model.specs.Term.{Size, shown_of}
use Rattle.screen_model.specs.Shown.{shown_state}
use Rattle.screen_model.specs.State.{State, fresh_state}
use Rattle.termrelay.specs.Frame.{is_unsure}
use Rattle.termview.specs.Seen.{seen}
use Rattle.relay_theorem.specs.History.{Story}
use Rattle.relay_theorem.specs.Judge.{IsShownRight}
use Rattle.relay_theorem.specs.Headline.{ReadsPrefix, last_read}
use Rattle.charset_filter.specs.declared.lines.LineDrawing.{LineDrawing}
use Rattle.charset_filter.specs.Lines.{all_passed, passed}
use Rattle.relay_streams.specs.Frames.{state_after}
use Rattle.relay_streams.specs.Live.{IsLiveText, farewell, screen_at_end}
use Rattle.relay_streams.specs.Pieces.{pieces_of}
use Rattle.relay_streams.specs.Sessions.{AreRelayed, IsRelayed, IsRelayText}
use Rattle.relay_streams.specs.Shown.{IsTextShown, screen_text, sized}
use Rattle.relay_streams.specs.Updates.{cut_pieces, last_end}

-- the text of what is shown is a function of the size and the pieces
abbrev pub TextsAreOne : Type 0
TextsAreOne = (z : Size) (pieces : List (List ℕ)) (a b : List ℕ) → IsTextShown z pieces a → IsTextShown z pieces b → a
    ≡ b

-- joined whole frames are printed as the text of the screen that they leave
abbrev pub WholeFramesArePrinted : Type 0
WholeFramesArePrinted = (z : Size) (frames : List (List ℕ)) (text : List ℕ)
    → All IsFrame frames → IsTextShown z (pieces_of (concat frames)) text
    → text ≡ screen_text z (seen z (concat frames)).cell

-- A new view of this size reads a prefix of what is relayed of some pieces, in any pieces of its own, and has parsed
-- `parsed`. It shows what the judge says of the last frame that lies wholly in the prefix, unless that frame's screen
-- was unsure.
abbrev pub RelayedPrefixesAreShown : Type 0
RelayedPrefixesAreShown = (rows cols key : ℕ) (parsed : List ℕ) (fed pieces : List (List ℕ)) (t : Story)
    → IsRelayed rows cols key fed t → ReadsPrefix t.session.pumped pieces parsed
    → IsShownRight rows cols (shown_of (seen (sized rows cols) parsed)) (last_read t pieces)

-- What is relayed is printed as the text of the screen that the whole input makes, whichever pieces it is read in.
-- This holds unless that screen shows U+FE0F or the input ends inside an update of the program's own.
abbrev pub RelayedIsShown : Type 0
RelayedIsShown = (rows cols : ℕ) (input relayed text : List ℕ) (pieces : List (List ℕ))
    → IsRelayText rows cols input relayed → concat pieces ≡ relayed
    → is_unsure (sized rows cols) (shown_state (state_after rows cols input)) ≡ false
    → (state_after rows cols input).updating ≡ false
    → IsTextShown (sized rows cols) pieces text
    → text ≡ screen_text (sized rows cols) (shown_state (state_after rows cols input)).cell

-- A view has read all that was relayed of these pieces, in any pieces of its own.
pub record HasReadAll (lines : LineDrawing) (rows cols : ℕ) (pieces : List (List ℕ)) (parsed : List ℕ)
    (hold : Option (List ℕ)) : Type 0 where
  pub frames : List (List ℕ)
  pub relayed : AreRelayed rows cols (all_passed lines pieces) frames
  pub cuts : List (List ℕ)
  pub joined : concat cuts ≡ concat frames
  pub leads : Drives (map Gives cuts) [] None parsed hold

-- A new view of this size has read all that was relayed of the pieces so far, of which there is at least one. It
-- shows the screen that these pieces make, with lines drawn or kept, and holds nothing back. A screen that shows
-- U+FE0F is left out, and so is one inside an update of the program's own.
abbrev pub LiveIsShown : Type 0
LiveIsShown = (lines : LineDrawing) (rows cols : ℕ) (past : List (List ℕ)) (piece parsed : List ℕ)
    (hold : Option (List ℕ)) → HasReadAll lines rows cols (past ++ piece ∷ []) parsed hold
    → is_unsure (sized rows cols) (shown_state (state_after rows cols (passed lines [] (concat (past ++ piece ∷ [])))))
    ≡ false
    → (state_after rows cols (passed lines [] (concat (past ++ piece ∷ [])))).updating ≡ false
    → (hold ≡ None) × (shown_of (seen (sized rows cols) parsed)
    ≡ shown_state (state_after rows cols (passed lines [] (concat (past ++ piece ∷ [])))))

-- the screen that the bytes make up to the last end of an update in a piece, with lines drawn or kept; `past` was
-- read before
abbrev pub screen_at_last_end : LineDrawing → ℕ → ℕ → List ℕ → List ℕ → State
screen_at_last_end lines rows cols past piece =
    state_after rows cols (passed lines [] (past ++ take (last_end past piece) piece))

-- An update ended in the piece that was read last. A new view of this size that has read what was relayed up to the
-- last end shows the screen at that end, and holds nothing back. A screen that shows U+FE0F is left out.
abbrev pub LiveUpdatesAreShown : Type 0
LiveUpdatesAreShown = (lines : LineDrawing) (rows cols : ℕ) (past : List (List ℕ)) (piece parsed : List ℕ)
    (hold : Option (List ℕ)) → 0 < last_end (concat past) piece
    → HasReadAll lines rows cols (cut_pieces past ++ take (last_end (concat past) piece) piece ∷ []) parsed hold
    → is_unsure (sized rows cols) (shown_state (screen_at_last_end lines rows cols (concat past) piece)) ≡ false
    → (hold ≡ None) × (shown_of (seen (sized rows cols) parsed)
    ≡ shown_state (screen_at_last_end lines rows cols (concat past) piece))

-- at a last end no update is open
abbrev pub LastEndsAreSettled : Type 0
LastEndsAreSettled = (lines : LineDrawing) (rows cols : ℕ) (past piece : List ℕ) → 0 < last_end past piece
    → (screen_at_last_end lines rows cols past piece).updating ≡ false

-- modes and cursor are as on a new screen of this size, and no update is open
pub record HasNothingOn (rows cols : ℕ) (s : State) : Type 0 where
  pub modes : s.modes ≡ (fresh_state rows cols 0).modes
  pub hidden : s.hidden ≡ (fresh_state rows cols 0).hidden
  pub style : s.style ≡ (fresh_state rows cols 0).style
  pub updating : s.updating ≡ false

-- the farewell leaves nothing on, whatever comes before it, with lines drawn or not
abbrev pub FarewellEndsAll : Type 0
FarewellEndsAll = (lines : LineDrawing) (rows cols : ℕ) (input : List ℕ)
    → HasNothingOn rows cols (screen_at_end lines rows cols input)

-- A new view of this size has read all that is written of a live output, in any pieces. It shows the screen that the
-- output makes, with lines drawn or kept, after the modes and the update that the program left on are ended. It holds
-- nothing back. A screen that shows U+FE0F is left out.
abbrev pub LiveEndIsShown : Type 0
LiveEndIsShown = (lines : LineDrawing) (rows cols : ℕ) (input text parsed : List ℕ) (hold : Option (List ℕ))
    (cuts : List (List ℕ)) → IsLiveText rows cols (passed lines [] (input ++ farewell)) text → concat cuts ≡ text
    → Drives (map Gives cuts) [] None parsed hold
    → is_unsure (sized rows cols) (shown_state (screen_at_end lines rows cols input)) ≡ false
    → (hold ≡ None) × (shown_of (seen (sized rows cols) parsed) ≡ shown_state (screen_at_end lines rows cols input))
