-- The screen that is printed at the end of an output.
use Rattle.std.proofs.Common.{◌≡◌, ◌∙◌, ℕ, false, List, [], ◌++◌, Option, Some, None, refl, sym, ap}
use Rattle.std.proofs.Common.{subst, Ok, Err, OnOk, IfSome, Result}
use Rattle.std.specs.List.{concat}
use Rattle.std.specs.Io.KnownBytes.{Appends}
use Rattle.terminal_model.specs.Term.{Shown}
use Rattle.screen_model.specs.Shown.{shown_state}
use Rattle.termrelay.specs.Frame.{is_unsure}
use Rattle.charset_filter.specs.declared.lines.LineDrawing.{LineDrawing}
use Rattle.charset_filter.specs.Lines.{all_passed, passed}
use Rattle.relay_streams.specs.Frames.{state_after}
use Rattle.relay_streams.specs.Laws.{HasReadAll}
use Rattle.relay_streams.specs.Live.{ended, farewell, screen_at_end}
use Rattle.relay_streams.specs.Pieces.{pieces_of}
use Rattle.relay_streams.specs.Sessions.{AreRelayed, texts_of}
use Rattle.relay_streams.specs.Shown.{screen_text, sized}
use Rattle.relay_streams.proofs.EndLemmas.{farewell-ends-all}
use Rattle.relay_streams.proofs.PieceLemmas.{concat-pieces, concat-push}
use Rattle.relay_streams.proofs.RelayedLemmas.{live-shown}
use Rattle.relay_streams.proofs.SessionLemmas.{frames-of, relayed-by}
use Rattle.relay_commands.specs.Carried.{AppendsScreen, IsFarText}

whole : (input : List ℕ) → concat (ended (pieces_of input)) ≡ input ++ farewell
whole input = concat-push (pieces_of input) farewell ∙ ap (λ (bytes : List ℕ). bytes ++ farewell) (concat-pieces input)

-- what a far terminal has read
read-all : (lines : LineDrawing) (rows cols : ℕ) (input text : List ℕ) (far : IsFarText lines rows cols input text)
    → HasReadAll lines rows cols (ended (pieces_of input)) far.shown.parsed far.shown.hold
read-all lines rows cols input text far =
    let is = far.relayed in
    let fed = all_passed lines (ended (pieces_of input)) in
    let are : AreRelayed rows cols fed (texts_of is.story) =
    record { key = is.key; story = is.story; is = is.is; fits = is.fits; texts = refl } in
    record {
      frames = texts_of is.story;
      relayed = are;
      cuts = far.pieces;
      joined = sym is.pumped ∙ (relayed-by rows cols is.key fed is.story is.is).pumped
          ∙ ap concat (sym (frames-of rows cols fed (texts_of is.story) are));
      leads = far.shown.leads;
    }

pub far-screen : (lines : LineDrawing) (rows cols : ℕ) (input text : List ℕ) → IsFarText lines rows cols input text
    → is_unsure (sized rows cols) (shown_state (screen_at_end lines rows cols input)) ≡ false
    → text ≡ screen_text (sized rows cols) (shown_state (screen_at_end lines rows cols input)).cell
far-screen lines rows cols input text far sure =
    let z = sized rows cols in
    let made = λ (bytes : List ℕ). state_after rows cols (passed lines [] bytes) in
    let shown = live-shown lines rows cols (pieces_of input) farewell far.shown.parsed far.shown.hold
    (read-all lines rows cols input text far)
    (ap (λ (bytes : List ℕ). is_unsure z (shown_state (made bytes))) (whole input) ∙ sure)
    (ap (λ (bytes : List ℕ). (made bytes).updating) (whole input) ∙ (farewell-ends-all lines rows cols input).updating) in
    far.shown.text_is
    ∙ ap (λ (x : Shown). screen_text z x.cell) shown.1
    ∙ ap (λ (bytes : List ℕ). screen_text z (shown_state (made bytes)).cell) (whole input)

-- and what is printed is its text
pub appends-screen : {E : Type 0} (lines : LineDrawing) (rows cols : ℕ) (left old new : Option (List ℕ))
    (answer : Result (Unit {0}) E) → OnOk answer (IfSome left (λ bytes. (text : List ℕ)
    × IsFarText lines rows cols bytes text × Appends old new text))
    → OnOk answer (IfSome left (λ bytes. AppendsScreen lines rows cols bytes old new))
appends-screen lines rows cols left old new (Err e) printed = tt
appends-screen lines rows cols None old new (Ok u) printed = tt
appends-screen lines rows cols (Some bytes) old new (Ok u) printed = λ sure.
    subst (Appends old new) (far-screen lines rows cols bytes printed.0 printed.1 sure) printed.2
