-- The screen at the end of an output.
use Rattle.std.proofs.Common.{◌≡◌, ◌∙◌, ℕ, List, [], ◌∷◌, ◌++◌, drop, take, refl, sym, ap, arith}
use Rattle.std.proofs.Common.{length, length-append, subst}
use Rattle.std.specs.List.{concat}
use Rattle.vt100_forms.specs.declared.modes.MouseProtocolMode.{MouseProtocolMode}
use Rattle.vt100_forms.specs.declared.modes.MouseProtocolMode.TheVariants as mouse
use Rattle.vt100_forms.specs.declared.modes.MouseProtocolEncoding.{MouseProtocolEncoding}
use Rattle.vt100_forms.specs.declared.modes.MouseProtocolEncoding.TheVariants as encoding
use Rattle.vte_core.specs.Event.{Event}
use Rattle.vte_core.specs.Shapes.{events}
use Rattle.vte_core.proofs.LawLemmas.{esc-cut}
use Rattle.screen_model.specs.Made.{played}
use Rattle.screen_model.specs.Shown.{shown_state}
use Rattle.screen_model.specs.State.{State, fresh_state}
use Rattle.termrelay.specs.Frame.{is_unsure}
use Rattle.charset_filter.specs.declared.lines.LineDrawing.{LineDrawing}
use Rattle.charset_filter.specs.declared.lines.LineDrawing.TheVariants.{Kept, Drawn}
use Rattle.charset_filter.specs.Lines.{passed}
use Rattle.charset_filter.specs.Behind.{drawn_events}
use Rattle.charset_filter.specs.Sets.{first_sets}
use Rattle.charset_filter.proofs.EventLemmas.{drawn_events-append}
use Rattle.charset_filter.proofs.LawLemmas.{draws-events}
use Rattle.relay_streams.specs.Frames.{state_after}
use Rattle.relay_streams.specs.Laws.{FarewellEndsAll, HasNothingOn, HasReadAll, LastEndsAreSettled, LiveEndIsShown}
use Rattle.relay_streams.specs.Laws.{LiveUpdatesAreShown}
use Rattle.relay_streams.specs.Live.{farewell}
use Rattle.relay_streams.specs.Sessions.{AreRelayed, texts_of}
use Rattle.relay_streams.specs.Shown.{sized}
use Rattle.relay_streams.specs.Updates.{cut_pieces, last_end}
use Rattle.relay_streams.proofs.PieceLemmas.{concat-push}
use Rattle.relay_streams.proofs.RelayedLemmas.{live-shown}
use Rattle.relay_streams.proofs.SessionLemmas.{frames-of, relayed-by}
use Rattle.relay_streams.proofs.SettledLemmas.{played-after, settled}
use Rattle.relay_streams.proofs.UpdateLemmas.{concat-cut}

-- ---- nothing is left on

-- the events of the farewell
abbrev last_events : List Event
last_events = events 1024 farewell

-- they come last, whatever was read before, with lines drawn too
ends : (lines : LineDrawing) (input : List ℕ) → (before : List Event)
    × (events 1024 (passed lines [] (input ++ farewell)) ≡ before ++ last_events)
ends Kept input = (events 1024 (input ++ 27 ∷ []), esc-cut 1024 input (drop 1 farewell))
ends Drawn input =
    let before = events 1024 (input ++ 27 ∷ []) in (
      drawn_events first_sets before,
      draws-events 1024 (input ++ farewell) ∙ ap (drawn_events first_sets) (esc-cut 1024 input (drop 1 farewell))
          ∙ drawn_events-append first_sets before last_events,
    )

-- a state with this mouse mode and encoding
abbrev with_mouse : MouseProtocolMode → MouseProtocolEncoding → State → State
with_mouse m e s = record s { modes = record (s.modes) { mouse = m; encoding = e } }

nothing-on : (rows cols : ℕ) (m : MouseProtocolMode) (e : MouseProtocolEncoding) (s : State)
    → HasNothingOn rows cols (played last_events (with_mouse m e s))
nothing-on rows cols mouse.None encoding.Default s =
    record { modes = refl; hidden = refl; style = refl; updating = refl }
nothing-on rows cols mouse.None encoding.Utf8 s =
    record { modes = refl; hidden = refl; style = refl; updating = refl }
nothing-on rows cols mouse.None encoding.Sgr s =
    record { modes = refl; hidden = refl; style = refl; updating = refl }
nothing-on rows cols mouse.Press encoding.Default s =
    record { modes = refl; hidden = refl; style = refl; updating = refl }
nothing-on rows cols mouse.Press encoding.Utf8 s =
    record { modes = refl; hidden = refl; style = refl; updating = refl }
nothing-on rows cols mouse.Press encoding.Sgr s =
    record { modes = refl; hidden = refl; style = refl; updating = refl }
nothing-on rows cols mouse.PressRelease encoding.Default s =
    record { modes = refl; hidden = refl; style = refl; updating = refl }
nothing-on rows cols mouse.PressRelease encoding.Utf8 s =
    record { modes = refl; hidden = refl; style = refl; updating = refl }
nothing-on rows cols mouse.PressRelease encoding.Sgr s =
    record { modes = refl; hidden = refl; style = refl; updating = refl }
nothing-on rows cols mouse.ButtonMotion encoding.Default s =
    record { modes = refl; hidden = refl; style = refl; updating = refl }
nothing-on rows cols mouse.ButtonMotion encoding.Utf8 s =
    record { modes = refl; hidden = refl; style = refl; updating = refl }
nothing-on rows cols mouse.ButtonMotion encoding.Sgr s =
    record { modes = refl; hidden = refl; style = refl; updating = refl }
nothing-on rows cols mouse.AnyMotion encoding.Default s =
    record { modes = refl; hidden = refl; style = refl; updating = refl }
nothing-on rows cols mouse.AnyMotion encoding.Utf8 s =
    record { modes = refl; hidden = refl; style = refl; updating = refl }
nothing-on rows cols mouse.AnyMotion encoding.Sgr s =
    record { modes = refl; hidden = refl; style = refl; updating = refl }

pub farewell-ends-all : FarewellEndsAll
farewell-ends-all lines rows cols input =
    let last = ends lines input in
    let first = fresh_state rows cols 0 in
    let s = played last.0 first in
    subst (HasNothingOn rows cols)
    (sym (ap (λ (es : List Event). played es first) last.1 ∙ played-after last.0 last_events first))
    (nothing-on rows cols s.modes.mouse s.modes.encoding s)

-- ---- an update is ended

pub last-ends-settled : LastEndsAreSettled
last-ends-settled lines rows cols past piece some = settled lines past piece (fresh_state rows cols 0) some

pub live-updates-shown : LiveUpdatesAreShown
live-updates-shown lines rows cols past piece parsed hold some read sure =
    let part = take (last_end (concat past) piece) piece in
    let made = λ (bytes : List ℕ). state_after rows cols (passed lines [] bytes) in
    let is : concat (cut_pieces past ++ part ∷ []) ≡ concat past ++ part =
    concat-push (cut_pieces past) part ∙ ap (λ (xs : List ℕ). xs ++ part) (concat-cut [] past) in
    let shown = live-shown lines rows cols (cut_pieces past) part parsed hold read
    (ap (λ (bytes : List ℕ). is_unsure (sized rows cols) (shown_state (made bytes))) is ∙ sure)
    (ap (λ (bytes : List ℕ). (made bytes).updating) is
    ∙ last-ends-settled lines rows cols (concat past) piece some) in
    (shown.0, shown.1 ∙ ap (λ (bytes : List ℕ). shown_state (made bytes)) is)

-- ---- so a view shows the screen

-- something passes
some-passed : (lines : LineDrawing) (input : List ℕ) → passed lines [] (input ++ farewell) ≡ [] → ⊥
some-passed lines input none =
    let last = ends lines input in
    let empty : [] ≡ last.0 ++ last_events = ap (events 1024) (sym none) ∙ last.1 in
    let some : length last_events ≡ 5 = refl in
    omega (arith, ap length empty, length-append last.0 last_events, some)

split-last : (piece : List ℕ) (pieces : List (List ℕ)) → (past : List (List ℕ)) × (last : List ℕ)
    × (piece ∷ pieces ≡ past ++ last ∷ [])
split-last piece [] = ([], piece, refl)
split-last piece (next ∷ pieces) =
    let rest = split-last next pieces in
    (piece ∷ rest.0, rest.1, ap (λ (ps : List (List ℕ)). piece ∷ ps) rest.2)

pieces-end : (pieces : List (List ℕ)) → (pieces ≡ [] → ⊥) → (past : List (List ℕ)) × (last : List ℕ)
    × (pieces ≡ past ++ last ∷ [])
pieces-end [] some = absurd (some refl)
pieces-end (piece ∷ pieces) some = split-last piece pieces

pub live-end-shown : LiveEndIsShown
live-end-shown lines rows cols input text parsed hold cuts live joined leads sure =
    let whole = live.whole in
    let cut = pieces-end live.pieces (λ none. some-passed lines input (sym whole ∙ ap concat none)) in
    let made = λ (bytes : List ℕ). state_after rows cols bytes in
    let are : AreRelayed rows cols live.pieces (texts_of live.story) =
    record { key = live.key; story = live.story; is = live.is; fits = live.fits; texts = refl } in
    let read : HasReadAll Kept rows cols live.pieces parsed hold = record {
      frames = texts_of live.story;
      relayed = are;
      cuts = cuts;
      joined = joined ∙ sym live.pumped ∙ (relayed-by rows cols live.key live.pieces live.story live.is).pumped
          ∙ ap concat (sym (frames-of rows cols live.pieces (texts_of live.story) are));
      leads = leads;
    } in
    let is : concat (cut.0 ++ cut.1 ∷ []) ≡ passed lines [] (input ++ farewell) = ap concat (sym cut.2) ∙ whole in
    let shown = live-shown Kept rows cols cut.0 cut.1 parsed hold
    (subst (λ (ps : List (List ℕ)). HasReadAll Kept rows cols ps parsed hold) cut.2 read)
    (ap (λ (bytes : List ℕ). is_unsure (sized rows cols) (shown_state (made bytes))) is ∙ sure)
    (ap (λ (bytes : List ℕ). (made bytes).updating) is ∙ (farewell-ends-all lines rows cols input).updating) in
    (shown.0, shown.1 ∙ ap (λ (bytes : List ℕ). shown_state (made bytes)) is)
