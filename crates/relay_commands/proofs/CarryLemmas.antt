-- What is carried to a view.
use Rattle.std.proofs.Common.{◌≡◌, ◌∙◌, ℕ, false, List, [], ◌∷◌, ◌++◌, take, drop, Option, None, Some, Ok, refl, sym}
use Rattle.std.proofs.Common.{ap, subst, append-nil, Result, Err, OnOk, IfSome}
use Rattle.std.proofs.lemmas.List.Folds.{concat-append}
use Rattle.std.specs.List.{concat, list_any}
use Rattle.std.specs.Io.KnownBytes.{Appends, Keeps}
use Rattle.std.specs.declared.io.Error.{Error}
use Rattle.terminal_model.specs.Term.{Shown}
use Rattle.screen_model.specs.Holds.{IsSide}
use Rattle.termview.specs.declared.view.View.{View}
use Rattle.termview.specs.declared.until_cleared.UntilCleared.{UntilCleared}
use Rattle.termrelay.specs.Hub.{HubState, as_kept}
use Rattle.byte_streams.specs.Pump.{Pumps, Writes}
use Rattle.byte_streams.proofs.PumpLaws.{takes-all, appends-prefix}
use Rattle.relay_streams.specs.declared.error.RelayError.{RelayError}
use Rattle.relay_streams.specs.declared.error.RelayError.TheVariants.{Read, Write, Memory, TooManyReads, FrameTooLong}
use Rattle.charset_filter.specs.declared.lines.LineDrawing.{LineDrawing}
use Rattle.charset_filter.specs.declared.lines.LineDrawing.TheVariants.{Kept, Drawn}
use Rattle.byte_streams.specs.Source.{IsReadBy}
use Rattle.relay_streams.specs.Frames.{asked, is_overlong}
use Rattle.charset_filter.specs.Lines.{HasPassed, all_passed, passed}
use Rattle.relay_streams.specs.Each as each
use Rattle.relay_streams.specs.Each.{GivesEach, TakesAll}
use Rattle.relay_streams.specs.Pieces.{Drained, piece_len, pieces_of}
use Rattle.relay_streams.specs.Sessions.{AreRelayed, EndsOverlong, IsRelayed}
use Rattle.relay_streams.specs.Live.{ended, farewell}
use Rattle.relay_streams.specs.Turns.{Relaying}
use Rattle.relay_streams.proofs.FrameLists.{frames_of, answers_of, base_of, frames-more, base-push, fits-push}
use Rattle.charset_filter.proofs.LineLemmas.{none-passed, passed-push}
use Rattle.relay_streams.proofs.LiveLemmas.{may-want}
use Rattle.relay_streams.proofs.OutputLemmas.{prints-text}
use Rattle.relay_streams.proofs.PieceLemmas.{concat-push, drained-pieces}
use Rattle.relay_streams.proofs.SessionLemmas.{ends-overlong, frames-are-relayed, frames-of}
use Rattle.relay_streams.proofs.SessionLemmas.{relayed-by}
use Rattle.relay_streams.proofs.ViewLemmas.{not_led, led_more}
use Rattle.relay_commands.specs.Carried as far
use Rattle.relay_commands.specs.Carried.{Carried, Carries, CarriesPiece, Follows, IsFarText, IsRelayedThrough}
use Rattle.relay_commands.specs.Carried.{Comes, PrintsFar, followed, overlong, unmade, unread}
use Rattle.relay_commands.specs.Ends.{from, onto}
use Rattle.relay_commands.specs.declared.far_screen.FilteredHub.{FilteredHub}

-- all was written
pub printed : {E : Type 0} (answer : Result (Unit {0}) E) (known : Option (List ℕ)) (P : List ℕ → List ℕ → Type 0)
    (text : List ℕ) (a b : Option (List ℕ)) → ((bytes : List ℕ) → known ≡ Some bytes → P bytes text)
    → OnOk answer (Appends a b text)
    → OnOk answer (IfSome known (λ bytes. (text : List ℕ) × P bytes text × Appends a b text))
printed (Err e) known P text a b is took = tt
printed (Ok u) None P text a b is took = tt
printed (Ok u) (Some bytes) P text a b is took = (text, is bytes refl, took)

-- what holds for any result holds where all went well
pub on-any : (answer : Result (Unit {0}) RelayError) (A : Type 0) → A → OnOk answer A
on-any (Ok u) A a = a
on-any (Err e) A a = tt

pub carries-none : (view : View UntilCleared) → Carries view [] view
carries-none view = record { pieces = []; joined = refl; led = not_led view }

carries-more : (a b c : View UntilCleared) (xs ys : List ℕ) → Carries a xs b → Carries b ys c → Carries a (xs ++ ys) c
carries-more a b c xs ys first then = record {
  pieces = first.pieces ++ then.pieces;
  joined = concat-append first.pieces then.pieces ∙ ap (λ zs. zs ++ concat then.pieces) first.joined
      ∙ ap (λ zs. xs ++ zs) then.joined;
  led = led_more a b c first.pieces then.pieces first.led then.led;
}

-- pieces that were read to the end
ends-well : {lines : LineDrawing} {S : Type 0} {gives : S → ℕ → Result (List ℕ) Error → S → Type 0} {rows cols : ℕ}
    {s t : S} {frames : List (List ℕ)} {answer : Result (Unit {0}) RelayError}
    → Follows lines gives rows cols s frames answer t → answer ≡ Ok tt
    → (pieces : List (List ℕ)) × Drained gives piece_len s pieces (Ok tt) t
    × AreRelayed rows cols (all_passed lines (ended pieces)) frames
ends-well (followed pieces d relayed) is = (pieces, d, relayed)
ends-well _ is = absurd (cc)

-- what is relayed of pieces that have passed, joined
relayed-through : (lines : LineDrawing) (rows cols : ℕ) (input : List ℕ) (pieces frames : List (List ℕ)) (text : List ℕ)
    → AreRelayed rows cols (all_passed lines (ended pieces)) frames → pieces ≡ pieces_of input → text ≡ concat frames
    → IsRelayedThrough lines rows cols input text
relayed-through lines rows cols input pieces frames text are cut joined =
    let fed = all_passed lines (ended pieces) in
    record {
      key = are.key;
      story = are.story;
      is = subst (λ (ps : List (List ℕ)). IsRelayed rows cols are.key (all_passed lines (ended ps)) are.story) cut
          are.is;
      fits = are.fits;
      pumped = (relayed-by rows cols are.key fed are.story are.is).pumped
          ∙ ap concat (sym (frames-of rows cols fed frames are)) ∙ sym joined;
    }

module _ (S W : Type 0) (gives : S → ℕ → Result (List ℕ) Error → S → Type 0)
    (takes : W → List ℕ → Result ℕ Error → W → Type 0) (flushes : W → Result (Unit {0}) Error → W → Type 0)
    (contents : W → Option (List ℕ)) (left : S → Option (List ℕ))
    (gave : (s : S) (room : ℕ) (answer : Result (List ℕ) Error) (t : S) → gives s room answer t
    → IsReadBy left s room answer t)
    (took : (w : W) (bytes : List ℕ) (answer : Result ℕ Error) (v : W) → takes w bytes answer v
    → Writes contents w bytes answer v)
    (flushed : (w : W) (answer : Result (Unit {0}) Error) (v : W) → flushes w answer v
    → Keeps (contents w) (contents v))
  where
    -- what was printed, where the bytes of the source and the writer are known
    pub far-text : (lines : LineDrawing) (rows cols : ℕ) (s : S) (w : W) (answer : Result (Unit {0}) RelayError) (t : S)
        (v : W) → PrintsFar lines (from gives s t) (onto takes w v) flushes rows cols answer
        → OnOk answer (IfSome (left s) (λ bytes. (text : List ℕ) × IsFarText lines rows cols bytes text
        × Appends (contents w) (contents v) text))
    far-text lines rows cols s w answer t v (far.printed frames pieces text follows joined shown prints) =
        let read = ends-well follows refl in
        printed answer (left s) (IsFarText lines rows cols) text (contents w) (contents v)
        (λ bytes known. record {
          pieces = pieces;
          relayed = relayed-through lines rows cols bytes read.0 frames (concat pieces) read.2
              (drained-pieces S gives left gave s read.0 t bytes read.1 known) joined;
          shown = shown;
        })
        (prints-text W takes flushes contents took flushed w text answer v prints)
    far-text lines rows cols s w answer t v _ = tt

-- a writer that held nothing holds what was pumped whole
pub holds-all : (W : Type 0) (contents : W → Option (List ℕ)) (w v : W) (owed held : List ℕ) (n : ℕ)
    → Pumps (Writes contents) w owed (Ok tt) n v → contents w ≡ Some [] → contents v ≡ Some held → held ≡ owed
holds-all W contents w v owed held n pumps empty full =
    let reported = appends-prefix W contents w v owed (Ok tt) n pumps in
    let none : drop n owed ≡ [] = takes-all W (Writes contents) w v owed n pumps in
    let whole : take n owed ≡ owed =
    sym (append-nil (take n owed)) ∙ ap (λ xs. take n owed ++ xs) (sym none) ∙ reported.1 in
    let is : Appends (Some []) (Some held) (take n owed) =
    subst (λ o. Appends o (Some held) (take n owed)) empty
    (subst (λ o. Appends (contents w) o (take n owed)) full reported.0) in
    is ∙ whole

-- a turn with a piece that passed
pub carried-through : (lines : LineDrawing) (rows cols : ℕ) (past : List (List ℕ)) (piece : List ℕ)
    (base : Option Shown) (key : ℕ) (a b : View UntilCleared) (answer : Result (Unit {0}) RelayError)
    (g : HubState as_kept) → Carried Kept rows cols past piece base key a answer b g
    → Carried lines rows cols past piece base key a answer b g
carried-through Kept rows cols past piece base key a b answer g carried = carried
carried-through Drawn rows cols past piece base key a b (Ok u) g carried = carried
carried-through Drawn rows cols past piece base key a b (Err Memory) g carried = tt
carried-through Drawn rows cols past piece base key a b (Err FrameTooLong) g carried = carried
carried-through Drawn rows cols past piece base key a b (Err Read) g carried = carried
carried-through Drawn rows cols past piece base key a b (Err Write) g carried = carried
carried-through Drawn rows cols past piece base key a b (Err TooManyReads) g carried = carried

-- pieces were fed whose frames reached the view, and none of them was too long
abbrev Goes : ℕ → ℕ → ℕ → HubState as_kept → View UntilCleared → View UntilCleared → List (List ℕ) → Type 0
Goes rows cols key g a b pieces = (list_any is_overlong (answers_of rows cols pieces) ≡ false)
    × Carries a (concat (frames_of rows cols pieces)) b × Relaying rows cols pieces (base_of rows cols pieces) g key

module _ (rows cols : ℕ) (lines : LineDrawing) (past : List (List ℕ)) (piece : List ℕ) where
  -- the pieces that were read, and those of them that were fed
  abbrev pieces : List (List ℕ)
  pieces = past ++ piece ∷ []

  abbrev before : List (List ℕ)
  before = all_passed lines past

  abbrev here : List ℕ
  here = passed lines (concat past) piece

  abbrev fed : List (List ℕ)
  fed = before ++ here ∷ []

  fed-is : all_passed lines pieces ≡ fed
  fed-is = passed-push lines past piece

  abbrev base : Option Shown
  base = base_of rows cols before

  abbrev Fit : List (List ℕ) → Type 0
  Fit ps = list_any is_overlong (answers_of rows cols ps) ≡ false

  -- a turn at which a fault came
  pub carry-faults : (S : Type 0) (gives : S → ℕ → Result (List ℕ) Error → S → Type 0) (key : ℕ)
      (g : HubState as_kept) (s t : S) (a b : View UntilCleared) (e : RelayError) → IsSide rows → IsSide cols
      → Comes gives s pieces t → Fit before → Carried lines rows cols before here base key a (Err e) b g
      → Follows lines gives rows cols s (frames_of rows cols before) (Err e) t
  carry-faults S gives key g s t a b Memory height width begun fit turned =
      unmade past piece begun (frames-are-relayed rows cols before height width fit)
      (may-want rows cols lines past piece height width turned)
  carry-faults S gives key g s t a b FrameTooLong height width begun fit turned =
      overlong past piece begun (frames-are-relayed rows cols before height width fit)
      (subst (λ (ps : List (List ℕ)). EndsOverlong rows cols ps) (sym fed-is)
      (ends-overlong rows cols before here height width turned))
  carry-faults S gives key g s t a b Read height width begun fit turned = absurd turned
  carry-faults S gives key g s t a b Write height width begun fit turned = absurd turned
  carry-faults S gives key g s t a b TooManyReads height width begun fit turned = absurd turned

  -- one that went well
  pub carry-goes : (key : ℕ) (g : HubState as_kept) (a b c : View UntilCleared) → Fit before
      → Carries a (concat (frames_of rows cols before)) b → Carried lines rows cols before here base key b (Ok tt) c g
      → Goes rows cols key g a c (all_passed lines pieces)
  carry-goes key g a b c fit first turned =
      let owed = (asked rows cols (concat fed) base).owed in
      let is : concat (frames_of rows cols fed) ≡ concat (frames_of rows cols before) ++ owed =
      ap concat (frames-more rows cols before (here ∷ []))
      ∙ concat-push (frames_of rows cols before) owed in
      subst (Goes rows cols key g a c) (sym fed-is) (
        fits-push rows cols before here fit turned.0,
        subst (λ (xs : List ℕ). Carries a xs c) (sym is)
            (carries-more a b c (concat (frames_of rows cols before)) owed first turned.1),
        subst (λ (o : Option Shown). Relaying rows cols fed o g key) (sym (base-push rows cols before here)) turned.2,
      )

-- the second result, where the first call went well
abbrev pub then : Result (Unit {0}) RelayError → Result (Unit {0}) RelayError → Result (Unit {0}) RelayError
then (Ok u) last = last
then (Err e) last = Err e

module _ (S : Type 0) (gives : S → ℕ → Result (List ℕ) Error → S → Type 0) (rows cols : ℕ) (lines : LineDrawing) where
  -- all pieces were carried, and then the farewell, which may have been refused
  follows-ended : (pieces : List (List ℕ)) (key : ℕ) (g : HubState as_kept) (s t : S) (a b c : View UntilCleared)
      (last : Result (Unit {0}) RelayError) → IsSide rows → IsSide cols → Drained gives piece_len s pieces (Ok tt) t
      → list_any is_overlong (answers_of rows cols (all_passed lines pieces)) ≡ false
      → Carries a (concat (frames_of rows cols (all_passed lines pieces))) b
      → Carried lines rows cols (all_passed lines pieces) (passed lines (concat pieces) farewell)
      (base_of rows cols (all_passed lines pieces)) key b last c g
      → (frames : List (List ℕ)) × Follows lines gives rows cols s frames last t
      × OnOk last (Carries a (concat frames) c)
  follows-ended pieces key g s t a b c (Ok u) height width d fit first turned =
      let fed = all_passed lines (ended pieces) in
      let goes = carry-goes rows cols lines pieces farewell key g a b c fit first turned in
      (frames_of rows cols fed, followed pieces d (frames-are-relayed rows cols fed height width goes.0), goes.1)
  follows-ended pieces key g s t a b c (Err e) height width d fit first turned = (
    frames_of rows cols (all_passed lines pieces),
    carry-faults rows cols lines pieces farewell S gives key g s t b c e height width (far.at_end d) fit turned,
    tt,
  )

  -- pieces that were all carried
  carried-all : (h : FilteredHub) (a : View UntilCleared) (read : List (List ℕ)) (g : FilteredHub)
      (b : View UntilCleared) → Relaying rows cols [] None h.hub h.client → HasPassed h.filter lines []
      → TakesAll CarriesPiece h a read g b
      → HasPassed g.filter lines (concat read) × Goes rows cols g.client g.hub a b (all_passed lines read)
  carried-all h a read g b at passes each.none =
      (passes, none-passed lines (Goes rows cols h.client h.hub a a) (refl, carries-none a, at))
  carried-all h a _ k c at passes (each.more {pieces = past} {piece = piece} g b all step) =
      let so_far = carried-all h a past g b at passes all in
      let fed = all_passed lines past in
      let goes = carry-goes rows cols lines past piece g.client k.hub a b c so_far.1.0 so_far.1.1
      (step.2 rows cols lines (concat past) fed (base_of rows cols fed) so_far.1.2 so_far.0) in (
        subst (λ (xs : List ℕ). HasPassed k.filter lines xs) (sym (concat-push past piece))
            (step.1 lines (concat past) so_far.0),
        subst (λ (key : ℕ). Goes rows cols key k.hub a c (all_passed lines (past ++ piece ∷ []))) (sym step.0) goes,
      )

  -- pieces that were carried, the last of which may have been refused, and then the farewell
  pub follows-of : (s t : S) (h g k : FilteredHub) (a b c : View UntilCleared)
      (answer last : Result (Unit {0}) RelayError) → Relaying rows cols [] None h.hub h.client
      → HasPassed h.filter lines [] → GivesEach gives CarriesPiece s h a answer t g b
      → OnOk answer (CarriesPiece g b farewell last k c) → (frames : List (List ℕ))
      × Follows lines gives rows cols s frames (then answer last) t
      × OnOk (then answer last) (Carries a (concat frames) c)
  follows-of s t h g k a b c answer last at passes (each.unread pieces rest e d all) more =
      let so_far = carried-all h a pieces g b at passes all in
      let fed = all_passed lines pieces in (
        frames_of rows cols fed,
        unread pieces rest e d (frames-are-relayed rows cols fed at.height at.width so_far.1.0),
        tt,
      )
  follows-of s t h r k a v c answer last at passes (each.refused g b pieces piece e begun all step) more =
      let so_far = carried-all h a pieces g b at passes all in
      let fed = all_passed lines pieces in (
        frames_of rows cols fed,
        carry-faults rows cols lines pieces piece S gives g.client r.hub s t b v e at.height at.width (far.read begun)
            so_far.1.0 (step.2 rows cols lines (concat pieces) fed (base_of rows cols fed) so_far.1.2 so_far.0),
        tt,
      )
  follows-of s t h g k a b c answer last at passes (each.taken pieces d all) step =
      let so_far = carried-all h a pieces g b at passes all in
      let fed = all_passed lines pieces in
      follows-ended pieces g.client k.hub s t a b c last at.height at.width d so_far.1.0 so_far.1.1
      (step.2 rows cols lines (concat pieces) fed (base_of rows cols fed) so_far.1.2 so_far.0)
