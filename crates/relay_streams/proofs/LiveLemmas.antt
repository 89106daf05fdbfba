-- A live input, piece by piece, and what its frames leave.
use Rattle.std.proofs.Common.{◌≡◌, ◌≢◌, ◌∙◌, ℕ, ◌+◌, ◌<◌, ◌≤◌, false, List, [], ◌∷◌, ◌++◌, Option, Some, Ok, Err}
use Rattle.std.proofs.Common.{Result, IfSome, IfOk, OnOk, refl, sym, ap, subst, take, length, arith, append_assoc}
use Rattle.std.proofs.Common.{append-nil, inl, inr, drop, take-append-drop}
use Rattle.std.proofs.Common.{add_assoc, zero-add}
use Rattle.std.proofs.Math.Seq.{take-length}
use Rattle.std.proofs.lemmas.List.{length-take-le}
use Rattle.std.proofs.lemmas.List.Folds.{concat-append}
use Rattle.std.specs.List.{concat, list_any}
use Rattle.std.specs.Io.KnownBytes.{Appends, Consumes, IsAtEnd, Keeps}
use Rattle.std.specs.IoError.{error_kind}
use Rattle.std.specs.declared.io.Error.{Error}
use Rattle.std.specs.declared.io.ErrorKind.TheVariants.{Interrupted}
use Rattle.terminal_model.specs.Term.{Shown}
use Rattle.screen_model.specs.Holds.{IsSide}
use Rattle.byte_streams.specs.Output.{TakesPrefix}
use Rattle.byte_streams.specs.Pump.{Writes}
use Rattle.byte_streams.proofs.AppendLemmas.{Appends-more, Appends-none, TakesPrefix-none, TakesPart-then}
use Rattle.byte_streams.proofs.SendLemmas.{text-pumped, text-failed, text-appends, text-part}
use Rattle.termrelay.specs.Hub.{HubState, as_kept}
use Rattle.relay_streams.specs.declared.error.RelayError.{RelayError}
use Rattle.relay_streams.specs.declared.error.RelayError.TheVariants.{Read, Write, Memory, TooManyReads, FrameTooLong}
use Rattle.charset_filter.specs.declared.lines.LineDrawing.{LineDrawing}
use Rattle.charset_filter.specs.declared.lines.LineDrawing.TheVariants.{Kept, Drawn}
use Rattle.byte_streams.specs.Source.{IsReadBy}
use Rattle.relay_streams.specs.Fill.{max_reads}
use Rattle.relay_streams.specs.Frames.{asked, is_overlong}
use Rattle.relay_streams.specs.Live as live
use Rattle.charset_filter.specs.Lines.{all_passed, passed}
use Rattle.relay_streams.specs.Live.{live_len, Tries, Listens, SendsFlushed, StreamsThrough, RelaysThrough, IsLiveText}
use Rattle.relay_streams.specs.Live.{Hears, MayWantRoom, PassedOn, PassedPart, TakesLive, TriesOnce, CountsReads}
use Rattle.relay_streams.specs.Live.{WantsRoom}
use Rattle.relay_streams.specs.Live.{ended, farewell, read_as}
use Rattle.relay_streams.specs.Sessions.{AreRelayed, EndsOverlong}
use Rattle.relay_streams.specs.Turns.{Relaying, Turned}
use Rattle.relay_streams.specs.Updates.{cut_pieces, last_end, unless_empty}
use Rattle.relay_streams.proofs.FrameLists.{frames_of, answers_of, base_of, frames-more, fits-push, base-push}
use Rattle.charset_filter.proofs.LineLemmas.{concat-passed, none-passed, passed-cut, passed-push}
use Rattle.relay_streams.proofs.OutcomeLemmas.{if_known}
use Rattle.relay_streams.proofs.OutputLemmas.{Appends-kept}
use Rattle.relay_streams.proofs.PieceLemmas.{Consumes-more, Consumes-none, kept-Consumes, left-known, all-taken}
use Rattle.relay_streams.proofs.SessionLemmas.{frames-are-relayed, ends-overlong, wants-memory, frames-of, relayed-by}
use Rattle.relay_streams.proofs.UpdateLemmas.{concat-cut, concat-unless_push, cut-parts, some-taken, unless-some}

abbrev pub over : Result (Unit {0}) Error
over = Ok tt

abbrev pub well : Result (Unit {0}) RelayError
well = Ok tt

abbrev pub gives_bytes : List ℕ → Result (List ℕ) RelayError
gives_bytes bytes = Ok bytes

concat-one : (pieces : List (List ℕ)) (piece : List ℕ) → concat (pieces ++ piece ∷ []) ≡ concat pieces ++ piece
concat-one pieces piece =
    concat-append pieces (piece ∷ []) ∙ ap (λ zs. concat pieces ++ zs) (append-nil piece)

-- ---- one read

-- some reads were interrupted: whatever the others do completes the whole
pub record TriesOn {S : Type 0} (step : S → ℕ → Result (List ℕ) Error → S → Type 0) (room : ℕ) (old now : S) (made : ℕ)
    : Type 0 where
  pub further : (n : ℕ) (answer : Result (List ℕ) RelayError) (t : S) → Tries step room now n answer t
      → Tries step room old (made + n) answer t

more-made : (made n : ℕ) (answer : Result ℕ RelayError) → IfOk answer (λ k. 0 < n) → IfOk answer (λ k. 0 < made + n)
more-made made n (Ok k) h = omega (arith, h)
more-made made n (Err e) h = tt

pub not_tried : {S : Type 0} {step : S → ℕ → Result (List ℕ) Error → S → Type 0} {room : ℕ} {old : S}
    → TriesOn step room old old 0
not_tried = record { further = λ n answer t tries. rw zero-add tries }

module _ {S : Type 0} {step : S → ℕ → Result (List ℕ) Error → S → Type 0} {room : ℕ} {old now : S} {made : ℕ}
    (g : TriesOn step room old now made) (new : S) where
  pub interrupted : (e : Error) → step now room (Err e) new → error_kind e ≡ Interrupted
      → TriesOn step room old new (made + 1)
  interrupted e read is = record {
    further = λ n answer t tries. rw (add_assoc made 1 n) (g.further (1 + n) answer t (live.again new e read is tries));
  }

  -- the reads have ended
  pub tried : {n : ℕ} (before after : ℕ) (piece : List ℕ) (answer : Result ℕ RelayError)
      → Tries step room now n (read_as answer piece) new → after ≡ before + (made + n) → CountsReads answer after
      → IfOk answer (λ k. k ≤ room) → IfOk answer (λ k. 0 < n)
      → TriesOnce step old room before answer new piece after
  tried {n} before after piece answer tries counted most within some = record {
    made = made + n;
    tries = g.further n (read_as answer piece) new tries;
    counted = counted;
    most = most;
    within = within;
    some = more-made made n answer some;
  }

-- the count for a fault is the same for any type of result
counts-as : (e : RelayError) (count : ℕ) → CountsReads {A = ℕ} (Err e) count → CountsReads {A = Unit {0}} (Err e) count
counts-as Read count h = h
counts-as Write count h = h
counts-as Memory count h = h
counts-as TooManyReads count h = h
counts-as FrameTooLong count h = h

module _ {S : Type 0} {step : S → ℕ → Result (List ℕ) Error → S → Type 0} {old new : S} {room before after : ℕ}
    {answer : Result ℕ RelayError} {piece : List ℕ} (r : TriesOnce step old room before answer new piece after)
    (whole : room ≡ live_len) where
  -- it failed
  pub tried-fault : (e : RelayError) → answer ≡ Err e → Tries step live_len old r.made (Err e) new
  tried-fault e is =
      subst (λ (k : ℕ). Tries step k old r.made (Err e) new) whole
      (subst (λ (a : Result ℕ RelayError). Tries step room old r.made (read_as a piece) new) is r.tries)

  -- it gave some bytes, or none
  pub tried-gave : (n : ℕ) → answer ≡ Ok n → Tries step live_len old r.made (Ok (take n piece)) new
  tried-gave n is =
      subst (λ (k : ℕ). Tries step k old r.made (Ok (take n piece)) new) whole
      (subst (λ (a : Result ℕ RelayError). Tries step room old r.made (read_as a piece) new) is r.tries)

  pub listens-on : {s : S} {past : List (List ℕ)} (n : ℕ) → answer ≡ Ok n → 0 < n → length piece ≡ room
      → Listens step live_len s before past old → Listens step live_len s after (past ++ take n piece ∷ []) new
  listens-on {s} {past} n is some len listens =
      let within : n ≤ room = subst (λ (a : Result ℕ RelayError). IfOk a (λ k. k ≤ room)) is r.within in
      let got : take n piece ≢ [] = λ none. absurd (omega (
        arith,
        some,
        ap length none,
        length-take-le n piece (omega (arith, within, len)),
      )) in
      subst (λ (k : ℕ). Listens step live_len s k (past ++ take n piece ∷ []) new) (sym r.counted)
      (live.more old listens (tried-gave n is) got)

  -- the reads made in all
  pub tried-counts : (e : RelayError) → answer ≡ Err e → CountsReads {A = Unit {0}} (Err e) (before + r.made)
  tried-counts e is =
      subst (λ (k : ℕ). CountsReads {A = Unit {0}} (Err e) k) r.counted
      (counts-as e after (subst (λ (a : Result ℕ RelayError). CountsReads a after) is r.most))

  pub tried-most : (n : ℕ) → answer ≡ Ok n → after ≤ max_reads
  tried-most n is = subst (λ (a : Result ℕ RelayError). CountsReads a after) is r.most

  pub tried-made : (n : ℕ) → answer ≡ Ok n → 0 < r.made
  tried-made n is = subst (λ (a : Result ℕ RelayError). IfOk a (λ k. 0 < r.made)) is r.some

-- ---- turns

-- if the piece that was fed may need memory, so may the piece that was read
pub may-want : (rows cols : ℕ) (lines : LineDrawing) (past : List (List ℕ)) (piece : List ℕ) → IsSide rows
    → IsSide cols → MayWantRoom lines rows cols (all_passed lines past) (passed lines (concat past) piece)
    (base_of rows cols (all_passed lines past)) → WantsRoom lines rows cols past piece
may-want rows cols Kept past piece height width wants = wants-memory rows cols past piece height width wants
may-want rows cols Drawn past piece height width wants = tt

-- where a piece couldn't pass, lines are drawn
pub unpassed : (rows cols : ℕ) (lines : LineDrawing) (fed : List (List ℕ)) (piece : List ℕ) (base : Option Shown)
    → (lines ≡ Kept → ⊥) → MayWantRoom lines rows cols fed piece base
unpassed rows cols Kept fed piece base drawn = absurd (drawn refl)
unpassed rows cols Drawn fed piece base drawn = tt

-- a turn with a piece that passed, at which a fault came
pub turned-fault : {W : Type 0} (takes : W → List ℕ → Result ℕ Error → W → Type 0)
    (flushes : W → Result (Unit {0}) Error → W → Type 0) (lines : LineDrawing) (rows cols : ℕ) (fed : List (List ℕ))
    (piece : List ℕ) (base : Option Shown) (key : ℕ) (w v : W) (e : RelayError) (g : HubState as_kept)
    → Turned takes rows cols fed piece base key w (Err e) v g
    → PassedOn lines takes flushes rows cols fed piece base key w (Err e) v g
turned-fault takes flushes Kept rows cols fed piece base key w v Memory g turned = turned
turned-fault takes flushes Drawn rows cols fed piece base key w v Memory g turned = (tt, turned.1)
turned-fault takes flushes lines rows cols fed piece base key w v FrameTooLong g turned = turned
turned-fault takes flushes lines rows cols fed piece base key w v Write g turned = inl turned
turned-fault takes flushes lines rows cols fed piece base key w v Read g turned = absurd turned
turned-fault takes flushes lines rows cols fed piece base key w v TooManyReads g turned = absurd turned

module _ (S W : Type 0) (gives : S → ℕ → Result (List ℕ) Error → S → Type 0)
    (takes : W → List ℕ → Result ℕ Error → W → Type 0) (flushes : W → Result (Unit {0}) Error → W → Type 0)
    (rows cols : ℕ) (lines : LineDrawing) (past : List (List ℕ)) (piece : List ℕ) where
  -- the pieces that were read, and those of them that were fed
  abbrev pieces : List (List ℕ)
  pieces = past ++ piece ∷ []

  abbrev before : List (List ℕ)
  before = all_passed lines past

  abbrev here : List ℕ
  here = passed lines (concat past) piece

  abbrev fed : List (List ℕ)
  fed = before ++ here ∷ []

  fed-is : all_passed lines pieces ≡ fed
  fed-is = passed-push lines past piece

  abbrev base : Option Shown
  base = base_of rows cols before

  frames-are : frames_of rows cols fed ≡ frames_of rows cols before ++ (asked rows cols (concat fed) base).owed ∷ []
  frames-are = frames-more rows cols before (here ∷ [])

  -- no frame is too long
  abbrev Fit : List (List ℕ) → Type 0
  Fit ps = list_any is_overlong (answers_of rows cols ps) ≡ false

  -- one that went well, and the flush after it
  abbrev Goes : ℕ → HubState as_kept → W → Result (Unit {0}) Error → W → List (List ℕ) → Type 0
  Goes key g w answer v ps = Fit ps × SendsFlushed takes flushes w (frames_of rows cols ps) answer v
      × Relaying rows cols ps (base_of rows cols ps) g key

  pub live-goes : (key : ℕ) (g : HubState as_kept) (w m k v : W) (answer : Result (Unit {0}) Error) → Fit before
      → SendsFlushed takes flushes w (frames_of rows cols before) over m
      → Turned takes rows cols before here base key m well k g → flushes k answer v
      → Goes key g w answer v (all_passed lines pieces)
  live-goes key g w m k v answer fit sends turned flush = subst (Goes key g w answer v) (sym fed-is) (
    fits-push rows cols before here fit turned.0,
    subst (λ (texts : List (List ℕ)). SendsFlushed takes flushes w texts answer v) (sym frames-are)
        (live.sent m k sends turned.1.1 flush),
    subst (λ (b : Option Shown). Relaying rows cols fed b g key) (sym (base-push rows cols before here)) turned.2,
  )

  -- a turn at which a fault came
  pub live-faults : (key : ℕ) (g : HubState as_kept) (s t : S) (w m v : W) (n : ℕ) (e : RelayError) → IsSide rows
      → IsSide cols → Hears gives live_len s n pieces t → Fit before
      → SendsFlushed takes flushes w (frames_of rows cols before) over m
      → PassedOn lines takes flushes rows cols before here base key m (Err e) v g → n ≤ max_reads
      → StreamsThrough lines gives takes flushes rows cols s w (Err e) t v
  live-faults key g s t w m v n Read height width b fit sends turned most = absurd turned
  live-faults key g s t w m v n Write height width b fit sends (inr (k, x, turned, flush)) most =
      let goes = live-goes key g w m k v (Err x) fit sends turned flush in
      live.stopped pieces (frames_of rows cols (all_passed lines pieces)) x b
      (frames-are-relayed rows cols (all_passed lines pieces) height width goes.0) goes.1 most
  live-faults key g s t w m v n Write height width b fit sends (inl (last, x, k, pumps)) most =
      live.stopped pieces (frames_of rows cols fed) x b
      (subst (λ (ps : List (List ℕ)). AreRelayed rows cols ps (frames_of rows cols fed)) (sym fed-is)
      (frames-are-relayed rows cols fed height width (fits-push rows cols before here fit last)))
      (subst (λ (texts : List (List ℕ)). SendsFlushed takes flushes w texts (Err x) v) (sym frames-are)
      (live.broken m sends pumps)) most
  live-faults key g s t w m v n Memory height width b fit sends (wants, stays) most =
      live.unmade past (frames_of rows cols before) piece b (frames-are-relayed rows cols before height width fit)
      (may-want rows cols lines past piece height width wants)
      (subst (λ (u : W). SendsFlushed takes flushes w (frames_of rows cols before) over u) (sym stays) sends) most
  live-faults key g s t w m v n FrameTooLong height width b fit sends (long, stays) most =
      live.overlong past (frames_of rows cols before) piece b (frames-are-relayed rows cols before height width fit)
      (subst (λ (ps : List (List ℕ)). EndsOverlong rows cols ps) (sym fed-is)
      (ends-overlong rows cols before here height width long))
      (subst (λ (u : W). SendsFlushed takes flushes w (frames_of rows cols before) over u) (sym stays) sends) most
  live-faults key g s t w m v n TooManyReads height width b fit sends turned most = absurd turned

  -- all pieces, where the last one is the farewell
  all-ended : (reads : List (List ℕ)) → past ≡ cut_pieces reads → piece ≡ farewell → pieces ≡ ended (cut_pieces reads)
  all-ended reads cut is =
      ap (λ (ps : List (List ℕ)). ps ++ piece ∷ []) cut ∙ ap (λ (last : List ℕ). cut_pieces reads ++ last ∷ []) is

  -- the end of the input, where the piece is the farewell
  pub live-ends : (reads : List (List ℕ)) (key : ℕ) (g : HubState as_kept) (s p t : S) (w m v : W) (n k : ℕ)
      (answer : Result (Unit {0}) RelayError) → IsSide rows → IsSide cols → past ≡ cut_pieces reads → piece ≡ farewell
      → Listens gives live_len s n reads p → Tries gives live_len p k (Ok []) t → Fit before
      → SendsFlushed takes flushes w (frames_of rows cols before) over m
      → PassedOn lines takes flushes rows cols before here base key m answer v g → n + k ≤ max_reads
      → StreamsThrough lines gives takes flushes rows cols s w answer t v
  live-ends reads key g s p t w m v n k (Ok u) height width cut is listens tries fit sends (i, turned, flush) most =
      let goes = live-goes key g w m i v over fit sends turned flush in
      live.finished p reads (frames_of rows cols (all_passed lines pieces)) listens tries
      (subst (λ (ps : List (List ℕ)). AreRelayed rows cols (all_passed lines ps)
      (frames_of rows cols (all_passed lines pieces))) (all-ended reads cut is)
      (frames-are-relayed rows cols (all_passed lines pieces) height width goes.0)) goes.1 most
  live-ends reads key g s p t w m v n k (Err e) height width cut is listens tries fit sends turned most =
      live-faults key g s t w m v (n + k) e height width
      (subst (λ (ps : List (List ℕ)). Hears gives live_len s (n + k) ps t) (sym (all-ended reads cut is))
      (live.at_end p reads listens tries)) fit sends turned most

-- ---- parts of pieces

-- What holds once these pieces have passed and were fed, and their frames were sent. None of the frames is too long.
abbrev pub Sent : {W : Type 0} → (W → List ℕ → Result ℕ Error → W → Type 0)
    → (W → Result (Unit {0}) Error → W → Type 0) → ℕ → ℕ → LineDrawing → List (List ℕ) → ℕ → HubState as_kept → W → W
    → Type 0
Sent takes flushes rows cols lines ps key g w v =
    (list_any is_overlong (answers_of rows cols (all_passed lines ps)) ≡ false)
    × SendsFlushed takes flushes w (frames_of rows cols (all_passed lines ps)) (Ok tt) v
    × Relaying rows cols (all_passed lines ps) (base_of rows cols (all_passed lines ps)) g key

module _ (S W : Type 0) (gives : S → ℕ → Result (List ℕ) Error → S → Type 0)
    (takes : W → List ℕ → Result ℕ Error → W → Type 0) (flushes : W → Result (Unit {0}) Error → W → Type 0)
    (rows cols : ℕ) (lines : LineDrawing) (past : List (List ℕ)) (bytes : List ℕ) (joined : concat past ≡ bytes)
  where
    abbrev Has : List (List ℕ) → ℕ → HubState as_kept → W → W → Type 0
    Has ps key g w v = Sent takes flushes rows cols lines ps key g w v

    abbrev On : List ℕ → ℕ → W → Result (Unit {0}) RelayError → W → HubState as_kept → List ℕ → Type 0
    On part key w answer v g read =
        PassedOn lines takes flushes rows cols (all_passed lines past) (passed lines read part)
        (base_of rows cols (all_passed lines past)) key w answer v g

    abbrev Passes : List ℕ → ℕ → W → HubState as_kept → Result (Unit {0}) RelayError → W → HubState as_kept → Type 0
    Passes part key w h answer v g =
        PassedPart lines takes flushes rows cols (all_passed lines past) bytes part
        (base_of rows cols (all_passed lines past)) key w h answer v g

    pub rejoined : (part : List ℕ) (key : ℕ) (m v : W) (answer : Result (Unit {0}) RelayError) (g : HubState as_kept)
        → On part key m answer v g bytes → On part key m answer v g (concat past)
    rejoined part key m v answer g on = subst (On part key m answer v g) (sym joined) on

    pub part-goes : (part : List ℕ) (key : ℕ) (h g : HubState as_kept) (w m v : W) → Has past key h w m
        → Passes part key m h well v g → Has (past ++ unless_empty part) key g w v
    part-goes [] key h g w m v sent (is, stays, same) =
        subst (λ (ps : List (List ℕ)). Has ps key g w v) (sym (append-nil past))
        (subst (λ (u : W). Has past key g w u) (sym stays)
        (subst (λ (x : HubState as_kept). Has past key x w m) (sym same) sent))
    part-goes (b ∷ bs) key h g w m v sent on =
        let here = rejoined (b ∷ bs) key m v well g on in
        live-goes S W gives takes flushes rows cols lines past (b ∷ bs) key g w m here.0 v over sent.0 sent.1 here.1
        here.2

    pub part-faults : (part : List ℕ) (key : ℕ) (h g : HubState as_kept) (s t : S) (w m v : W) (n : ℕ) (e : RelayError)
        → IsSide rows → IsSide cols → (0 < length part → Hears gives live_len s n (past ++ part ∷ []) t)
        → Has past key h w m → Passes part key m h (Err e) v g → n ≤ max_reads
        → StreamsThrough lines gives takes flushes rows cols s w (Err e) t v
    part-faults [] key h g s t w m v n e height width hears sent (is, stays, same) most =
        absurd (let contrary : Err e ≡ well = is in cc)
    part-faults (b ∷ bs) key h g s t w m v n e height width hears sent on most =
        live-faults S W gives takes flushes rows cols lines past (b ∷ bs) key g s t w m v n e height width
        (hears (omega arith)) sent.0 sent.1 (rejoined (b ∷ bs) key m v (Err e) g on) most

-- the parts of what was read last
module _ {S : Type 0} (gives : S → ℕ → Result (List ℕ) Error → S → Type 0) (room : ℕ) (s t : S) (n k : ℕ)
    (past : List (List ℕ)) (piece : List ℕ) (listens : Listens gives room s n (past ++ piece ∷ []) t)
    (is : k ≡ last_end (concat past) piece)
  where
    pub hears-first : 0 < length (take k piece) → Hears gives room s n (cut_pieces past ++ take k piece ∷ []) t
    hears-first some =
        subst (λ (j : ℕ). Hears gives room s n (cut_pieces past ++ take j piece ∷ []) t) (sym is)
        (live.partly past piece listens (subst (λ (j : ℕ). 0 < j) is (some-taken k piece some)))

    pub hears-rest : 0 < length (drop k piece)
        → Hears gives room s n ((cut_pieces past ++ unless_empty (take k piece)) ++ drop k piece ∷ []) t
    hears-rest some =
        subst (λ (ps : List (List ℕ)). Hears gives room s n ps t)
        (sym (ap (λ (ps : List (List ℕ)). (cut_pieces past ++ unless_empty (take k piece)) ++ ps)
        (sym (unless-some (drop k piece) some)) ∙ cut-parts past piece k is))
        (live.heard (past ++ piece ∷ []) listens)

-- the two parts of the bytes that were read last: the front ends at the last end of an update
module _ (S W : Type 0) (gives : S → ℕ → Result (List ℕ) Error → S → Type 0)
    (takes : W → List ℕ → Result ℕ Error → W → Type 0) (flushes : W → Result (Unit {0}) Error → W → Type 0)
    (rows cols : ℕ) (lines : LineDrawing) (past : List (List ℕ)) (piece : List ℕ) (k : ℕ)
    (is : k ≡ last_end (concat past) piece) (front back : List ℕ) (front-is : front ≡ take k piece)
    (back-is : back ≡ drop k piece)
  where
    abbrev cuts : List (List ℕ)
    cuts = cut_pieces past

    -- with the front
    abbrev fronts : List (List ℕ)
    fronts = cuts ++ unless_empty front

    fronts-joined : concat fronts ≡ concat past ++ front
    fronts-joined = concat-unless_push cuts front ∙ ap (λ (xs : List ℕ). xs ++ front) (concat-cut [] past)

    all-cut : fronts ++ unless_empty back ≡ cut_pieces (past ++ piece ∷ [])
    all-cut =
        ap (λ (xs : List ℕ). (cuts ++ unless_empty xs) ++ unless_empty back) front-is
        ∙ ap (λ (xs : List ℕ). (cuts ++ unless_empty (take k piece)) ++ unless_empty xs) back-is
        ∙ cut-parts past piece k is

    abbrev On-front : ℕ → W → HubState as_kept → Result (Unit {0}) RelayError → W → HubState as_kept → Type 0
    On-front key w h answer v g = PassedPart lines takes flushes rows cols (all_passed lines cuts) (concat past) front
        (base_of rows cols (all_passed lines cuts)) key w h answer v g

    abbrev On-back : ℕ → W → HubState as_kept → Result (Unit {0}) RelayError → W → HubState as_kept → Type 0
    On-back key w h answer v g =
        PassedPart lines takes flushes rows cols (all_passed lines fronts) (concat past ++ front) back
        (base_of rows cols (all_passed lines fronts)) key w h answer v g

    pub front-goes : (key : ℕ) (h g : HubState as_kept) (w m v : W) → Sent takes flushes rows cols lines cuts key h w m
        → On-front key m h well v g → Sent takes flushes rows cols lines fronts key g w v
    front-goes =
        part-goes S W gives takes flushes rows cols lines cuts (concat past) (concat-cut [] past) front

    pub back-goes : (key : ℕ) (h g : HubState as_kept) (w m v : W) → Sent takes flushes rows cols lines fronts key h w m
        → On-back key m h well v g → Sent takes flushes rows cols lines (cut_pieces (past ++ piece ∷ [])) key g w v
    back-goes key h g w m v sent on =
        subst (λ (ps : List (List ℕ)). Sent takes flushes rows cols lines ps key g w v) all-cut
        (part-goes S W gives takes flushes rows cols lines fronts (concat past ++ front) fronts-joined back key h g w m
        v sent on)

    pub front-faults : (key : ℕ) (h g : HubState as_kept) (s t : S) (w m v : W) (n : ℕ) (e : RelayError) → IsSide rows
        → IsSide cols → Listens gives live_len s n (past ++ piece ∷ []) t
        → Sent takes flushes rows cols lines cuts key h w m → On-front key m h (Err e) v g → n ≤ max_reads
        → StreamsThrough lines gives takes flushes rows cols s w (Err e) t v
    front-faults key h g s t w m v n e height width listens sent on most =
        part-faults S W gives takes flushes rows cols lines cuts (concat past) (concat-cut [] past) front key h g s t w m v
        n e height width (λ some. subst (λ (xs : List ℕ). Hears gives live_len s n (cuts ++ xs ∷ []) t) (sym front-is)
        (hears-first gives live_len s t n k past piece listens is
        (subst (λ (xs : List ℕ). 0 < length xs) front-is some))) sent on most

    pub back-faults : (key : ℕ) (h g : HubState as_kept) (s t : S) (w m v : W) (n : ℕ) (e : RelayError) → IsSide rows
        → IsSide cols → Listens gives live_len s n (past ++ piece ∷ []) t
        → Sent takes flushes rows cols lines fronts key h w m → On-back key m h (Err e) v g → n ≤ max_reads
        → StreamsThrough lines gives takes flushes rows cols s w (Err e) t v
    back-faults key h g s t w m v n e height width listens sent on most =
        part-faults S W gives takes flushes rows cols lines fronts (concat past ++ front) fronts-joined back key h g s t w
        m v n e height width (λ some. subst (λ (xs : List ℕ). Hears gives live_len s n (fronts ++ xs ∷ []) t)
        (sym back-is) (subst (λ (xs : List ℕ). Hears gives live_len s n ((cuts ++ unless_empty xs) ++ drop k piece ∷ []) t)
        (sym front-is) (hears-rest gives live_len s t n k past piece listens is
        (subst (λ (xs : List ℕ). 0 < length xs) back-is some)))) sent on most

-- ---- what is left, where the bytes of the source and the writer are known

module _ (S W : Type 0) (gives : S → ℕ → Result (List ℕ) Error → S → Type 0)
    (takes : W → List ℕ → Result ℕ Error → W → Type 0) (flushes : W → Result (Unit {0}) Error → W → Type 0)
    (contents : W → Option (List ℕ)) (left : S → Option (List ℕ))
    (gave : (s : S) (room : ℕ) (answer : Result (List ℕ) Error) (t : S) → gives s room answer t
    → IsReadBy left s room answer t)
    (took : (w : W) (bytes : List ℕ) (answer : Result ℕ Error) (v : W) → takes w bytes answer v
    → Writes contents w bytes answer v)
    (flushed : (w : W) (answer : Result (Unit {0}) Error) (v : W) → flushes w answer v
    → Keeps (contents w) (contents v))
  where
    tries-taken : (room : ℕ) (s : S) (n : ℕ) (answer : Result (List ℕ) RelayError) (t : S) (bytes : List ℕ)
        → Tries gives room s n answer t → answer ≡ gives_bytes bytes → Consumes (left s) (left t) bytes
    tries-taken room s n answer t bytes (live.gave {bytes = some} read) is =
        let same : some ≡ bytes = cc in
        subst (Consumes (left s) (left t)) same (gave s room (Ok some) t read).0
    tries-taken room s n answer t bytes (live.again m e read broke tries) is =
        kept-Consumes (left s) (left m) (left t) bytes (gave s room (Err e) m read)
        (tries-taken room m _ answer t bytes tries is)
    tries-taken room s n answer t bytes _ is = absurd (cc)

    tries-ended : (room : ℕ) (s : S) (n : ℕ) (answer : Result (List ℕ) RelayError) (t : S)
        → Tries gives room s n answer t → answer ≡ gives_bytes [] → 0 < room → IsAtEnd (left t)
    tries-ended room s n answer t (live.gave {bytes = some} read) is wide =
        let none : some ≡ [] = cc in
        (gave s room (Ok some) t read).1 none wide
    tries-ended room s n answer t (live.again m e read broke tries) is wide =
        tries-ended room m _ answer t tries is wide
    tries-ended room s n answer t _ is wide = absurd (cc)

    listens-taken : (s : S) (room n : ℕ) (pieces : List (List ℕ)) (t : S) → Listens gives room s n pieces t
        → Consumes (left s) (left t) (concat pieces)
    listens-taken s room n all t live.begun = Consumes-none (left s)
    listens-taken s room n all t (live.more {pieces = past} {bytes = bytes} m listens tries some) =
        subst (Consumes (left s) (left t)) (sym (concat-one past bytes))
        (Consumes-more (left s) (left m) (left t) (concat past) bytes (listens-taken s room _ past m listens)
        (tries-taken room m _ (Ok bytes) t bytes tries refl))

    flushed-appends : (w v : W) (texts : List (List ℕ)) (answer : Result (Unit {0}) Error)
        → SendsFlushed takes flushes w texts answer v → answer ≡ over
        → Appends (contents w) (contents v) (concat texts)
    flushed-appends w v texts answer live.none is = Appends-none (contents w)
    flushed-appends w v texts answer (live.sent {text = text} {texts = before} {n = n} m k sends pumps flush) is =
        Appends-kept (contents w) (contents k) (contents v) (concat (before ++ text ∷ []))
        (subst (Appends (contents w) (contents k)) (sym (concat-one before text))
        (Appends-more (contents w) (contents m) (contents k) (concat before) text
        (flushed-appends w m before over sends refl)
        (text-appends W takes contents took m k text over (text-pumped W takes m k text n pumps) refl)))
        (flushed k answer v flush)
    flushed-appends w v texts answer (live.broken m sends pumps) is = absurd (cc)

    flushed-prefix : (w v : W) (texts : List (List ℕ)) (answer : Result (Unit {0}) Error)
        → SendsFlushed takes flushes w texts answer v → TakesPrefix (contents w) (contents v) (concat texts)
    flushed-prefix w v texts answer live.none = TakesPrefix-none (contents w) []
    flushed-prefix w v texts answer (live.sent {text = text} {texts = before} {n = n} m k sends pumps flush) =
        let all : Appends (contents w) (contents k) (concat (before ++ text ∷ [])) =
        subst (Appends (contents w) (contents k)) (sym (concat-one before text))
        (Appends-more (contents w) (contents m) (contents k) (concat before) text
        (flushed-appends w m before over sends refl)
        (text-appends W takes contents took m k text over (text-pumped W takes m k text n pumps) refl)) in
        let text' = concat (before ++ text ∷ []) in (
          length text',
          rw (take-length text') (Appends-kept (contents w) (contents k) (contents v) text' all
              (flushed k answer v flush)),
        )
    flushed-prefix w v texts answer (live.broken {text = text} {texts = before} {n = n} {e = e} m sends pumps) =
        let part = TakesPart-then (contents w) (contents m) (contents v) (concat before) text
        (flushed-appends w m before over sends refl)
        (text-part W takes contents took m v text (Err e) e (text-failed W takes m v text e n pumps) refl) in
        subst (TakesPrefix (contents w) (contents v)) (sym (concat-one before text)) (part.0, part.2)

    -- what was pumped to the client of these pieces
    pumped-is : (rows cols : ℕ) (pieces frames : List (List ℕ)) (are : AreRelayed rows cols pieces frames)
        → are.story.session.pumped ≡ concat frames
    pumped-is rows cols pieces frames are =
        (relayed-by rows cols are.key pieces are.story are.is).pumped
        ∙ ap concat (sym (frames-of rows cols pieces frames are))

    takes-live : (rows cols : ℕ) (lines : LineDrawing) (w v : W) (pieces frames : List (List ℕ))
        (answer : Result (Unit {0}) Error) (bytes rest : List ℕ) → AreRelayed rows cols (all_passed lines pieces) frames
        → SendsFlushed takes flushes w frames answer v → bytes ≡ concat pieces ++ rest
        → TakesLive rows cols (passed lines [] bytes) (contents w) (contents v)
    takes-live rows cols lines w v pieces frames answer bytes rest are sends cut = record {
      pieces = all_passed lines pieces;
      rest = passed lines (concat pieces) rest;
      cut = ap (passed lines []) cut ∙ passed-cut lines pieces rest;
      key = are.key;
      story = are.story;
      is = are.is;
      took = subst (TakesPrefix (contents w) (contents v))
          (sym (pumped-is rows cols (all_passed lines pieces) frames are)) (flushed-prefix w v frames answer sends);
    }

    listened : (s : S) (n : ℕ) (pieces : List (List ℕ)) (t : S) (bytes : List ℕ) → Listens gives live_len s n pieces t
        → left s ≡ Some bytes → (rest : List ℕ) × (bytes ≡ concat pieces ++ rest)
    listened s n pieces t bytes listens is =
        let known = left-known (left s) (left t) bytes (concat pieces) is (listens-taken s live_len n pieces t
        listens) in
        (known.0, known.2)

    -- all pieces, where the input ended
    listened-all : (s m : S) (n k : ℕ) (pieces : List (List ℕ)) (t : S) (bytes : List ℕ)
        → Listens gives live_len s n pieces m → Tries gives live_len m k (Ok []) t → left s ≡ Some bytes
        → concat pieces ≡ bytes
    listened-all s m n k pieces t bytes listens tries is =
        all-taken (left s) (left t) bytes (concat pieces) is
        (subst (Consumes (left s) (left t)) (append-nil (concat pieces))
        (Consumes-more (left s) (left m) (left t) (concat pieces) []
        (listens-taken s live_len n pieces m listens) (tries-taken live_len m k (Ok []) t [] tries refl)))
        (tries-ended live_len m k (Ok []) t tries refl (omega arith))

    cut-joined : (pieces : List (List ℕ)) → concat (cut_pieces pieces) ≡ concat pieces
    cut-joined pieces = concat-cut [] pieces

    -- after the pieces that come, more may be left, and then the farewell
    heard-with : (s : S) (n : ℕ) (pieces : List (List ℕ)) (t : S) (bytes : List ℕ)
        → Listens gives live_len s n pieces t → left s ≡ Some bytes
        → (rest : List ℕ) × (bytes ++ farewell ≡ concat (cut_pieces pieces) ++ rest)
    heard-with s n pieces t bytes listens is =
        let cut = listened s n pieces t bytes listens is in (
          cut.0 ++ farewell,
          ap (λ zs. zs ++ farewell) cut.1 ∙ append_assoc (concat pieces) cut.0 farewell
              ∙ ap (λ (xs : List ℕ). xs ++ (cut.0 ++ farewell)) (sym (cut-joined pieces)),
        )

    heard-cut : (s : S) (n : ℕ) (pieces : List (List ℕ)) (t : S) (bytes : List ℕ)
        → Hears gives live_len s n pieces t → left s ≡ Some bytes
        → (rest : List ℕ) × (bytes ++ farewell ≡ concat pieces ++ rest)
    heard-cut s n _ t bytes (live.heard pieces listens) is = heard-with s n pieces t bytes listens is
    heard-cut s n _ t bytes (live.partly pieces piece listens some) is =
        let all = listened s n (pieces ++ piece ∷ []) t bytes listens is in
        let k = last_end (concat pieces) piece in
        let first : concat (cut_pieces pieces ++ take k piece ∷ []) ≡ concat pieces ++ take k piece =
        concat-one (cut_pieces pieces) (take k piece) ∙ ap (λ (xs : List ℕ). xs ++ take k piece) (cut-joined pieces) in
        let rest = (drop k piece ++ all.0) ++ farewell in
        let parts : concat pieces ++ piece ≡ (concat pieces ++ take k piece) ++ drop k piece =
        ap (λ (xs : List ℕ). concat pieces ++ xs) (sym (take-append-drop k piece))
        ∙ sym (append_assoc (concat pieces) (take k piece) (drop k piece)) in (
          rest,
          ap (λ (xs : List ℕ). xs ++ farewell) (all.1
              ∙ ap (λ (xs : List ℕ). xs ++ all.0) (concat-one pieces piece ∙ parts)
              ∙ append_assoc (concat pieces ++ take k piece) (drop k piece) all.0)
              ∙ append_assoc (concat pieces ++ take k piece) (drop k piece ++ all.0) farewell
              ∙ ap (λ (xs : List ℕ). xs ++ rest) (sym first),
        )
    heard-cut s _ _ t bytes (live.at_end {n = n} {k = k} m pieces listens tries) is = (
      [],
      sym (append-nil (concat (ended (cut_pieces pieces))) ∙ concat-one (cut_pieces pieces) farewell
          ∙ ap (λ zs. zs ++ farewell) (cut-joined pieces ∙ listened-all s m n k pieces t bytes listens tries is)),
    )

    -- the same of all pieces but the last one
    heard-past : (s : S) (n : ℕ) (pieces : List (List ℕ)) (piece : List ℕ) (t : S) (bytes : List ℕ)
        → Hears gives live_len s n (pieces ++ piece ∷ []) t → left s ≡ Some bytes
        → (rest : List ℕ) × (bytes ++ farewell ≡ concat pieces ++ rest)
    heard-past s n pieces piece t bytes hears is =
        let all = heard-cut s n (pieces ++ piece ∷ []) t bytes hears is in (
          piece ++ all.0,
          all.1 ∙ ap (λ zs. zs ++ all.0) (concat-one pieces piece) ∙ append_assoc (concat pieces) piece all.0,
        )

    pub streams-prefix : (rows cols : ℕ) (lines : LineDrawing) (s : S) (w : W) (answer : Result (Unit {0}) RelayError)
        (t : S) (v : W) (bytes : List ℕ) → StreamsThrough lines gives takes flushes rows cols s w answer t v
        → left s ≡ Some bytes → TakesLive rows cols (passed lines [] (bytes ++ farewell)) (contents w) (contents v)
    streams-prefix rows cols lines s w answer t v bytes
        (live.unread {n = n} m pieces frames e listens tries are sends counts) is =
        let cut = heard-with s n pieces m bytes listens is in
        takes-live rows cols lines w v (cut_pieces pieces) frames over (bytes ++ farewell) cut.0 are sends cut.1
    streams-prefix rows cols lines s w answer t v bytes (live.unmade {n = n} pieces frames piece hears are wants sends most)
        is =
        let cut = heard-past s n pieces piece t bytes hears is in
        takes-live rows cols lines w v pieces frames over (bytes ++ farewell) cut.0 are sends cut.1
    streams-prefix rows cols lines s w answer t v bytes
        (live.overlong {n = n} pieces frames piece hears are ends sends most) is =
        let cut = heard-past s n pieces piece t bytes hears is in
        takes-live rows cols lines w v pieces frames over (bytes ++ farewell) cut.0 are sends cut.1
    streams-prefix rows cols lines s w answer t v bytes (live.stopped {n = n} pieces frames e hears are sends most) is =
        let cut = heard-cut s n pieces t bytes hears is in
        takes-live rows cols lines w v pieces frames (Err e) (bytes ++ farewell) cut.0 are sends cut.1
    streams-prefix rows cols lines s w answer t v bytes
        (live.finished {n = n} {k = k} m pieces frames listens tries are sends most) is =
        let cut = heard-cut s (n + k) (ended (cut_pieces pieces)) t bytes (live.at_end m pieces listens tries) is in
        takes-live rows cols lines w v (ended (cut_pieces pieces)) frames over (bytes ++ farewell) cut.0 are sends cut.1

    streams-whole : (rows cols : ℕ) (lines : LineDrawing) (s : S) (w : W) (answer : Result (Unit {0}) RelayError)
        (t : S)
        (v : W) (bytes : List ℕ) → StreamsThrough lines gives takes flushes rows cols s w answer t v → answer ≡ well
        → left s ≡ Some bytes
        → (text : List ℕ) × IsLiveText rows cols (passed lines [] (bytes ++ farewell)) text
        × Appends (contents w) (contents v) text
    streams-whole rows cols lines s w answer t v bytes
        (live.finished {n = n} {k = k} m pieces frames listens tries are sends most) ok is = (
          concat frames,
          record {
            pieces = all_passed lines (ended (cut_pieces pieces));
            whole = concat-passed lines (ended (cut_pieces pieces))
                ∙ ap (passed lines []) (concat-one (cut_pieces pieces) farewell ∙ ap (λ zs. zs ++ farewell)
                (cut-joined pieces ∙ listened-all s m n k pieces t bytes listens tries is));
            key = are.key;
            story = are.story;
            is = are.is;
            fits = are.fits;
            pumped = pumped-is rows cols (all_passed lines (ended (cut_pieces pieces))) frames are;
          },
          flushed-appends w v frames over sends refl,
        )
    streams-whole rows cols lines s w answer t v bytes _ ok is = absurd (cc)

    -- all that the contract of `relay_live_with` says of what it leaves
    pub live-reported : (rows cols : ℕ) (lines : LineDrawing) (s : S) (w : W) (answer : Result (Unit {0}) RelayError)
        (t : S) (v : W) → IsSide rows → IsSide cols
        → RelaysThrough lines gives takes flushes rows cols s w answer t v
        → OnOk answer (IfSome (left s) (λ bytes. (text : List ℕ)
        × IsLiveText rows cols (passed lines [] (bytes ++ farewell)) text
        × Appends (contents w) (contents v) text))
        × IfSome (left s) (λ bytes. TakesLive rows cols (passed lines [] (bytes ++ farewell)) (contents w)
        (contents v))
    live-reported rows cols lines s w answer t v height width live.refused = (
      tt,
      if_known (left s) _ (λ bytes is.
          takes-live rows cols lines w w [] (frames_of rows cols []) over (bytes ++ farewell) (bytes ++ farewell)
          (none-passed lines (λ ps. AreRelayed rows cols ps (frames_of rows cols []))
          (frames-are-relayed rows cols [] height width refl)) live.none refl),
    )
    live-reported rows cols lines s w (Ok u) t v height width (live.streamed streams) = (
      if_known (left s) _ (λ bytes is. streams-whole rows cols lines s w (Ok u) t v bytes streams refl is),
      if_known (left s) _ (λ bytes is. streams-prefix rows cols lines s w (Ok u) t v bytes streams is),
    )
    live-reported rows cols lines s w (Err e) t v height width (live.streamed streams) = (
      tt,
      if_known (left s) _ (λ bytes is. streams-prefix rows cols lines s w (Err e) t v bytes streams is),
    )
