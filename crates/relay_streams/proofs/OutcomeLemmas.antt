-- What commands leave, where the bytes of the source and the writer are known.
use Rattle.std.proofs.Common.{◌≡◌, ℕ, true, List, [], ◌∷◌, ◌++◌, append-nil, Option, None, Some, Ok, Err, Result}
use Rattle.std.proofs.Common.{OnOk, IfSome, take, refl, sym, ap, ◌∙◌, subst}
use Rattle.std.specs.List.{concat, list_any}
use Rattle.std.proofs.lemmas.List.Folds.{concat-append}
use Rattle.std.specs.Io.KnownBytes.{Appends, Keeps}
use Rattle.std.specs.declared.io.Error.{Error}
use Rattle.terminal_model.specs.Term.{Size}
use Rattle.relay_streams.specs.declared.error.RelayError.{RelayError}
use Rattle.relay_streams.specs.declared.error.RelayError.TheVariants.{Read, TooManyReads, FrameTooLong}
use Rattle.byte_streams.specs.Source.{IsReadBy}
use Rattle.relay_streams.specs.Fill.{FillEnd, Full, Ended, Failed, TooMany}
use Rattle.relay_streams.specs.Frames.{is_overlong}
use Rattle.termrelay.specs.declared.answer.Answer.{Answer}
use Rattle.termrelay.specs.declared.answer.Answer.TheVariants.{TooLong}
use Rattle.relay_theorem.specs.History.{Story}
use Rattle.byte_streams.specs.Output.{TakesPrefix}
use Rattle.relay_streams.specs.Pieces.{pieces_of, piece_len, outcome_of, Drained}
use Rattle.relay_streams.specs.Relayed as relayed
use Rattle.relay_streams.specs.Relayed.{Streams, Relays}
use Rattle.relay_streams.specs.Sessions.{IsRelayed, has_overlong, AreRelayed, EndsOverlong, IsRelayText}
use Rattle.byte_streams.specs.Sent.{Sends}
use Rattle.byte_streams.specs.Pump.{Writes}
use Rattle.relay_streams.specs.Shown as shown
use Rattle.relay_streams.specs.Shown.{IsTextShown, Prints, Shows}
use Rattle.byte_streams.proofs.AppendLemmas.{TakesPrefix-none, TakesPrefix-longer}
use Rattle.relay_streams.proofs.PieceLemmas.{drained-pieces, drained-prefix, begun-prefix, begun-well}
use Rattle.relay_streams.proofs.FrameLists.{frames_of, frames_from, answers_of, answers_from, base_of, relay_text}
use Rattle.relay_streams.proofs.FrameLists.{frames-more, answers-more, one-there}
use Rattle.relay_streams.proofs.SessionLemmas.{relayed-answers, frames-of, pumped-of, overlong-of, relayed-as}
use Rattle.byte_streams.proofs.SendLemmas.{sends-appends, sends-prefix, text-prefix}
use Rattle.relay_streams.proofs.LawLemmas.{texts_are_one}
use Rattle.relay_streams.proofs.OutputLemmas.{Appends-kept, prints-text}

pub if_known : (known : Option (List ℕ)) (P : List ℕ → Type 0) → ((bytes : List ℕ) → known ≡ Some bytes → P bytes)
    → IfSome known P
if_known None P all = tt
if_known (Some bytes) P all = all bytes refl

Keeps-prefix : (a b c : Option (List ℕ)) (xs : List ℕ) → TakesPrefix a b xs → Keeps b c → TakesPrefix a c xs
Keeps-prefix a b c xs (n, took) k = (n, Appends-kept a b c (take n xs) took k)

abbrev stop : RelayError → Result (Unit {0}) RelayError
stop e = Err e

-- a fault of reading is no other one
no-read : (end : FillEnd) (e : RelayError) → stop e ≡ outcome_of end → stop e ≡ stop FrameTooLong → ⊥
no-read Full e is long = absurd (cc)
no-read Ended e is long = absurd (cc)
no-read Failed e is long = absurd (let no : stop Read ≡ stop FrameTooLong = sym is ∙ long in cc)
no-read TooMany e is long = absurd (let no : stop TooManyReads ≡ stop FrameTooLong = sym is ∙ long in cc)

module _ (S W : Type 0) (gives : S → ℕ → Result (List ℕ) Error → S → Type 0)
    (takes : W → List ℕ → Result ℕ Error → W → Type 0) (flushes : W → Result (Unit {0}) Error → W → Type 0)
    (contents : W → Option (List ℕ)) (left : S → Option (List ℕ))
    (gave : (s : S) (room : ℕ) (answer : Result (List ℕ) Error) (t : S) → gives s room answer t
    → IsReadBy left s room answer t)
    (took : (w : W) (bytes : List ℕ) (answer : Result ℕ Error) (v : W) → takes w bytes answer v
    → Writes contents w bytes answer v)
    (flushed : (w : W) (answer : Result (Unit {0}) Error) (v : W) → flushes w answer v
    → Keeps (contents w) (contents v))
  where
    -- the frames of the first pieces are the first ones
    prefix-of : (rows cols : ℕ) (w v : W) (pieces frames : List (List ℕ)) (answer : Result (Unit {0}) Error)
        (bytes : List ℕ) → AreRelayed rows cols pieces frames → Sends takes w frames answer v
        → (more : List (List ℕ)) × (pieces_of bytes ≡ pieces ++ more)
        → TakesPrefix (contents w) (contents v) (relay_text rows cols bytes)
    prefix-of rows cols w v pieces frames answer bytes relayed sends (more, are) =
        let rest = frames_from rows cols pieces (base_of rows cols pieces) more in
        let whole : concat (frames_of rows cols pieces) ++ concat rest ≡ relay_text rows cols bytes =
        sym (concat-append (frames_of rows cols pieces) rest) ∙ ap concat (sym (frames-more rows cols pieces more))
        ∙ ap (λ (ps : List (List ℕ)). concat (frames_of rows cols ps)) (sym are) in
        subst (TakesPrefix (contents w) (contents v)) whole
        (TakesPrefix-longer (contents w) (contents v) (concat (frames_of rows cols pieces)) (concat rest)
        (sends-prefix W takes contents took w v (frames_of rows cols pieces) answer
        (subst (λ (fs : List (List ℕ)). Sends takes w fs answer v) (frames-of rows cols pieces frames relayed) sends)))

    streams-prefix : (rows cols : ℕ) (s : S) (w : W) (answer : Result (Unit {0}) RelayError) (t : S) (v : W)
        (bytes : List ℕ) → Streams gives takes rows cols s w answer t v → left s ≡ Some bytes
        → TakesPrefix (contents w) (contents v) (relay_text rows cols bytes)
    streams-prefix rows cols s w answer t v bytes (relayed.unread pieces frames rest e d are sends) is =
        prefix-of rows cols w v pieces frames (Ok tt) bytes are sends
        (drained-prefix S gives left gave s pieces rest (Err e) t bytes d is)
    streams-prefix rows cols s w answer t v bytes (relayed.unmade pieces frames piece b are wants sends) is =
        prefix-of rows cols w v pieces frames (Ok tt) bytes are sends
        (begun-prefix S gives left gave s pieces piece t bytes b is)
    streams-prefix rows cols s w answer t v bytes (relayed.overlong pieces frames piece b are ends sends) is =
        prefix-of rows cols w v pieces frames (Ok tt) bytes are sends
        (begun-prefix S gives left gave s pieces piece t bytes b is)
    streams-prefix rows cols s w answer t v bytes (relayed.stopped pieces frames e b are sends) is =
        prefix-of rows cols w v pieces frames (Err e) bytes are sends
        (begun-well S gives left gave s pieces t bytes b is)
    streams-prefix rows cols s w answer t v bytes (relayed.sent pieces frames d are sends) is =
        prefix-of rows cols w v pieces frames (Ok tt) bytes are sends
        ([], sym (drained-pieces S gives left gave s pieces t bytes d is) ∙ sym (append-nil pieces))

    streams-whole : (rows cols : ℕ) (s : S) (w : W) (answer : Result (Unit {0}) RelayError) (t : S) (v : W)
        (bytes : List ℕ) → Streams gives takes rows cols s w answer t v → answer ≡ Ok tt → left s ≡ Some bytes
        → (text : List ℕ) × IsRelayText rows cols bytes text × Appends (contents w) (contents v) text
    streams-whole rows cols s w answer t v bytes (relayed.sent pieces frames d are sends) ok is = (
      concat frames,
      relayed-as rows cols bytes pieces frames (concat frames) are
          (drained-pieces S gives left gave s pieces t bytes d is) refl,
      sends-appends W takes contents took w v frames (Ok tt) sends refl,
    )
    streams-whole rows cols s w answer t v bytes _ ok is = absurd (cc)

    pub relays-text : (rows cols : ℕ) (s : S) (w : W) (answer : Result (Unit {0}) RelayError) (t : S) (v : W)
        → Relays gives takes flushes rows cols s w answer t v
        → OnOk answer (IfSome (left s) (λ bytes. (text : List ℕ) × IsRelayText rows cols bytes text
        × Appends (contents w) (contents v) text))
    relays-text rows cols s w answer t v (relayed.written m stream flush) =
        if_known (left s) _ (λ bytes is.
        let whole = streams-whole rows cols s w (Ok tt) t m bytes stream refl is in (
          whole.0,
          whole.1,
          Appends-kept (contents w) (contents m) (contents v) whole.0 whole.2 (flushed m (Ok tt) v flush),
        ))
    relays-text rows cols s w answer t v _ = tt

    -- what was written is a prefix of the one text
    prefixes : (rows cols key : ℕ) (w v : W) (bytes : List ℕ) (t : Story) → IsRelayed rows cols key (pieces_of bytes) t
        → TakesPrefix (contents w) (contents v) (relay_text rows cols bytes)
        → TakesPrefix (contents w) (contents v) t.session.pumped
    prefixes rows cols key w v bytes t is took =
        subst (TakesPrefix (contents w) (contents v)) (sym (pumped-of rows cols key bytes t is)) took

    relays-prefix : (rows cols : ℕ) (s : S) (w : W) (answer : Result (Unit {0}) RelayError) (t : S) (v : W)
        → Relays gives takes flushes rows cols s w answer t v
        → IfSome (left s) (λ bytes. (key : ℕ) (u : Story) → IsRelayed rows cols key (pieces_of bytes) u
        → TakesPrefix (contents w) (contents v) u.session.pumped)
    relays-prefix rows cols s w answer t v relayed.refused =
        if_known (left s) _ (λ bytes is key u so. TakesPrefix-none (contents w) u.session.pumped)
    relays-prefix rows cols s w answer t v (relayed.broken e stream) =
        if_known (left s) _ (λ bytes is key u so. prefixes rows cols key w v bytes u so
        (streams-prefix rows cols s w (Err e) t v bytes stream is))
    relays-prefix rows cols s w answer t v (relayed.unflushed m e stream flush) =
        if_known (left s) _ (λ bytes is key u so. prefixes rows cols key w v bytes u so
        (Keeps-prefix (contents w) (contents m) (contents v) (relay_text rows cols bytes)
        (streams-prefix rows cols s w (Ok tt) t m bytes stream is) (flushed m (Err e) v flush)))
    relays-prefix rows cols s w answer t v (relayed.written m stream flush) =
        if_known (left s) _ (λ bytes is key u so. prefixes rows cols key w v bytes u so
        (Keeps-prefix (contents w) (contents m) (contents v) (relay_text rows cols bytes)
        (streams-prefix rows cols s w (Ok tt) t m bytes stream is) (flushed m (Ok tt) v flush)))

    -- where the frame of one of the first pieces would be too long, one of the whole input's would be
    long-prefix : (rows cols key : ℕ) (pieces more all : List (List ℕ)) (u : Story) → EndsOverlong rows cols pieces
        → all ≡ pieces ++ more → IsRelayed rows cols key all u → has_overlong u ≡ true
    long-prefix rows cols key pieces more all u ends are is =
        let rest = answers_from rows cols pieces (base_of rows cols pieces) more in
        let first : answers_of rows cols pieces ≡ ends.prefix ++ TooLong ∷ [] =
        sym (relayed-answers rows cols ends.key pieces ends.story ends.is) ∙ ends.answers in
        let whole : answers_of rows cols all ≡ (ends.prefix ++ TooLong ∷ []) ++ rest =
        ap (answers_of rows cols) are ∙ answers-more rows cols pieces more
        ∙ ap (λ (xs : List Answer). xs ++ rest) first in
        overlong-of rows cols key all u is ∙ ap (λ (xs : List Answer). list_any is_overlong xs) whole
        ∙ one-there ends.prefix rest

    streams-long : (rows cols : ℕ) (s : S) (w : W) (answer : Result (Unit {0}) RelayError) (t : S) (v : W)
        (bytes : List ℕ) → Streams gives takes rows cols s w answer t v → answer ≡ Err FrameTooLong
        → left s ≡ Some bytes → (key : ℕ) (u : Story) → IsRelayed rows cols key (pieces_of bytes) u
        → has_overlong u ≡ true
    streams-long rows cols s w answer t v bytes (relayed.unread pieces frames rest e d are sends) long is key u so =
        absurd (no-read d.end e d.answered long)
    streams-long rows cols s w answer t v bytes (relayed.overlong pieces frames piece b are ends sends) long is key u
        so =
        let more = begun-well S gives left gave s (pieces ++ piece ∷ []) t bytes b is in
        long-prefix rows cols key (pieces ++ piece ∷ []) more.0 (pieces_of bytes) u ends more.1 so
    streams-long rows cols s w answer t v bytes _ long is key u so = absurd (cc)

    relays-long : (rows cols : ℕ) (s : S) (w : W) (answer : Result (Unit {0}) RelayError) (t : S) (v : W)
        → Relays gives takes flushes rows cols s w answer t v → answer ≡ Err FrameTooLong
        → IfSome (left s) (λ bytes. (key : ℕ) (u : Story) → IsRelayed rows cols key (pieces_of bytes) u
        → has_overlong u ≡ true)
    relays-long rows cols s w answer t v (relayed.broken e stream) long =
        if_known (left s) _ (λ bytes is key u so. streams-long rows cols s w (Err e) t v bytes stream long is key u so)
    relays-long rows cols s w answer t v _ long = absurd (cc)

    -- all that its contract says of what it leaves
    pub relays-reported : (rows cols : ℕ) (s : S) (w : W) (answer : Result (Unit {0}) RelayError) (t : S) (v : W)
        → Relays gives takes flushes rows cols s w answer t v
        → OnOk answer (IfSome (left s) (λ bytes. (text : List ℕ) × IsRelayText rows cols bytes text
        × Appends (contents w) (contents v) text))
        × IfSome (left s) (λ bytes. (key : ℕ) (u : Story) → IsRelayed rows cols key (pieces_of bytes) u
        → TakesPrefix (contents w) (contents v) u.session.pumped)
        × (answer ≡ Err FrameTooLong → IfSome (left s) (λ bytes. (key : ℕ) (u : Story)
        → IsRelayed rows cols key (pieces_of bytes) u → has_overlong u ≡ true))
    relays-reported rows cols s w answer t v r = (
      relays-text rows cols s w answer t v r,
      relays-prefix rows cols s w answer t v r,
      relays-long rows cols s w answer t v r,
    )

    pub prints-prefix : (w : W) (text : List ℕ) (answer : Result (Unit {0}) RelayError) (v : W)
        → Prints takes flushes w text answer v → TakesPrefix (contents w) (contents v) text
    prints-prefix w text answer v (shown.stopped e sends) = text-prefix W takes contents took w v text (Err e) sends
    prints-prefix w text answer v (shown.unflushed m e sends flush) =
        Keeps-prefix (contents w) (contents m) (contents v) text
        (text-prefix W takes contents took w m text (Ok tt) sends) (flushed m (Err e) v flush)
    prints-prefix w text answer v (shown.printed m sends flush) =
        Keeps-prefix (contents w) (contents m) (contents v) text
        (text-prefix W takes contents took w m text (Ok tt) sends) (flushed m (Ok tt) v flush)

    -- the text of the pieces that were read is one of the whole input
    whole-shown : (z : Size) (s t : S) (pieces : List (List ℕ)) (text bytes : List ℕ)
        → Drained gives piece_len s pieces (Ok tt) t → left s ≡ Some bytes → IsTextShown z pieces text
        → IsTextShown z (pieces_of bytes) text
    whole-shown z s t pieces text bytes d known is =
        subst (λ (ps : List (List ℕ)). IsTextShown z ps text) (drained-pieces S gives left gave s pieces t bytes d
        known) is

    on-ok : (answer : Result (Unit {0}) RelayError) (known : Option (List ℕ)) (P : List ℕ → Type 0) (A : Type 0)
        → OnOk answer A → ((bytes : List ℕ) → known ≡ Some bytes → A → P bytes) → OnOk answer (IfSome known P)
    on-ok (Ok done) known P A h all = if_known known P (λ bytes is. all bytes is h)
    on-ok (Err e) known P A h all = tt

    pub shows-text : (z : Size) (s : S) (w : W) (answer : Result (Unit {0}) RelayError) (t : S) (v : W)
        → Shows gives takes flushes z s w answer t v
        → OnOk answer (IfSome (left s) (λ bytes. (text : List ℕ) × IsTextShown z (pieces_of bytes) text
        × Appends (contents w) (contents v) text))
    shows-text z s w answer t v (shown.shown pieces text d is prints) =
        on-ok answer (left s) _ (Appends (contents w) (contents v) text) (prints-text W takes flushes contents took
        flushed w text answer v prints)
        (λ bytes known took. (text, whole-shown z s t pieces text bytes d known is, took))
    shows-text z s w answer t v _ = tt

    pub shows-prefix : (z : Size) (s : S) (w : W) (answer : Result (Unit {0}) RelayError) (t : S) (v : W)
        → Shows gives takes flushes z s w answer t v
        → IfSome (left s) (λ bytes. (text : List ℕ) → IsTextShown z (pieces_of bytes) text
        → TakesPrefix (contents w) (contents v) text)
    shows-prefix z s w answer t v (shown.shown pieces text d is prints) =
        if_known (left s) _ (λ bytes known other so.
        subst (TakesPrefix (contents w) (contents v))
        (texts_are_one z (pieces_of bytes) text other (whole-shown z s t pieces text bytes d known is) so)
        (prints-prefix w text answer v prints))
    shows-prefix z s w answer t v _ = if_known (left s) _ (λ bytes known text is. TakesPrefix-none (contents w) text)
