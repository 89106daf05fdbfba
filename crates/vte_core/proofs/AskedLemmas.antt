-- Bytes between whose steps the performer is asked.
use Rattle.std.proofs.Common.{◌≡◌, ◌==◌, ℕ, zero, suc, ◌+◌, ◌-◌, ◌<◌, Bool, true, false, not, List, [], ◌++◌, length}
use Rattle.std.proofs.Common.{take, drop, arith, length-take, refl, subst}
use Rattle.std.proofs.lemmas.List.{take-append-drop}
use Rattle.vte_core.specs.Event.{Event}
use Rattle.vte_core.specs.Pending.{Pending, InText, after_bytes, events_from}
use Rattle.vte_core.specs.Reads.{Reads, ReadsAsked, ReadsOn, ReadsStep}
use Rattle.vte_core.specs.Runs.{is_one_step}
use Rattle.vte_core.specs.Standing.{IsAt}
use Rattle.vte_core.specs.Stopping.{StopsAt}
use Rattle.vte_core.specs.declared.parser.Parser.{Parser}
use Rattle.vte_core.specs.declared.parser.State.TheVariants.{Ground}
use Rattle.vte_core.proofs.Machine.{after_bytes-append}
use Rattle.vte_core.proofs.Quiet.{one-step, step_stops}
use Rattle.vte_core.proofs.ReadsLemmas.{reads_none, reads_on}
use Rattle.vte_core.proofs.Runs.{piece_and_rest, read_more}
use Rattle.vte_core.proofs.StopLemmas.{whole_rest}
use Rattle.vte_core.proofs.Telling.{same_events}

-- where a reader doesn't ask
pub never-asked : (a : ℕ) → a ≡ 0 → not (a == 0) ≡ true → ⊥
never-asked a none asks = let no = rw none at asks in cc

module _ {S : Type 0} {step : S → Event → S → Type 0} {terminated : S → Bool} {n : ℕ} {p r : Parser n}
    {old new : S} where
  pub asked_step : (bs : List ℕ) (k : ℕ) → terminated old ≡ false → ReadsStep step n p old bs k r new
      → ReadsAsked step terminated n p old bs k r new
  asked_step bs k goes_on read = record {
    reads = read.reads;
    stops = λ q at j end left.
        let tells = read.reads.reported in
        let gone = same_events step old new tells.reported (events_from n q (take k bs))
        (tells.added q at) tells.performed
        in
        let whole = step_stops step terminated n q (take k bs) (drop k bs) old new j end
        (read.is_step q at) goes_on gone left
        in
        let all : take k bs ++ drop k bs ≡ bs = take-append-drop k bs in
        let len : length (take k bs) + j ≡ k + j = omega (arith, length-take k bs, read.reads.within) in
        rw (all, len) at whole;
  }

module _ {S : Type 0} {step : S → Event → S → Type 0} {n : ℕ} {p r : Parser n} {old new : S} where
  -- no bytes leave the performer as it was
  unmoved : (q : Pending) (bs : List ℕ) → IsAt n p q → Reads step n p old bs 0 r new → new ≡ old
  unmoved q bs at read =
      same_events step old new read.reported.reported [] (read.reported.added q at) read.reported.performed

module _ {S : Type 0} {step : S → Event → S → Type 0} {terminated : S → Bool} {n : ℕ} {p r : Parser n}
    {old new : S} where
  -- one run of ground text, or none
  pub asked_run : (bs : List ℕ) (k : ℕ) → terminated old ≡ false → Reads step n p old bs k r new
      → (0 < k → (q : Pending) → IsAt n p q → is_one_step q (take k bs) (drop k bs) ≡ true)
      → ReadsAsked step terminated n p old bs k r new
  asked_run bs zero goes_on read one = record {
    reads = read;
    stops = λ q at j end left.
        let all : 0 + j ≡ j = omega arith in
        rw all (subst (λ (s : S). StopsAt step terminated n q true bs s j end) (unmoved q bs at read) left);
  }
  asked_run bs (suc k) goes_on read one = asked_step bs (suc k) goes_on record {
    some = omega arith;
    reads = read;
    is_step = λ q at. one-step n q (take (suc k) bs) (drop (suc k) bs) (one (omega arith) q at);
  }

abbrev pub asked_none : {S : Type 0} {step : S → Event → S → Type 0} {terminated : S → Bool} {n : ℕ} {p : Parser n}
    {old : S}
    (bs : List ℕ) → terminated old ≡ false → ReadsAsked step terminated n p old bs 0 p old
asked_none bs goes_on = asked_run bs 0 goes_on (reads_none bs) (λ some q at. absurd (omega (arith, some)))

module _ {S : Type 0} {step : S → Event → S → Type 0} {terminated : S → Bool} {n : ℕ} {p mid r : Parser n}
    {old between new : S} where
  -- bytes after others
  pub asked_more : (bs : List ℕ) (i k : ℕ) → ReadsAsked step terminated n p old bs i mid between
      → ReadsAsked step terminated n mid between (take (length bs - i) (drop i bs)) k r new
      → ReadsAsked step terminated n p old bs (i + k) r new
  asked_more bs i k a b = record {
    reads = reads_on bs i k a.reads b.reads;
    stops = λ q at j end left.
        let now = after_bytes q (take i bs) in
        let parts = piece_and_rest bs i k b.reads.within in
        let here = rw (
          parts.2,
          read_more bs i k,
          after_bytes-append q (take i bs) (take k (take (length bs - i) (drop i bs))),
        ) at left in
        let on = b.stops now (a.reads.state_after q at) j end here in
        let rest = rw (whole_rest bs i) at on in
        let all : i + k + j ≡ i + (k + j) = omega arith in
        rw all (a.stops q at (k + j) end rest);
  }

module _ {S : Type 0} {step : S → Event → S → Type 0} {terminated : S → Bool} {asks : Bool} {n : ℕ} {p r : Parser n}
    {old new : S} where
  pub on_step : (bs : List ℕ) (k : ℕ) → ReadsStep step n p old bs k r new
      → ReadsOn step terminated asks n p old bs k r new
  on_step bs k one = record { some = one.some; reads = one.reads; asked = λ a goes_on. asked_step bs k goes_on one }

  -- one run of ground text
  pub on_run : (bs : List ℕ) (k : ℕ) → 0 < k → Reads step n p old bs k r new
      → (0 < k → (q : Pending) → IsAt n p q → is_one_step q (take k bs) (drop k bs) ≡ true)
      → ReadsOn step terminated asks n p old bs k r new
  on_run bs k some reads one = record {
    some = some;
    reads = reads;
    asked = λ a goes_on. asked_run bs k goes_on reads one;
  }

module _ {S : Type 0} {step : S → Event → S → Type 0} {terminated : S → Bool} {asks : Bool} {n : ℕ} {p mid r : Parser n}
    {old between new : S} where
  pub on_more : (bs : List ℕ) (i k : ℕ) → Reads step n p old bs i mid between
      → (asks ≡ true → terminated old ≡ false → ReadsAsked step terminated n p old bs i mid between)
      → (asks ≡ true → terminated old ≡ false → terminated between ≡ false)
      → ReadsOn step terminated asks n mid between (take (length bs - i) (drop i bs)) k r new
      → ReadsOn step terminated asks n p old bs (i + k) r new
  on_more bs i k reads asked still more = record {
    some = omega (arith, more.some);
    reads = reads_on bs i k reads more.reads;
    asked = λ a goes_on. asked_more bs i k (asked a goes_on) (more.asked a (still a goes_on));
  }

  -- a run of ground text, or none, after which the performer goes on, and then others
  pub on_text : (bs : List ℕ) (i k : ℕ) → p.state ≡ Ground → Reads step n p old bs i mid between
      → (0 < i → (q : Pending) → IsAt n p q → is_one_step q (take i bs) (drop i bs) ≡ true)
      → (asks ≡ true → 0 < i → terminated between ≡ false)
      → ReadsOn step terminated asks n mid between (take (length bs - i) (drop i bs)) k r new
      → ReadsOn step terminated asks n p old bs (i + k) r new
  on_text bs zero k ground text one still more =
      on_more bs 0 k text (λ a goes_on. asked_run bs 0 goes_on text one)
      (λ a goes_on. rw (unmoved (InText p.unfinished) bs (ground, refl) text) goes_on) more
  on_text bs (suc i) k ground text one still more =
      on_more bs (suc i) k text (λ a goes_on. asked_run bs (suc i) goes_on text one)
      (λ a goes_on. still a (omega arith)) more

  -- no text, and then others
  pub on_other : (bs : List ℕ) (k : ℕ) → p.state ≡ Ground → Reads step n p old bs 0 mid between
      → ReadsOn step terminated asks n mid between bs k r new → ReadsOn step terminated asks n p old bs k r new
  on_other bs k ground text more =
      let read = on_text bs 0 k ground text (λ some. absurd (omega (arith, some)))
      (λ asking some. absurd (omega (arith, some))) (rw (whole_rest bs 0) more) in
      let all : 0 + k ≡ k = omega arith in
      rw all at read
