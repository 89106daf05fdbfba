-- Some bytes, read one after another.
use Rattle.std.proofs.Common.{◌≡◌, ℕ, ◌+◌, ◌-◌, ◌<◌, ◌≤◌, List, [], ◌∷◌, ◌++◌, length, take, drop, get_or, refl, sym}
use Rattle.std.proofs.Common.{◌∙◌, ap, arith, append-nil}
use Rattle.std.proofs.lemmas.List.{take_more}
use Rattle.vte_core.specs.Byte.{ReadsByte}
use Rattle.vte_core.specs.Event.{Event}
use Rattle.vte_core.specs.StepEvents.{step_events}
use Rattle.vte_core.specs.Pending.{Pending, InText, pending, events_of_byte, events_from, after_bytes}
use Rattle.vte_core.specs.Reads.{Reads, ReadsQuietly}
use Rattle.vte_core.specs.Shapes.{events}
use Rattle.vte_core.specs.Standing.{IsAt, IsAfter}
use Rattle.vte_core.specs.Reported.{Reported}
use Rattle.vte_core.specs.declared.parser.Parser.{Parser}
use Rattle.vte_core.proofs.Machine.{events_from-append, after_bytes-append, events-past}
use Rattle.vte_core.proofs.Runs.{read_more, within_more}
use Rattle.vte_core.proofs.Telling.{performs-append}

pub quiet_by : {n : ℕ} {p r : Parser n} {bs : List ℕ} {k : ℕ} → k ≤ length bs
    → ((q : Pending) → IsAt n p q → (events_from n q (take k bs) ≡ []) × IsAt n r (after_bytes q (take k bs)))
    → ReadsQuietly n p bs k r
quiet_by l h = record { within = l; state_after = λ q at. (h q at).1; quiet = λ q at. (h q at).0 }

abbrev pub reads_none : {S : Type 0} {step : S → Event → S → Type 0} {n : ℕ} {p : Parser n} {old : S} (bs : List ℕ)
    → Reads step n p old bs 0 p old
reads_none bs = record {
  within = omega arith;
  state_after = λ q at. at;
  reported = record { reported = []; performed = refl; added = λ q at. refl };
}

-- bytes without events
pub reads_quiet : {S : Type 0} {step : S → Event → S → Type 0} {n : ℕ} {p r : Parser n} {old : S} (bs : List ℕ) (k : ℕ)
    → ReadsQuietly n p bs k r → Reads step n p old bs k r old
reads_quiet bs k quiet = record {
  within = quiet.within;
  state_after = quiet.state_after;
  reported = record { reported = []; performed = refl; added = λ q at. sym (quiet.quiet q at) };
}

module _ {S : Type 0} {step : S → Event → S → Type 0} {n : ℕ} {p mid r : Parser n} {old between new : S} where
  -- bytes after others
  pub reads_on : (bs : List ℕ) (i k : ℕ) → Reads step n p old bs i mid between
      → Reads step n mid between (take (length bs - i) (drop i bs)) k r new → Reads step n p old bs (i + k) r new
  reads_on bs i k a b = record {
    within = within_more bs i k a.within b.within;
    state_after = λ q at. rw (
      read_more bs i k,
      after_bytes-append q (take i bs) (take k (take (length bs - i) (drop i bs))),
    )
        (b.state_after (after_bytes q (take i bs)) (a.state_after q at));
    reported = record {
      reported = a.reported.reported ++ b.reported.reported;
      performed =
          performs-append step old between new a.reported.reported b.reported.reported a.reported.performed
          b.reported.performed;
      added = λ q at. rw (
        read_more bs i k,
        events_from-append n q (take i bs) (take k (take (length bs - i) (drop i bs))),
        a.reported.added q at,
        b.reported.added (after_bytes q (take i bs)) (a.state_after q at),
      ) refl;
    };
  }

  -- a byte after others
  pub reads_next : (bs : List ℕ) (i : ℕ) → i < length bs → Reads step n p old bs i mid between
      → ReadsByte step n mid between (get_or bs i 0) r new → Reads step n p old bs (i + 1) r new
  reads_next bs i less a b = record {
    within = omega (arith, less);
    state_after = λ q at. rw (take_more bs i 0 less, after_bytes-append q (take i bs) (get_or bs i 0 ∷ []))
        (b.state_after (after_bytes q (take i bs)) (a.state_after q at));
    reported = record {
      reported = a.reported.reported ++ step_events n mid r (get_or bs i 0);
      performed = performs-append step old between new a.reported.reported
          (step_events n mid r (get_or bs i 0)) a.reported.performed
          b.reported;
      added = λ q at. rw (
        take_more bs i 0 less,
        events_from-append n q (take i bs) (get_or bs i 0 ∷ []),
        append-nil (events_of_byte n (after_bytes q (take i bs)) (get_or bs i 0)),
        a.reported.added q at,
        b.is_reported (after_bytes q (take i bs)) (a.state_after q at),
      ) refl;
    };
  }

-- after a past
module _ {S : Type 0} {step : S → Event → S → Type 0} {n : ℕ} {p r : Parser n} {old new : S} where
  pub state_after_past : (bs : List ℕ) (k : ℕ) → Reads step n p old bs k r new → (past : List ℕ) → IsAfter n p past
      → IsAfter n r (past ++ take k bs)
  state_after_past bs k reads past h = rw (after_bytes-append (InText []) past (take k bs))
      (reads.state_after (pending past) h)

  pub reported_past : (bs : List ℕ) (k : ℕ) (reads : Reads step n p old bs k r new)
      → (take k bs ≡ [] → reads.reported.reported ≡ []) → Reported step n p old (take k bs) new
  reported_past bs k reads none = record {
    reported = reads.reported.reported;
    performed = reads.reported.performed;
    none = none;
    added = λ past h. events-past n past (take k bs)
        ∙ ap (λ (es : List Event). events n past ++ es) (sym (reads.reported.added (pending past) h));
  }
