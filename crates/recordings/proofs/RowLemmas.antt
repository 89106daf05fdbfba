-- Rows, one after another.
use Rattle.std.proofs.Common.{◌≡◌, ◌∙◌, ℕ, List, [], ◌∷◌, ◌++◌, refl, sym, ap, ap₂, Option, Some, None}
use Rattle.std.proofs.lemmas.List.{append-nil, map-append}
use Rattle.recordings.specs.Recorded.{Deed, Moment, Row, IsStateAfter, deed_of, ended, reached, said, reported}
use Rattle.recordings.specs.Recorded.{with_deed}
use Rattle.recordings.specs.declared.recording.Event.{Event}
use Rattle.recordings.specs.declared.timeline.Pace.{Pace}
use Rattle.recordings.specs.declared.timeline.Timeline.{Timeline}

pub ended-append : (pace : Pace) (before : ℕ) (xs ys : List Row)
    → ended pace before (xs ++ ys) ≡ ended pace (ended pace before xs) ys
ended-append pace before [] ys = refl
ended-append pace before (x ∷ xs) ys = ended-append pace (reached pace before x.0) xs ys

with_deed-append : (time : ℕ) (deed : Option Deed) (xs ys zs : List Moment) → zs ≡ xs ++ ys
    → with_deed time deed zs ≡ with_deed time deed xs ++ ys
with_deed-append time None xs ys zs e = e
with_deed-append time (Some deed) xs ys zs e = ap (λ ms. (time, deed) ∷ ms) e

pub reported-append : (pace : Pace) (before : ℕ) (xs ys : List Row)
    → reported pace before (xs ++ ys) ≡ reported pace before xs ++ reported pace (ended pace before xs) ys
reported-append pace before [] ys = refl
reported-append pace before (x ∷ xs) ys =
    with_deed-append (reached pace before x.0) x.1 (reported pace (reached pace before x.0) xs)
    (reported pace (ended pace (reached pace before x.0) xs) ys) (reported pace (reached pace before x.0) (xs ++ ys))
    (reported-append pace (reached pace before x.0) xs ys)

-- one more row
pub state_after_further : (pace : Pace) (rows : List Row) (t u : Timeline) (time : ℕ) (deed : Option Deed)
    → IsStateAfter pace rows t → u.pace ≡ t.pace → u.time ≡ reached t.pace t.time time
    → said u.events.items ≡ said t.events.items ++ with_deed (reached t.pace t.time time) deed []
    → IsStateAfter pace (rows ++ (time, deed) ∷ []) u
state_after_further pace rows t u time deed s same last events =
    let now : reached t.pace t.time time ≡ reached pace (ended pace 0 rows) time =
    ap₂ (λ p n. reached p n time) s.same_pace s.last in
    record {
      same_pace = same ∙ s.same_pace;
      last = last ∙ (now ∙ sym (ended-append pace 0 rows ((time, deed) ∷ [])));
      moments = events ∙ (ap₂ (λ ms n. ms ++ with_deed n deed []) s.moments now
          ∙ sym (reported-append pace 0 rows ((time, deed) ∷ [])));
    }

pub said-append : (xs ys : List Event) → said (xs ++ ys) ≡ said xs ++ said ys
said-append xs ys = map-append (λ (e : Event). (e.time, deed_of e.change)) xs ys

pub state_after_still : (pace : Pace) (rows : List Row) (t : Timeline) → IsStateAfter pace rows t
    → IsStateAfter pace (rows ++ []) t
state_after_still pace rows t s = record {
  same_pace = s.same_pace;
  last = s.last ∙ ap (ended pace 0) (sym (append-nil rows));
  moments = s.moments ∙ ap (reported pace 0) (sym (append-nil rows));
}
