-- What bytes add to the events of a stream.
use Rattle.std.proofs.Common.{◌≡◌, ℕ, List, [], ◌++◌, length, drop, refl, sym, ◌∙◌, ap, subst, append_assoc}
use Rattle.std.proofs.Math.Seq.{drop-append_seam}
use Rattle.std.specs.List.{All}
use Rattle.vte_core.specs.Event.{Event}
use Rattle.vte_core.specs.Shapes.{events}
use Rattle.vte_core.specs.Added.{added}
use Rattle.vte_core.specs.Pending.{pending, events_from}
use Rattle.vte_core.specs.Laws.{KeepsBeginnings, AddsInOrder, AddsFitting, Fits}
use Rattle.vte_core.proofs.Machine.{events-past}
use Rattle.vte_core.proofs.LawLemmas.{from-fits}

-- what a stream has beyond its past is what the bytes add
pub added-is : (n : ℕ) (past bytes : List ℕ) (es : List Event) → events n (past ++ bytes) ≡ events n past ++ es
    → es ≡ added n past bytes
unfolding added
added-is n past bytes es h = sym (ap (drop (length (events n past))) h ∙ drop-append_seam (events n past) es)

-- given byte by byte
pub added-from : (n : ℕ) (past bytes : List ℕ) → added n past bytes ≡ events_from n (pending past) bytes
added-from n past bytes = sym (added-is n past bytes (events_from n (pending past) bytes) (events-past n past bytes))

pub events-added : KeepsBeginnings
events-added n past bytes = events-past n past bytes
    ∙ ap (λ (es : List Event). events n past ++ es) (sym (added-from n past bytes))

pub added-none : (n : ℕ) (past : List ℕ) → added n past [] ≡ []
added-none n past = added-from n past []

-- with no past it adds all its events
pub added-first : (n : ℕ) (bytes : List ℕ) → added n [] bytes ≡ events n bytes
added-first n bytes = sym (added-is n [] bytes (events n bytes) refl)

pub added-append : AddsInOrder
added-append n past a b =
    let more = added n (past ++ a) b in
    let whole : events n (past ++ (a ++ b)) ≡ events n past ++ (added n past a ++ more) =
    ap (events n) (sym (append_assoc past a b)) ∙ (events-added n (past ++ a) b
    ∙ (ap (λ (es : List Event). es ++ more) (events-added n past a)
    ∙ append_assoc (events n past) (added n past a) more)) in
    sym (added-is n past (a ++ b) (added n past a ++ more) whole)

pub added-fits : AddsFitting
added-fits n past bytes = subst (λ (es : List Event). All (Fits n) es) (sym (added-from n past bytes))
    (from-fits n (pending past) bytes)
