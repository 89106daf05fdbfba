use Rattle.std.proofs.Common.{◌≡◌, ℕ, ap, sym, ◌∙◌, refl, Some, None, Ok, Err}
use Rattle.slab.specs.Slab.{Slab, get, Updates}
use Rattle.vt100.specs.Parsing.{ParserView}
use Rattle.termrelay.specs.declared.error.HubError.TheVariants.{UnknownClient}
use Rattle.termrelay.specs.ClientRecord.{RecordView}
use Rattle.termrelay.specs.Hub.{Detaches}
use Rattle.termrelay.proofs.HubLemmas.{holding, updated-client, hub-updated}
use Rattle.termrelay.proofs.hub.Hub.detach.Goals as goal
use Rattle.termrelay.proofs.hub.Hub.detach.Goals.{in-Some, in-None}

client-ends : (p : ParserView (Unit {0})) (s t : Slab RecordView) (key : ℕ) (r : RecordView) → get s key ≡ Some r
    → Updates s t key None → Detaches (holding p s) key (Ok tt) (holding p t)
client-ends p s t key r found gone =
    rw found (refl, updated-client p s t key None gone)

no-client : (p : ParserView (Unit {0})) (s t : Slab RecordView) (key : ℕ) → get s key ≡ None → t ≡ s
    → Detaches (holding p s) key (Err UnknownClient) (holding p t)
no-client p s t key none same =
    rw none (refl, ap (λ u. holding p u) same)

pub returns : goal.returns
returns c =
    let p = c.self.inside.parser in
    let s = c.self.inside.clients in
    let t = c.try_remove.new.self in
    let removed = c.try_remove.ensures in
    elim c.match-try_remove.branch [
      | in-Some w ↦
          rw (w.result-is, ← c.self.view_is, ← c.key.ensures)
          (client-ends p s t c.key.result w.in-Some.field-0 (sym removed.value ∙ w.in-Some.is) removed.updates)
      | in-None w ↦
          rw (w.result-is, ← c.self.view_is, ← c.key.ensures)
          (no-client p s t c.key.result (sym removed.value ∙ w.in-None.is) (rw w.in-None.is at removed.absent))
    ]

pub invariant_of-self : goal.invariant_of-self
invariant_of-self c =
    hub-updated c.self.inside c.try_remove.new.self c.key.result None c.self.invariant c.try_remove.ensures.updates
    (λ live. tt) (λ P each. tt)
