use Rattle.std.proofs.Common.{◌≡◌, ◌∙◌, ap, sym, [], Some}
use Rattle.std.specs.Option.{option_copied}
use Rattle.slab.specs.Slab.{get}
use Rattle.termrelay.proofs.HubLemmas.{found-served, found-last, hub-updated, hub-roomier, forked-served}
use Rattle.termrelay.proofs.hub.Hub.fork.Goals as goal
use Rattle.termrelay.proofs.hub.Hub.fork.Goals.{in-Ok, in-Err}

pub invariant_of-self : goal.invariant_of-self
invariant_of-self c =
    let h = c.self.inside in
    let key = c.key.result in
    let r = c.in-Some.field-0.now in
    let i = c.self.invariant in
    let found : get h.clients key ≡ Some r = sym c.get.ensures ∙ ap option_copied c.in-Some.is in
    let new : c.in_ok-fork-in-Some-2.fork ≡ record { owed = []; last = r.last } = c.in_ok-fork-in-Some-2.ensures.fork in
    elim c.match-insert.branch [
      | in-Ok w ↦
          hub-updated h c.insert.new.self w.in-Ok.key (Some c.in_ok-fork-in-Some-2.fork) i
          (rw w.in-Ok.is at c.insert.ensures.updates)
          (λ live. rw new (forked-served h.parser.screen r (found-served h.clients key r h.parser.screen found
          (i.served live))))
          (λ P each. rw new (found-last h.clients key r P found each))
      | in-Err w ↦ rw (rw w.in-Err.is at c.insert.ensures.err) (hub-roomier h _ i)
    ]
