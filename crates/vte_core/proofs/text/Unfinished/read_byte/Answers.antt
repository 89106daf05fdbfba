use Rattle.vte_core.proofs.Characters.{IsUnfinished-rest}
use Rattle.vte_core.proofs.text.Unfinished.read_byte.Goals as goal

pub invariant_of-self : goal.invariant_of-self
invariant_of-self g c = rw c.text_byte.ensures.rest (IsUnfinished-rest _ _ c.self.invariant)
