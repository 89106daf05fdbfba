use Rattle.picture_page.proofs.PageLemmas.{pages_joined}
use Rattle.picture_page.proofs.page.Page.append.Goals as goal

pub invariant_of-self-2 : goal.invariant_of-self-2
invariant_of-self-2 c = rw (c.in_ok-extend_from_slice.ensures.items, c.deref.ensures.value)
    (pages_joined _ _ c.self.invariant c.other.invariant)
