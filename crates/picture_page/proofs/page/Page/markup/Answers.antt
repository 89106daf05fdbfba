use Rattle.picture_page.specs.Page.{Markup}
use Rattle.picture_page.proofs.PageLemmas.{adds_part, grown}
use Rattle.picture_page.proofs.page.Page.markup.Goals as goal

pub invariant_of-self-2 : goal.invariant_of-self-2
invariant_of-self-2 c =
    rw c.in_ok-extend_from_slice.ensures.items (grown _ _ (Markup c.args.tag) c.self.invariant c.bytes.ensures)

pub returns-clause-adds : goal.returns-clause-adds
returns-clause-adds c =
    rw (c.in_ok-extend_from_slice.ensures.items, ← c.self.view_is)
    (adds_part _ _ (Markup c.args.tag) c.bytes.ensures)
