use Rattle.std.proofs.Common.{refl}
use Rattle.picture_page.specs.Page.{RowEnd}
use Rattle.picture_page.proofs.PageLemmas.{adds_part, grown}
use Rattle.picture_page.proofs.page.Page.end_row.Goals as goal

pub invariant_of-self-2 : goal.invariant_of-self-2
invariant_of-self-2 c = rw c.in_ok-push.ensures.items (grown _ _ RowEnd c.self.invariant refl)

pub returns-clause-adds : goal.returns-clause-adds
returns-clause-adds c = rw (c.in_ok-push.ensures.items, ← c.self.view_is) (adds_part _ _ RowEnd refl)
