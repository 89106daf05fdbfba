use Rattle.std.proofs.Common.{arith}
use Rattle.picture_page.proofs.PageLemmas.{adds_number, grown_by_number}
use Rattle.picture_page.proofs.page.Page.number.Goals as goal

pub invariant_of-self-2 : goal.invariant_of-self-2
invariant_of-self-2 c =
    rw (c.in_ok-extend_from_slice.ensures.items, c.as_bytes.ensures.value, c.format.ensures.text)
    (grown_by_number _ c.args.number (omega arith) c.self.invariant)

pub returns-clause-adds : goal.returns-clause-adds
returns-clause-adds c =
    rw (c.in_ok-extend_from_slice.ensures.items, c.as_bytes.ensures.value, c.format.ensures.text, ← c.self.view_is)
    (adds_number _ c.args.number (omega arith))
