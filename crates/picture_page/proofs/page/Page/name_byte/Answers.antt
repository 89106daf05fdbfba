use Rattle.picture_page.proofs.PageLemmas.{escaped_as_byte, escaped_as_reference, grown_by_byte}
use Rattle.picture_page.proofs.PageLemmas.{grown_by_reference, names_byte, names_reference}
use Rattle.picture_page.proofs.page.Page.name_byte.Goals as goal

pub invariant_of-self-in-Some : goal.invariant_of-self-in-Some
invariant_of-self-in-Some c =
    rw c.in_ok-extend_from_slice-in-Some.ensures.items
    (grown_by_reference _ _ c.args.byte c.self.invariant c.in-Some.ensures)

pub invariant_of-self-in-None : goal.invariant_of-self-in-None
invariant_of-self-in-None c =
    rw c.in_ok-push-in-None.ensures.items (grown_by_byte _ c.args.byte c.self.invariant c.in-None.ensures)

pub returns-in_ok-extend_from_slice-in-Some-clause-adds : goal.returns-in_ok-extend_from_slice-in-Some-clause-adds
returns-in_ok-extend_from_slice-in-Some-clause-adds c =
    rw (c.in_ok-extend_from_slice-in-Some.ensures.items, ← c.self.view_is) (names_reference _ _ c.args.byte
    c.in-Some.ensures)

pub returns-in_ok-push-in-None-clause-adds : goal.returns-in_ok-push-in-None-clause-adds
returns-in_ok-push-in-None-clause-adds c =
    rw (c.in_ok-push-in-None.ensures.items, ← c.self.view_is) (names_byte _ c.args.byte c.in-None.ensures)

pub returns-in_ok-extend_from_slice-in-Some-clause-bytes : goal.returns-in_ok-extend_from_slice-in-Some-clause-bytes
returns-in_ok-extend_from_slice-in-Some-clause-bytes c =
    rw (c.in_ok-extend_from_slice-in-Some.ensures.items, ← c.self.view_is) (escaped_as_reference _ _ c.args.byte
    c.in-Some.ensures)

pub returns-in_ok-push-in-None-clause-bytes : goal.returns-in_ok-push-in-None-clause-bytes
returns-in_ok-push-in-None-clause-bytes c =
    rw (c.in_ok-push-in-None.ensures.items, ← c.self.view_is) (escaped_as_byte _ c.args.byte c.in-None.ensures)
