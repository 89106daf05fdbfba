use Rattle.std.proofs.Common.{◌∷◌, [], ◌++◌, ◌%◌, ap}
use Rattle.picture_page.specs.Page.{Digit}
use Rattle.picture_page.proofs.PageLemmas.{adds_part, grown}
use Rattle.picture_page.proofs.page.Page.digit.Goals as goal

pub invariant_of-self-2 : goal.invariant_of-self-2
invariant_of-self-2 c =
    rw c.in_ok-push.ensures.items
    (grown _ _ (Digit (c.args.value % 16)) c.self.invariant (ap (λ d. d ∷ []) c.digit_of.ensures))

pub returns-clause-adds : goal.returns-clause-adds
returns-clause-adds c = rw (c.in_ok-push.ensures.items, ← c.self.view_is) (adds_part _ _ (Digit (c.args.value % 16))
    (ap (λ d. d ∷ []) c.digit_of.ensures))

pub returns-clause-bytes : goal.returns-clause-bytes
returns-clause-bytes c =
    rw (c.in_ok-push.ensures.items, ← c.self.view_is) (ap (λ d. c.self.inside.bytes.items ++ d ∷ []) c.digit_of.ensures)
