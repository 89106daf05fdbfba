use Rattle.std.proofs.Common.{◌∙◌, sym, ap, if◌then◌else◌}
use Rattle.std.specs.Option.{option_copied}
use Rattle.termrelay.specs.ClientRecord.{base_of}
use Rattle.termrelay.proofs.HubLemmas.{served-base}
use Rattle.termrelay.specs.declared.answer.Answer.TheVariants.{Unsure, Difference}
use Rattle.termrelay.proofs.SureBases.{base-sure, same-due, other-due}
use Rattle.termrelay.proofs.client_record.ClientRecord.due.Goals as goal

pub same_shown-requires-clause-unscrolled : goal.same_shown-requires-clause-unscrolled
same_shown-requires-clause-unscrolled c =
    (base-sure c.args.now.now (base_of c.args.self.now.last) c.in-Some.base.now (served-base c.args.now.now c.args.self.now.last
    c.requires.served.last)
    (sym (ap option_copied c.in-Some.is) ∙ c.sure_base.ensures)).0.unscrolled

pub same_shown-requires-clause-size : goal.same_shown-requires-clause-size
same_shown-requires-clause-size c =
    (base-sure c.args.now.now (base_of c.args.self.now.last) c.in-Some.base.now (served-base c.args.now.now c.args.self.now.last
    c.requires.served.last)
    (sym (ap option_copied c.in-Some.is) ∙ c.sure_base.ensures)).0.size

pub returns-then-same_shown : goal.returns-then-same_shown
returns-then-same_shown c =
    same-due c.args.now.now (base_of c.args.self.now.last) c.in-Some.base.now c.requires.unscrolled (served-base c.args.now.now c.args.self.now.last
    c.requires.served.last)
    (sym (ap option_copied c.in-Some.is) ∙ c.sure_base.ensures) (sym c.same_shown.ensures ∙ c.if-same_shown.true)

pub is_unsure_since-requires-clause-base_state : goal.is_unsure_since-requires-clause-base_state
is_unsure_since-requires-clause-base_state c =
    (base-sure c.args.now.now (base_of c.args.self.now.last) c.in-Some.base.now (served-base c.args.now.now c.args.self.now.last
    c.requires.served.last)
    (sym (ap option_copied c.in-Some.is) ∙ c.sure_base.ensures)).0.unscrolled.state

pub is_unsure_since-requires-clause-size : goal.is_unsure_since-requires-clause-size
is_unsure_since-requires-clause-size c =
    (base-sure c.args.now.now (base_of c.args.self.now.last) c.in-Some.base.now (served-base c.args.now.now c.args.self.now.last
    c.requires.served.last)
    (sym (ap option_copied c.in-Some.is) ∙ c.sure_base.ensures)).0.size

pub is_unsure_since-requires-clause-sure : goal.is_unsure_since-requires-clause-sure
is_unsure_since-requires-clause-sure c =
    (base-sure c.args.now.now (base_of c.args.self.now.last) c.in-Some.base.now (served-base c.args.now.now c.args.self.now.last
    c.requires.served.last)
    (sym (ap option_copied c.in-Some.is) ∙ c.sure_base.ensures)).1

pub returns : goal.returns
returns c =
    c.unsure_or-2.ensures ∙ ap (λ u. if u then Unsure else Difference) c.is_unsure_since.ensures
    ∙ other-due c.args.now.now (base_of c.args.self.now.last) c.in-Some.base.now (served-base c.args.now.now c.args.self.now.last
    c.requires.served.last)
    (sym (ap option_copied c.in-Some.is) ∙ c.sure_base.ensures) (sym c.same_shown.ensures ∙ c.if-same_shown.false)
