use Rattle.std.proofs.Common.{◌∙◌, sym}
use Rattle.screentext_command.proofs.ListLemmas.{control_pushed, ok_on, plain_pushed}
use Rattle.screentext_command.proofs.list.push_character.Goals as goal

pub returns-then-is_control : goal.returns-then-is_control
returns-then-is_control c =
    ok_on c.write.result c.write.ensures.bytes (λ adds. control_pushed _ _ c.args.c _
    (sym c.is_control.ensures ∙ c.if-is_control.true) c.in_radix.ensures adds)

pub returns-else-is_control : goal.returns-else-is_control
returns-else-is_control c =
    plain_pushed c.push.result _ _ c.args.c (sym c.is_control.ensures ∙ c.if-is_control.false) c.push.ensures.bytes
