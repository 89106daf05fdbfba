use Rattle.std.proofs.Common.{refl}
use Rattle.vt100_rows.proofs.OrderLemmas.{numbers-turned}
use Rattle.vt100_rows.proofs.sheet.edit.turn_numbers.Goals as goal

pub returns-else-n-eq1 : goal.returns-else-n-eq1
returns-else-n-eq1 c = λ r h.
    numbers-turned c.args.order.now _ _ _ c.args.first c.args.end c.args.n c.requires.in_part c.requires.in_order refl
    c.rotate_left.ensures.after refl r h
