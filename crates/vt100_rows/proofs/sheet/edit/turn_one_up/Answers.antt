use Rattle.std.proofs.Common.{refl}
use Rattle.vt100_rows.proofs.OrderLemmas.{numbers-turned_one}
use Rattle.vt100_rows.proofs.sheet.edit.turn_one_up.Goals as goal

pub returns : goal.returns
returns c = λ r h.
    numbers-turned_one c.args.order.now c.copy_within.new.self c.args.first c.args.end _ r c.requires.some
    c.requires.in_order c.copy_within.ensures.len c.copy_within.ensures.by_index.0
    c.copy_within.ensures.by_index.1 c.copy_within.ensures.by_index.2 refl h
