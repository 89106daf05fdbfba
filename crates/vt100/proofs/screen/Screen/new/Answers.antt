use Rattle.std.proofs.Common.{refl, rules}
use Rattle.vt100.proofs.ProperScreens.{fresh_screen}
use Rattle.vt100.proofs.screen.Screen.new.Goals as goal

pub invariant_of-result : goal.invariant_of-result
invariant_of-result c = fresh_screen _ c.args.size.rows.value c.args.size.cols.value c.args.scrollback_capacity
    (search rules) (search rules) (search rules) refl (search rules) (search rules)
