use Rattle.vt100.proofs.RowTexts.{few_visible}
use Rattle.vt100.proofs.screen.Screen.rows.Goals as goal

pub new-requires : goal.new-requires
new-requires c = few_visible c.self.inside.grid c.visible_rows.result c.is_allocated.ensures.valid
    c.self.invariant.shown c.visible_rows.ensures
