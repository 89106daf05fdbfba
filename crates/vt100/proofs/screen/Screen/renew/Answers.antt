use Rattle.std.proofs.Common.{◌∙◌}
use Rattle.vt100.proofs.ProperScreens.{fresh_screen}
use Rattle.vt100.proofs.RenewLemmas.{other-is_new, stays-main}
use Rattle.vt100.proofs.screen.Screen.renew.Goals as goal

pub invariant_of-self : goal.invariant_of-self
invariant_of-self c =
    let g = c.self.inside.grid in
    fresh_screen _ g.height g.width g.kept.capacity c.renew_sheet.ensures.sheet
    (c.new.ensures ∙ other-is_new c.renew_sheet.new.grid g.height g.width g.kept.capacity c.size.result.rows.value
    c.size.result.cols.value c.renew_sheet.ensures.sheet c.size.ensures.rows c.size.ensures.cols)
    c.renew_sheet.ensures.drawn (stays-main c.self.inside c.args.self.now (c.self.view_is
    ∙ c.exit_alternate_grid.ensures))
    c.new-self-inside.ensures c.new-self-inside-2.ensures
