use Rattle.std.proofs.Common.{◌≡◌, ◌∙◌, ap, arith}
use Rattle.std.proofs.lemmas.Grind.{common_steps}
use Rattle.vt100_core.specs.Grid.{GridView}
use Rattle.vt100_core.proofs.CopyLemmas.{widths-same, widths-lent}
use Rattle.vt100_core.proofs.grid.Grid.is_drawn_alike.Goals as goal

pub is_same-requires : goal.is_same-requires
is_same-requires c =
    let tall : c.args.self.now.height ≡ c.args.other.now.height = grind (arith, common_steps) in
    let wide : c.args.self.now.width ≡ c.args.other.now.width = grind (arith, common_steps) in
    widths-lent (ap (λ (g : GridView). g.rows) c.self.view_is)
    (ap (λ (g : GridView). g.rows) c.other.view_is)
    (widths-same c.args.self.now c.args.other.now (rw (← c.self.view_is) c.self.invariant)
    (rw (← c.other.view_is) c.other.invariant) c.requires.drawn c.requires.other tall wide)
