use Rattle.std.proofs.Common.{ap, arith, ◌∙◌, ◌≤◌, subst, sym}
use Rattle.std.proofs.lemmas.Grind.{common_steps}
use Rattle.vt100_core.specs.Grid.{GridView}
use Rattle.vt100_core.specs.GridFields.{grid_of}
use Rattle.vt100_core.proofs.GridLemmas.{IsGrid-at}
use Rattle.vt100_core.proofs.LengthenLemmas.{IsGrid-lengthened, IsGrid-kept_changed}
use Rattle.vt100_core.proofs.grid.Grid.lengthen.Goals as goal

pub invariant_of-self-2 : goal.invariant_of-self-2
invariant_of-self-2 c =
    IsGrid-at (IsGrid-lengthened (grid_of c.self.inside) c.args.rows.value c.self.invariant
    (subst (λ (x : GridView). x.height ≤ c.args.rows.value) (sym c.self.view_is) c.requires.higher)
    (omega (arith, c.get.ensures.value))
    (ap (λ (x : GridView). x.top) c.self.view_is ∙ c.requires.whole)
    (ap (λ (x : GridView). x.kept.offset) c.self.view_is ∙ c.requires.hidden))
    (grind (arith, common_steps))

pub invariant_of-self : goal.invariant_of-self
invariant_of-self c =
    IsGrid-kept_changed (grid_of c.self.inside) c.bring_back.new.self c.bring_back.new.kept.items
    c.self.invariant c.in_err-bring_back.ensures.same c.in_err-bring_back.ensures.each
    c.in_err-bring_back.ensures.count (ap (λ (x : GridView). x.kept.offset) c.self.view_is ∙ c.requires.hidden)
