use Rattle.std.proofs.Common.{◌∙◌, ap, subst}
use Rattle.vt100_core.specs.Grid.{GridView, IsGrid}
use Rattle.vt100_core.specs.Copy.{without_kept}
use Rattle.vt100_core.proofs.grid.Grid.clone_drawn.Goals as goal

pub with_rows-requires-clause-sheet : goal.with_rows-requires-clause-sheet
with_rows-requires-clause-sheet c =
    rw (c.in_ok-rows.ensures ∙ ap (λ (g : GridView). g.rows) c.self.view_is)
    (subst IsGrid c.self.view_is c.self.invariant).sheet

pub with_rows-requires-clause-some : goal.with_rows-requires-clause-some
with_rows-requires-clause-some c =
    rw (c.in_ok-rows.ensures ∙ ap (λ (g : GridView). g.rows) c.self.view_is) c.requires

pub returns : goal.returns
returns c =
    let rows = c.in_ok-rows.ensures ∙ ap (λ (g : GridView). g.rows) c.self.view_is in
    c.with_rows.ensures ∙ (λ j. record (without_kept c.args.self.now) { rows = rows j })
