use Rattle.std.proofs.Common.{ap, ◌∙◌}
use Rattle.vt100_core.specs.Grid.{GridView}
use Rattle.vt100_core.proofs.grid.Grid.place.Goals as goal

pub returns : goal.returns
returns c =
    let width = c.cols.ensures ∙ ap (λ (x : GridView). x.width) c.self.view_is in
    λ k. record {
      row = c.args.row;
      start = 0;
      width = width k;
      above = c.args.above;
      was_above = c.args.was_above;
    }
