use Rattle.std.proofs.Common.{arith, subst}
use Rattle.vt100_rows.specs.Row.{RowView, IsBlankFrom}
use Rattle.vt100_rows.proofs.FilledLemmas.{blank-later}
use Rattle.vt100_rows.proofs.row.Row.filled_with.Goals as goal

pub returns-clause-blank : goal.returns-clause-blank
returns-clause-blank c =
    let own = c.self.inside in
    subst (λ (v : RowView). IsBlankFrom v.cells c.min.result) c.self.view_is
    (blank-later own.cells.items own.filled c.min.result c.self.invariant.blank
    (omega (arith, c.max.ensures, c.from.ensures, c.min.ensures, c.len.ensures, own.cells.ok.0)))
