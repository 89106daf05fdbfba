use Rattle.std.proofs.Common.{arith, subst}
use Rattle.std.proofs.lemmas.Grind.{common_steps}
use Rattle.vt100_rows.specs.Row.{RowView, IsBlankFrom, removed}
use Rattle.vt100_rows.proofs.RowLemmas.{IsRow-removed}
use Rattle.vt100_rows.proofs.BlankLemmas.{fields-at}
use Rattle.vt100_rows.proofs.FilledLemmas.{blank-taken}
use Rattle.vt100_rows.proofs.row.Row.remove.Goals as goal

pub invariant_of-self : goal.invariant_of-self
invariant_of-self c =
    let v = c.args.self.now in
    let b : IsBlankFrom v.cells c.self.inside.filled =
    subst (λ (u : RowView). IsBlankFrom u.cells c.self.inside.filled) c.self.view_is c.self.invariant.blank in
    fields-at _ _ _ (removed v c.args.range.start c.args.range.end) (grind (arith, common_steps))
    (IsRow-removed v c.args.range.start c.args.range.end (rw (← c.self.view_is) c.self.invariant.row) c.requires)
    (blank-taken v c.args.range.start c.args.range.end c.self.inside.filled b)
