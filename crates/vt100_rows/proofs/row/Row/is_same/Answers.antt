use Rattle.std.proofs.Common.{◌≡◌, ◌∙◌, ap, sym}
use Rattle.std.proofs.lemmas.Grind.{common_steps}
use Rattle.std.proofs.Common.{arith}
use Rattle.vt100_rows.specs.Row.{RowView}
use Rattle.vt100_rows.proofs.CopyLemmas.{rows-compared}
use Rattle.vt100_rows.proofs.row.Row.is_same.Goals as goal

pub returns-then-self-other : goal.returns-then-self-other
returns-then-self-other c =
    let flags : c.self.inside.wrapped ≡ c.other.inside.wrapped = grind (arith, common_steps) in
    rows-compared c.args.self.now c.args.other.now c.deref.result.now c.deref-then-self-other.result.now
    c.same_to.result c.filled_with-end.result
    (c.deref.ensures.value ∙ ap (λ (v : RowView). v.cells) c.self.view_is)
    (c.deref-then-self-other.ensures.value ∙ ap (λ (v : RowView). v.cells) c.other.view_is) c.requires
    c.filled_with-end.ensures.blank c.filled_with-end.ensures.other
    (sym (ap (λ (v : RowView). v.wrapped) c.self.view_is) ∙ flags ∙ ap (λ (v : RowView). v.wrapped) c.other.view_is)
    c.same_to.ensures.within.1 c.same_to.ensures.same c.same_to.ensures.differs
