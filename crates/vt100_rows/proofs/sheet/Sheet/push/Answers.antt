use Rattle.std.proofs.Common.{◌++◌, ◌∷◌, [], ℕ, List, length, ap, ◌∙◌, arith}
use Rattle.vt100_rows.specs.Row.{RowView}
use Rattle.vt100_rows.proofs.OrderLemmas.{IsOrder-push, in_order-push, length-in_order}
use Rattle.vt100_rows.proofs.sheet.Sheet.push.Goals as goal

pub invariant_of-self-2 : goal.invariant_of-self-2
invariant_of-self-2 c =
    let rows = c.self.inside.rows.items in
    let order = c.self.inside.order.items in
    IsOrder-push rows c.push_reserved.new.self.items order c.push_reserved-2.new.self.items c.args.row c.len-number.result
    (c.push_reserved.ensures.items ∙ ap (λ (xs : List RowView). xs ++ c.args.row ∷ []) c.reserve.ensures.items)
    (c.push_reserved-2.ensures.items ∙ ap (λ (xs : List ℕ). xs ++ c.len-number.result ∷ []) c.reserve-2.ensures.items)
    (omega (
      arith,
      c.requires,
      c.self.invariant.count,
      length-in_order rows order,
      ap (λ (vs : List RowView). length vs) c.self.view_is,
    )) c.self.invariant

pub returns-clause-pushed : goal.returns-clause-pushed
returns-clause-pushed c =
    let rows = c.self.inside.rows.items in
    let order = c.self.inside.order.items in
    in_order-push rows c.push_reserved.new.self.items order c.push_reserved-2.new.self.items c.args.row c.len-number.result
    (c.push_reserved.ensures.items ∙ ap (λ (xs : List RowView). xs ++ c.args.row ∷ []) c.reserve.ensures.items)
    (c.push_reserved-2.ensures.items ∙ ap (λ (xs : List ℕ). xs ++ c.len-number.result ∷ []) c.reserve-2.ensures.items)
    (omega (
      arith,
      c.requires,
      c.self.invariant.count,
      length-in_order rows order,
      ap (λ (vs : List RowView). length vs) c.self.view_is,
    )) c.self.invariant
    ∙ ap (λ (vs : List RowView). vs ++ c.args.row ∷ []) c.self.view_is
