use Rattle.std.proofs.Common.{◌≡◌, ◌∙◌, ◌<◌, ℕ, List, length, take, ap, arith}
use Rattle.vt100_rows.specs.Row.{RowView}
use Rattle.vt100_rows.specs.SheetFields.{number_at, in_order}
use Rattle.vt100_rows.proofs.SheetLemmas.{refilled}
use Rattle.vt100_rows.proofs.OrderLemmas.{in_order-first}
use Rattle.vt100_rows.proofs.sheet.Sheet.cut.Goals as goal

pub returns : goal.returns
returns c =
    let rows = c.settle.new.rows in
    let order = c.settle.new.order in
    let lr : length rows ≡ length c.self.inside.rows.items =
    c.settle.auto.rows ∙ ap (λ (xs : List RowView). length xs) c.deref_mut.ensures.value in
    let lo : length order ≡ length c.self.inside.order.items =
    c.settle.auto.order ∙ ap (λ (xs : List ℕ). length xs) c.deref_mut-2.ensures.value in
    let first : c.truncate.new.self.items ≡ take c.args.height rows =
    c.truncate.ensures.items ∙ ap (λ (xs : List RowView). take c.args.height xs)
    (refilled c.self.inside.rows.len rows c.self.inside.rows.items (omega (arith, c.self.inside.rows.ok)) lr) in
    let numbers : c.truncate-2.new.self.items ≡ take c.args.height order =
    c.truncate-2.ensures.items ∙ ap (λ (xs : List ℕ). take c.args.height xs)
    (refilled c.self.inside.order.len order c.self.inside.order.items (omega (arith, c.self.inside.order.ok)) lo) in
    let settled : (r : ℕ) → r < length order → number_at order r ≡ r =
    λ r h. c.settle.ensures.settled r (omega (arith, h, c.settle.auto.order)) in
    ap (λ (xs : List RowView). in_order xs c.truncate-2.new.self.items) first
    ∙ ap (λ (xs : List ℕ). in_order (take c.args.height rows) xs) numbers
    ∙ in_order-first rows order c.args.height settled
    ∙ ap (λ (xs : List RowView). take c.args.height xs)
    (c.settle.ensures.same ∙ ap (λ (xs : List RowView). in_order xs c.deref_mut-2.result.now) c.deref_mut.ensures.value
    ∙ ap (λ (xs : List ℕ). in_order c.self.inside.rows.items xs) c.deref_mut-2.ensures.value ∙ c.self.view_is)
