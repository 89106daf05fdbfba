use Rattle.std.proofs.Common.{◌≡◌, ◌≤◌, ◌∙◌, List, ℕ, length, ap, arith}
use Rattle.vt100_rows.specs.Row.{RowView}
use Rattle.vt100_rows.specs.SheetFields.{number_at, turned_place}
use Rattle.vt100_rows.proofs.SheetLemmas.{refilled}
use Rattle.vt100_rows.proofs.OrderLemmas.{IsOrder-turned, in_order-turned, length-in_order}
use Rattle.vt100_rows.proofs.sheet.Sheet.turn_up.Goals as goal

pub invariant_of-self : goal.invariant_of-self
invariant_of-self c =
    let order = c.self.inside.order.items in
    let turned = c.turn_numbers.new.order in
    let same = c.deref_mut.ensures.value in
    let n : length turned ≡ length order = c.turn_numbers.auto.order ∙ ap (λ (xs : List ℕ). length xs) same in
    let within : c.args.end ≤ length order =
    omega (
      arith,
      c.requires.in_rows,
      length-in_order c.self.inside.rows.items order,
      ap (λ (vs : List RowView). length vs) c.self.view_is,
    ) in
    rw (refilled c.self.inside.order.len turned order (omega (arith, c.self.inside.order.ok)) n)
    (IsOrder-turned _ order turned c.args.first c.args.end c.args.n c.requires.in_part
    (omega (arith, within, c.self.invariant.count)) n
    (λ r m. c.turn_numbers.ensures r (omega (arith, m, ap (λ (xs : List ℕ). length xs) same))
    ∙ ap (λ (xs : List ℕ). number_at xs (turned_place c.args.first c.args.end c.args.n r)) same)
    c.self.invariant)

pub returns : goal.returns
returns c =
    let rows = c.self.inside.rows.items in
    let order = c.self.inside.order.items in
    let turned = c.turn_numbers.new.order in
    let same = c.deref_mut.ensures.value in
    let n : length turned ≡ length order = c.turn_numbers.auto.order ∙ ap (λ (xs : List ℕ). length xs) same in
    let within : c.args.end ≤ length order =
    omega (
      arith,
      c.requires.in_rows,
      length-in_order rows order,
      ap (λ (vs : List RowView). length vs) c.self.view_is,
    ) in
    rw (← c.self.view_is, refilled c.self.inside.order.len turned order (omega (arith, c.self.inside.order.ok)) n)
    (in_order-turned rows order turned c.args.first c.args.end c.args.n c.requires.in_part within n
    (λ r m. c.turn_numbers.ensures r (omega (arith, m, ap (λ (xs : List ℕ). length xs) same))
    ∙ ap (λ (xs : List ℕ). number_at xs (turned_place c.args.first c.args.end c.args.n r)) same))
