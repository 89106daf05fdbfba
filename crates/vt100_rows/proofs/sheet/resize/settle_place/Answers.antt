use Rattle.std.proofs.Common.{◌≡◌, ◌<◌, ◌∙◌, length, arith}
use Rattle.vt100_rows.specs.SheetFields.{number_at}
use Rattle.vt100_rows.proofs.SettleLemmas.{IsOrder-exchanged, in_order-settled, stays-settled, fewer-unsettled}
use Rattle.vt100_rows.proofs.sheet.resize.settle_place.Goals as goal

pub cycle-preserved : goal.cycle-preserved
cycle-preserved c =
    let order = c.cycle.order in
    let moved = c.swap-in-cycle.new.self in
    let p = c.args.place in
    let q = c.from-number.result in
    let n = length c.args.rows.now in
    let o = c.cycle.invariant.order in
    let within : p < n = omega (arith, c.requires.in_order, c.requires.order.count) in
    let moves : number_at order p ≡ p → ⊥ = λ e. c.cycle-test.true (c.from.ensures ∙ e) in
    let number : q < n = omega (arith, c.from-number.ensures, o.below p within) in
    record {
      order = IsOrder-exchanged n order moved p q within number c.swap-in-cycle.ensures.len
          c.swap-in-cycle.ensures.by_index o;
      same = in_order-settled c.cycle.rows c.swap.new.self order moved p q c.from-in-cycle.result
          (rw c.cycle.auto.rows o) (omega (arith, o.count)) c.swap-in-cycle.ensures.len c.from-number.ensures
          c.from-in-cycle.ensures c.swap.ensures.by_index c.swap-in-cycle.ensures.by_index ∙ c.cycle.invariant.same;
      others = λ r h e. stays-settled n order moved p q o within c.from-number.ensures moves
          c.swap-in-cycle.ensures.by_index r (omega (arith, h, c.requires.order.count))
          (c.cycle.invariant.others r h e);
    }

pub cycle-smaller : goal.cycle-smaller
cycle-smaller c =
    let o = c.cycle.invariant.order in
    let n = length c.args.rows.now in
    fewer-unsettled (length c.cycle.order) (length c.swap-in-cycle.new.self) c.cycle.order c.swap-in-cycle.new.self
    c.args.place c.from-number.result (rw o.count o) (omega (arith, c.requires.in_order, c.requires.order.count, o.count))
    c.from-number.ensures (λ e. c.cycle-test.true (c.from.ensures ∙ e)) c.swap-in-cycle.ensures.by_index
    c.swap-in-cycle.ensures.len
