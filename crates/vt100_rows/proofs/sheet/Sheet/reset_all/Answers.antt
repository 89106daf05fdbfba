use Rattle.std.proofs.Common.{◌∙◌, length, List, arith, ap}
use Rattle.vt100_rows.specs.Row.{RowView, blank_row}
use Rattle.vt100_rows.proofs.SheetLemmas.{resets-all, refilled}
use Rattle.vt100_rows.proofs.OrderLemmas.{in_order-each}
use Rattle.vt100_rows.proofs.sheet.Sheet.reset_all.Goals as goal

pub returns : goal.returns
returns c = λ width widths.
    let f : RowView → RowView = λ v. blank_row (length v.cells) in
    resets-all c.args.self.now _ width widths
    (rw (
      ← c.self.view_is,
      refilled c.self.inside.rows.len c.reset_rows.new.rows c.self.inside.rows.items
          (omega (arith, c.self.inside.rows.ok)) (c.reset_rows.auto.rows ∙ ap (λ (xs : List RowView). length xs)
          c.deref_mut.ensures.value),
    ) (in_order-each f c.self.inside.rows.items c.deref_mut.result.now
    c.reset_rows.new.rows c.self.inside.order.items c.deref_mut.ensures.value c.reset_rows.ensures c.self.invariant))
