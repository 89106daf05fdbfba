use Rattle.std.proofs.Common.{◌∙◌, length, List, arith, ap}
use Rattle.vt100_rows.specs.Row.{RowView, cleared_row}
use Rattle.vt100_rows.proofs.SheetLemmas.{refilled}
use Rattle.vt100_rows.proofs.OrderLemmas.{in_order-each}
use Rattle.vt100_rows.proofs.sheet.Sheet.clear_all.Goals as goal

pub returns : goal.returns
returns c =
    rw (
      ← c.self.view_is,
      refilled c.self.inside.rows.len c.clear_rows.new.rows c.self.inside.rows.items
          (omega (arith, c.self.inside.rows.ok)) (c.clear_rows.auto.rows ∙ ap (λ (xs : List RowView). length xs)
          c.deref_mut.ensures.value),
    ) (in_order-each (λ (v : RowView). cleared_row v c.args.attrs) c.self.inside.rows.items c.deref_mut.result.now
    c.clear_rows.new.rows c.self.inside.order.items c.deref_mut.ensures.value c.clear_rows.ensures c.self.invariant)
