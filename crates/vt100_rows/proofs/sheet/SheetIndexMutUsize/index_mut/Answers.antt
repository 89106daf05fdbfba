use Rattle.std.proofs.Common.{◌≡◌, ◌<◌, List, length, refl, sym, ap, ◌∙◌, arith, set}
use Rattle.std.proofs.lemmas.List.{get_or_default}
use Rattle.vt100_rows.specs.Row.{RowView, blank_row}
use Rattle.vt100_rows.specs.Sheet.{row_at}
use Rattle.vt100_rows.specs.SheetFields.{number_at, in_order}
use Rattle.vt100_rows.proofs.OrderLemmas.{row_at-in_order, length-in_order, in_order-set}
use Rattle.vt100_rows.proofs.sheet.SheetIndexMutUsize.index_mut.Goals as goal

pub returns : goal.returns
returns c =
    let rows = c.self.inside.rows.items in
    let order = c.self.inside.order.items in
    let o = c.self.invariant in
    let here : c.args.r < length order =
    omega (arith, c.requires, length-in_order rows order, ap (λ (vs : List RowView). length vs) c.self.view_is) in
    let number : c.from.result ≡ number_at order c.args.r =
    c.from.ensures ∙ c.index.ensures ∙ get_or_default order c.args.r c.index.result.now 0 here in
    let within : c.from.result < length rows = omega (arith, number, o.below c.args.r (omega (arith, o.count, here))) in (
      (
        refl,
        λ w. ap (λ i. in_order (set rows i w) order) number ∙ in_order-set rows order c.args.r w o here
            ∙ ap (λ (vs : List RowView). set vs c.args.r w) c.self.view_is,
      ),
      record {
        writes_back = tt;
        value = c.index_mut.ensures.value ∙ get_or_default rows c.from.result c.index_mut.result.now (blank_row 0) within
            ∙ ap (λ i. row_at rows i) number ∙ sym (row_at-in_order rows order c.args.r here)
            ∙ ap (λ (vs : List RowView). row_at vs c.args.r) c.self.view_is;
      },
    )
