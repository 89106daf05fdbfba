use Rattle.std.proofs.Common.{ap, ◌∙◌}
use Rattle.vt100_rows.specs.Row.{RowView, wiped_row}
use Rattle.vt100_rows.proofs.ClearLemmas.{erases-forward}
use Rattle.vt100_rows.proofs.sheet.Sheet.erase_forward.Goals as goal

pub returns : goal.returns
returns c =
    erases-forward c.args.self.now c.clear_between.new.self c.args.row c.args.col c.args.width c.args.attrs
    c.erase_range.new.self c.requires.in_rows
    (c.erase_range.ensures ∙ ap (λ (v : RowView). wiped_row v c.args.col c.args.width c.args.attrs)
    c.index_mut.ensures.value) _ c.len-end.ensures c.clear_between.ensures
