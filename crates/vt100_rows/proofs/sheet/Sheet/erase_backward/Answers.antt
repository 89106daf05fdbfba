use Rattle.std.proofs.Common.{ap, ◌∙◌}
use Rattle.vt100_rows.specs.Row.{RowView, wiped_row}
use Rattle.vt100_rows.proofs.ClearLemmas.{erases-backward}
use Rattle.vt100_rows.proofs.sheet.Sheet.erase_backward.Goals as goal

pub returns : goal.returns
returns c =
    erases-backward c.args.self.now c.clear_between.new.self c.args.row c.args.end c.args.attrs
    c.erase_range.new.self c.requires.in_rows
    (c.erase_range.ensures ∙ ap (λ (v : RowView). wiped_row v 0 c.args.end c.args.attrs) c.index_mut.ensures.value)
    c.clear_between.ensures
