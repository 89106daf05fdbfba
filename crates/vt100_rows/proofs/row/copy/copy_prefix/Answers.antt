use Rattle.std.proofs.Common.{◌∙◌, ◌++◌, List, ap, drop}
use Rattle.vt100_cells.specs.Cell.{CellView}
use Rattle.vt100_rows.proofs.CopyLemmas.{prefix-copied}
use Rattle.vt100_rows.proofs.row.copy.copy_prefix.Goals as goal

pub returns : goal.returns
returns c =
    ap (λ (zs : List CellView). zs ++ drop c.args.end c.args.cells.now) c.copy_from_slice.ensures.after
    ∙ prefix-copied c.args.cells.now c.args.others.now c.args.end c.requires.length c.requires.blank c.requires.others
