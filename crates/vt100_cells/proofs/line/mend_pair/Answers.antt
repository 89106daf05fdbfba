use Rattle.std.proofs.Common.{◌∙◌, ◌≡◌, slice_set}
use Rattle.vt100_cells.specs.Cell.{default_cell}
use Rattle.vt100_cells.proofs.ShiftLemmas.{mends-pair}
use Rattle.vt100_cells.proofs.line.mend_pair.Goals as goal

pub returns : goal.returns
returns c =
    let e : c.new.result ≡ default_cell = cc in
    let b : c.put_within-2.new.cells ≡ slice_set (slice_set c.args.cells.now c.args.j c.new.result) c.args.i
    c.continuation.result = cc in
    b ∙ mends-pair c.args.cells.now c.args.i c.args.j c.new.result c.continuation.result e c.continuation.ensures
