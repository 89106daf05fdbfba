use Rattle.std.proofs.Common.{◌∙◌, arith}
use Rattle.vt100_rows.proofs.CopyLemmas.{all-copied}
use Rattle.vt100_rows.proofs.sheet.Sheet.copy_from.Goals as goal

pub returns : goal.returns
returns c =
    all-copied c.loop-r.self c.args.other.now c.loop-r.r (c.loop-r.invariant.count ∙ c.requires.count) (omega arith)
    c.loop-r.invariant.copied
