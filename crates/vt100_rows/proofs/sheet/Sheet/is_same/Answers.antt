use Rattle.std.proofs.Common.{arith, refl}
use Rattle.vt100_rows.proofs.CopyLemmas.{all-copied}
use Rattle.vt100_rows.proofs.sheet.Sheet.is_same.Goals as goal

pub returns : goal.returns
returns c = (
  λ _. all-copied c.args.self.now c.args.other.now c.loop-r.r c.requires.count (omega arith) c.loop-r.invariant,
  λ _. refl,
)
