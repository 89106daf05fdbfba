use Rattle.std.proofs.Common.{arith}
use Rattle.recordings.proofs.FrameLemmas.{prefix_number}
use Rattle.recordings.proofs.ttyrec.next_number.Goals as goal

pub returns : goal.returns
returns c =
    let parts = c.in_ok-number.ensures.cases in (
      prefix_number c.args.bytes.now c.in_ok-number.number.now c.in_ok-number.after.now c.from_le_bytes.result parts.0
          parts.1 parts.2
          (λ i. let fits = c.type_inv.bytes i in omega arith) c.from_le_bytes.ensures,
      parts.2,
    )
