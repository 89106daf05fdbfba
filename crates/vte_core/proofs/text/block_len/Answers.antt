use Rattle.std.proofs.Common.{◌+◌, ◌≤◌, length, arith}
use Rattle.vte_core.proofs.Runs.{block_more}
use Rattle.vte_core.proofs.text.block_len.Goals as goal

pub loop-len-preserved : goal.loop-len-preserved
loop-len-preserved c =
    let within : c.loop-len.len + 16 ≤ length c.args.bytes.now =
    omega (arith, c.loop-len-test.true, c.loop-len.invariant.within) in
    record {
      within = within;
      printed = block_more c.args.bytes.now c.loop-len.len within
          (c.begins_printed.ensures c.if-not-begins_printed.false) c.loop-len.invariant.printed;
    }
