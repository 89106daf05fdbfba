use Rattle.std.proofs.Common.{◌∙◌, arith}
use Rattle.vt100_rows.proofs.OrderLemmas.{numbers-more}
use Rattle.vt100_rows.proofs.sheet.back.push_numbers.Goals as goal

pub loop-k-preserved : goal.loop-k-preserved
loop-k-preserved c = record {
  order = c.push_reserved.ensures.items ∙ numbers-more c.args.order.now.items c.loop-k.order.items c.loop-k.k
      (omega arith) c.loop-k.invariant.order;
  len = omega (arith, c.push_reserved.ensures.len, c.loop-k.invariant.len);
  capacity = c.push_reserved.ensures.capacity ∙ c.loop-k.invariant.capacity;
}
