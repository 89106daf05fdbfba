use Rattle.std.proofs.Common.{◌+◌, arith, refl}
use Rattle.row_pictures.proofs.RunLemmas.{alike_begins, alike_goes_on}
use Rattle.row_pictures.proofs.row.run_end.Goals as goal

pub loop-end-init : goal.loop-end-init
loop-end-init c = record {
  more = omega arith;
  within = omega arith;
  alike = alike_begins c.args.cells.now c.args.cursor c.args.start (c.args.start + 1) refl;
}

pub loop-end-preserved : goal.loop-end-preserved
loop-end-preserved c = record {
  more = let more = c.loop-end.invariant.more in omega arith;
  within = omega arith;
  alike = alike_goes_on c.args.cells.now c.args.cursor c.args.start c.loop-end.end c.loop-end.invariant.alike
      (c.are_alike.ensures.narrow c.if-are_alike.true) (c.are_alike.ensures.style c.if-are_alike.true)
      (c.are_alike.ensures.ink c.if-are_alike.true);
}
