use Rattle.std.proofs.Common.{◌+◌, arith, refl}
use Rattle.row_pictures.proofs.RunLemmas.{alike_shorter, in_place_begins, in_place_goes_on}
use Rattle.row_pictures.proofs.svg.svg_run_end.Goals as goal

pub loop-place-init : goal.loop-place-init
loop-place-init c = record {
  more = omega arith;
  within = let some = c.run_end-end.ensures.more in omega arith;
  in_place = in_place_begins c.args.cells.now c.args.start (c.args.start + 1) refl;
}

pub loop-place-preserved : goal.loop-place-preserved
loop-place-preserved c = record {
  more = let more = c.loop-place.invariant.more in omega arith;
  within = omega arith;
  in_place = in_place_goes_on c.args.cells.now c.args.start c.loop-place.place c.loop-place.invariant.in_place
      (c.is_in_place.ensures c.if-is_in_place.true);
}

pub returns-else-is_in_place-clause-alike : goal.returns-else-is_in_place-clause-alike
returns-else-is_in_place-clause-alike c =
    alike_shorter c.args.cells.now c.args.cursor c.args.start c.loop-place.place c.run_end-end.result
    c.loop-place.invariant.within c.run_end-end.ensures.alike

pub returns-after-loop-place-clause-alike : goal.returns-after-loop-place-clause-alike
returns-after-loop-place-clause-alike c =
    alike_shorter c.args.cells.now c.args.cursor c.args.start c.loop-place.place c.run_end-end.result
    c.loop-place.invariant.within c.run_end-end.ensures.alike
