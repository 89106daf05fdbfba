use Rattle.std.proofs.Common.{◌≤◌, ◌∙◌, ◌++◌, sym, ap, arith, refl, get_or, length, map, take}
use Rattle.std.proofs.Math.ListN.{length-set}
use Rattle.vte_core.proofs.OscLemmas.{tell_step, rise_in, rise_at, cut_next}
use Rattle.vte_core.proofs.osc_data.report.Goals as goal

pub slice_bounds-pieces-end-in-loop-i : goal.slice_bounds-pieces-end-in-loop-i
slice_bounds-pieces-end-in-loop-i g c =
    let r = rise_at c.loop-i.start c.args.ends.now c.args.bytes.now c.loop-i.i c.loop-i-test.true
    c.loop-i.invariant.rise in
    let h : get_or c.args.ends.now c.loop-i.i 0 ≤ length c.args.bytes.now = rise_in _ _ _ r.1 in
    omega (arith, h, r.0)

pub loop-i-preserved : goal.loop-i-preserved
loop-i-preserved g c =
    let r = rise_at c.loop-i.start c.args.ends.now c.args.bytes.now c.loop-i.i c.loop-i-test.true
    c.loop-i.invariant.rise in
    let next = cut_next c.loop-i.start c.args.ends.now c.args.bytes.now c.loop-i.i c.loop-i-test.true in
    record {
      rise = r.1;
      room = length-set _ _ _ ∙ c.loop-i.invariant.room;
      so_far = tell_step (λ p. p.now) c.loop-i.pieces _ c.loop-i.i _ _ _
          (omega (arith, c.requires.few, c.loop-i.invariant.room)) refl
          (ap (λ y. map (λ p. p.now) (take c.loop-i.i c.loop-i.pieces) ++ y) (sym next) ∙ c.loop-i.invariant.so_far);
    }
