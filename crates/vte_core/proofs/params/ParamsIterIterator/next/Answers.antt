use Rattle.std.proofs.Common.{arith}
use Rattle.vte_core.proofs.Stores.{ends_below, fit_next}
use Rattle.vte_core.proofs.params.ParamsIterIterator.next.Goals as goal

pub offset_bounds-self-inside-self-inside : goal.offset_bounds-self-inside-self-inside
offset_bounds-self-inside-self-inside c = omega (arith, ends_below _ _ _ c.self.invariant.0, c.self.invariant.1)

pub slice_bounds-group-end : goal.slice_bounds-group-end
slice_bounds-group-end c =
    let n = fit_next c.self.inside.start c.in_ok-end.end.now c.self.inside.ends.now c.in_ok-end.ends.now
    c.self.inside.numbers.now c.in_ok-end.ensures.cases.0 c.self.invariant.0 in
    omega (arith, n.0, n.1)
