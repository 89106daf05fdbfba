use Rattle.vte_types.proofs.CallLemmas.{Calls-append}
use Rattle.vte.proofs.osc.set_palette.Goals as goal

pub loop-index-preserved-in-Some-parse_number : goal.loop-index-preserved-in-Some-parse_number
loop-index-preserved-in-Some-parse_number g c end more =
    c.loop-index.invariant end
    (rw (c.in-Some.ensures.steps, c.in-Some-next.ensures.steps, ← c.in-Some-parse_number.ensures)
    (Calls-append g.H.Handler.step _ _ _ _ _ c.set_indexed.ensures more))

pub loop-index-preserved : goal.loop-index-preserved
loop-index-preserved g c end more =
    c.loop-index.invariant end
    (rw (c.in-Some.ensures.steps, c.in-Some-next.ensures.steps, ← c.in_default-parse_number.ensures) more)
