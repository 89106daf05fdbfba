use Rattle.std.proofs.Common.{◌∙◌, ap, List, ℕ}
use Rattle.vte_core.specs.Event.{Osc}
use Rattle.vte_core.specs.Store.{cut_at}
use Rattle.vte_core.proofs.OscLemmas.{cut-pieces}
use Rattle.vte_core.proofs.Telling.{same_step}
use Rattle.vte_core.proofs.osc_data.OscData.dispatch.Goals as goal

pub report-requires-clause-rise : goal.report-requires-clause-rise
report-requires-clause-rise g c = rw (c.as_slice.ensures.value, c.as_slice-2.ensures.value) c.self.invariant

pub returns-clause-reported : goal.returns-clause-reported
returns-clause-reported g c =
    let e = ap (λ y. cut_at 0 y c.as_slice.result.now) c.as_slice-2.ensures.value
    ∙ (ap (λ y. cut_at 0 c.self.inside.ends.items y) c.as_slice.ensures.value
    ∙ ap (λ (y : List ℕ × List ℕ). cut_at 0 y.1 y.0) c.self.view_is) in
    same_step g.P.Perform.step c.args.performer.now c.report.new.performer _ _
    (ap (λ ps. Osc ps c.args.bell_terminated) e) c.report.ensures

pub returns-clause-is_reported : goal.returns-clause-is_reported
returns-clause-is_reported g c = λ s r. ap (λ y. cut_at 0 c.end_piece.new.self.1 y) c.end_piece.ensures.bytes
    ∙ cut-pieces g.row.N c.args.self.now s c.end_piece.new.self.1 r (c.end_piece.ensures.ends s r)
