use Rattle.std.proofs.Common.{◌≡◌, ◌∙◌, arith, sym}
use Rattle.termrelay.specs.Frame.{is_unsure}
use Rattle.termrelay.proofs.BelowLemmas.{any-found, any-next}
use Rattle.termrelay.proofs.shown.is_unsure_since.Goals as goal

pub returns-then-is_row_unsure_since : goal.returns-then-is_row_unsure_since
unfolding is_unsure
returns-then-is_row_unsure_since c =
    sym (any-found c.args.now.now.state.shown.height c.loop-row.row _ (omega arith)
    (sym c.is_row_unsure_since.ensures ∙ c.if-is_row_unsure_since.true))

pub loop-row-preserved : goal.loop-row-preserved
loop-row-preserved c =
    any-next c.loop-row.row _ c.loop-row.invariant
    (sym c.is_row_unsure_since.ensures ∙ c.if-is_row_unsure_since.false)

pub returns : goal.returns
unfolding is_unsure
returns c =
    let all : c.loop-row.row ≡ c.args.now.now.state.shown.height = omega arith in
    sym (rw all at c.loop-row.invariant)
