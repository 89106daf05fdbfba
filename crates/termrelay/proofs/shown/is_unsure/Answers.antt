use Rattle.std.proofs.Common.{◌≡◌, ◌∙◌, arith, sym}
use Rattle.termrelay.specs.Frame.{is_unsure}
use Rattle.termrelay.proofs.BelowLemmas.{any-found}
use Rattle.termrelay.proofs.shown.is_unsure.Goals as goal

pub returns-then-is_row_unsure : goal.returns-then-is_row_unsure
unfolding is_unsure
returns-then-is_row_unsure c =
    sym (any-found c.args.screen.now.state.shown.height c.loop-row.row _ (omega arith)
    (sym c.is_row_unsure.ensures ∙ c.if-is_row_unsure.true))

pub returns : goal.returns
unfolding is_unsure
returns c =
    let all : c.loop-row.row ≡ c.args.screen.now.state.shown.height = omega arith in
    sym (rw all at c.loop-row.invariant)
