use Rattle.std.proofs.Common.{◌∙◌, ◌<◌, arith, length, sym}
use Rattle.screentext_command.proofs.RowLemmas.{blank_next, shown_next}
use Rattle.screentext_command.proofs.rows.row_end.Goals as goal
use Rattle.screentext_command.proofs.rows.row_end.Goals.{then-is_shown, else-is_shown}

pub loop-i-preserved : goal.loop-i-preserved
loop-i-preserved c =
    let lt : c.loop-i.i < length c.args.cells.now = omega arith in
    elim c.if-is_shown.branch [
      | then-is_shown w ↦ record {
        columns = w.end-is
            ∙ shown_next c.args.look c.args.cells.now c.loop-i.i c.index-cells-i.result lt c.index-cells-i.is
            (sym c.is_shown.ensures ∙ w.if-is_shown.true);
        bound = omega arith;
      }
      | else-is_shown w ↦ record {
        columns = w.end-is
            ∙ blank_next c.args.look c.args.cells.now c.loop-i.i c.loop-i.end c.index-cells-i.result lt
            c.index-cells-i.is (sym c.is_shown.ensures ∙ w.if-is_shown.false) c.loop-i.invariant.columns;
        bound = omega arith;
      }
    ]
