use Rattle.std.proofs.Common.{◌∙◌, arith, sym}
use Rattle.row_pictures.proofs.UnpaddedLemmas.{hidden_next, shown_next}
use Rattle.row_pictures.proofs.padding.unpadded_end.Goals as goal
use Rattle.row_pictures.proofs.padding.unpadded_end.Goals.{then-shows_at, else-shows_at}

pub loop-col-preserved : goal.loop-col-preserved
loop-col-preserved c =
    elim c.if-shows_at.branch [
      | then-shows_at w ↦ record {
        columns = w.end-is
            ∙ shown_next c.args.cells.now c.args.cursor c.loop-col.col (sym c.shows_at.ensures ∙ w.if-shows_at.true);
        bound = omega arith;
      }
      | else-shows_at w ↦ record {
        columns = w.end-is
            ∙ hidden_next c.args.cells.now c.args.cursor c.loop-col.col c.loop-col.end
            (sym c.shows_at.ensures ∙ w.if-shows_at.false) c.loop-col.invariant.columns;
        bound = omega arith;
      }
    ]
