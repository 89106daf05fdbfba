use Rattle.std.proofs.Common.{sym}
use Rattle.row_drawing.proofs.Columns.{flush-is_none, flush-is_kept, flush-is_ended}
use Rattle.row_drawing.proofs.WritesLemmas.{wrote_both, wrote_by, wrote_skip}
use Rattle.row_drawing.proofs.drawing.Drawing.flush.Goals as goal

pub returns-in_default-clause-written : goal.returns-in_default-clause-written
returns-in_default-clause-written c = wrote_by (flush-is_none _ _ _ c.in_default.is) (wrote_skip _ _)

pub returns-then-not-is_end-clause-written : goal.returns-then-not-is_end-clause-written
returns-then-not-is_end-clause-written c =
    wrote_by (flush-is_kept _ _ _ _ _ c.in-Some.is c.cell.ensures (sym c.if-not-is_end.ensures)) (wrote_skip _ _)

pub returns-clause-written : goal.returns-clause-written
returns-clause-written c =
    wrote_by (flush-is_ended _ _ _ _ _ _ _ c.in-Some.is c.cell.ensures (sym c.if-not-is_end.ensures)
    c.saturating_sub.ensures c.loses_by_erase.ensures) (wrote_both c.to_erase.ensures.written c.erase.ensures.written)
