use Rattle.std.proofs.Common.{drop}
use Rattle.vt100_capture.proofs.CaptureLemmas.{IsCaptured}
use Rattle.vt100_core.proofs.grid.capture.write_kept_rows.Given as goal

abbrev pub invariant-loop-j : goal.invariant-loop-j
invariant-loop-j g l = IsCaptured {W = g.row.W.Denot} g.W.Write.write_str_gives l.initial.state l.rows.items
    l.initial.writer (drop l.j l.rows.items) l.state l.writer
