use Rattle.std.proofs.Common.{drop}
use Rattle.vt100_capture.proofs.CaptureLemmas.{IsCaptured}
use Rattle.vt100_capture.proofs.several.write_rows.Given as goal

abbrev pub invariant-loop-r : goal.invariant-loop-r
invariant-loop-r g l = IsCaptured {W = g.row.W.Denot} g.W.Write.write_str_gives l.initial.state l.rows
    l.initial.writer (drop l.r l.rows) l.state l.writer
