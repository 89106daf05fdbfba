use Rattle.vt100_capture.specs.Capture.{new_capture}
use Rattle.vt100_capture.proofs.CaptureLemmas.{IsCaptured}
use Rattle.vt100_core.specs.Grid.{visible}
use Rattle.vt100_core.proofs.grid.Grid.write_visible_rows.Given as goal

abbrev pub invariant-loop-row : goal.invariant-loop-row
invariant-loop-row g l = IsCaptured {W = g.row.W.Denot} g.W.Write.write_str_gives new_capture (visible l.self)
    l.initial.writer l.row-iterator l.state l.writer
