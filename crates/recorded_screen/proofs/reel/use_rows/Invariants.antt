use Rattle.std.proofs.Common.{◌≡◌, ◌++◌, take}
use Rattle.recorded_screen.specs.Reel.{numbered, used_row}
use Rattle.recorded_screen.proofs.reel.use_rows.Given as goal

-- the rows so far
abbrev pub invariant-loop-place : goal.invariant-loop-place
invariant-loop-place l = l.page ≡ l.fn.page ++ numbered (used_row l.cols l.y) 0 (take l.place l.rows.keys)
