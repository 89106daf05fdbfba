use Rattle.std.proofs.Common.{◌≡◌, ◌-◌, ◌++◌, List, ℕ, Ok}
use Rattle.byte_streams.specs.Sent.{SendsText}
use Rattle.termview.specs.Standing.{shown_by, view_size}
use Rattle.relay_streams.specs.Shown.{rows_text, screen_text}
use Rattle.relay_streams.proofs.showing.write_view.Given as goal

-- the rows so far are sent, and the others follow
abbrev pub invariant-loop-row : goal.invariant-loop-row
invariant-loop-row g l = record {
  written : List ℕ;
  sent : SendsText g.T.ByteSink.takes l.fn.output written (Ok tt) l.output;
  follows : screen_text (view_size l.view) (shown_by l.view).cell ≡ written
      ++ rows_text (view_size l.view) (shown_by l.view).cell l.row (l.row-end - l.row);
}
