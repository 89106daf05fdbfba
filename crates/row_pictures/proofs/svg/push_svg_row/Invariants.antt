use Rattle.std.proofs.Common.{true, take, length, ◌-◌, ◌≤◌}
use Rattle.picture_page.specs.Page.{Adds, escaped}
use Rattle.picture_page.specs.Seen.{Draws}
use Rattle.row_pictures.specs.Drawn.{font_texts}
use Rattle.row_pictures.specs.Runs.{AddsRuns}
use Rattle.row_pictures.specs.Svg.{IsSvgRun}
use Rattle.row_pictures.specs.Text.{row_text}
use Rattle.row_pictures.proofs.svg.push_svg_row.Given as goal

-- the cells so far
abbrev pub invariant-loop-start : goal.invariant-loop-start
invariant-loop-start l = record {
  within : l.start ≤ length l.written;
  adds : Adds l.fn.page l.page (row_text (take l.start l.written));
  seen : Draws l.fn.page l.page true true (escaped (font_texts (take l.start l.written)));
  runs : AddsRuns (IsSvgRun l.look l.written l.cursor) l.start l.fn.page l.page;
}

abbrev pub decreases-loop-start : goal.decreases-loop-start
decreases-loop-start l = length l.written - l.start
