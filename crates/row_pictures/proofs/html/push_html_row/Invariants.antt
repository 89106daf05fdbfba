use Rattle.std.proofs.Common.{true, take, length, ◌-◌, ◌≤◌}
use Rattle.picture_page.specs.Page.{Adds, escaped}
use Rattle.picture_page.specs.Seen.{Draws}
use Rattle.row_pictures.specs.Html.{IsHtmlRun}
use Rattle.row_pictures.specs.Runs.{AddsRuns}
use Rattle.row_pictures.specs.Text.{row_text}
use Rattle.row_pictures.proofs.html.push_html_row.Given as goal

-- the cells so far
abbrev pub invariant-loop-start : goal.invariant-loop-start
invariant-loop-start l = record {
  within : l.start ≤ length l.cells;
  adds : Adds l.fn.page l.page (row_text (take l.start l.cells));
  seen : Draws l.fn.page l.page true true (escaped (row_text (take l.start l.cells)));
  runs : AddsRuns (IsHtmlRun l.look l.cells l.cursor) l.start l.fn.page l.page;
}

abbrev pub decreases-loop-start : goal.decreases-loop-start
decreases-loop-start l = length l.cells - l.start
