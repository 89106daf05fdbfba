use Rattle.std.proofs.Common.{◌≡◌, true, ◌++◌}
use Rattle.picture_page.specs.Page.{Adds, escaped}
use Rattle.picture_page.specs.Seen.{Draws}
use Rattle.row_pictures.specs.Elements.{AddsSo}
use Rattle.recorded_screen.specs.Heads.{block_head}
use Rattle.recorded_screen.specs.Picture.{block_seen, kept_pictured, lines_text, scrolled}
use Rattle.recorded_screen.specs.Placed.{AreLines, IsHtmlLineOf}
use Rattle.recorded_screen.proofs.picture.push_block.Given as goal

-- the rows so far
abbrev pub invariant-loop-row : goal.invariant-loop-row
invariant-loop-row l =
    let s = l.fn.screen.state in
    let k = kept_pictured l.history s in
    record {
      adds : Adds l.fn.page l.page (lines_text s k l.row);
      seen : Draws l.fn.page l.page true true (block_seen (escaped (lines_text s k l.row)));
      placed : AddsSo (AreLines (IsHtmlLineOf l.look s k) l.row) (l.fn.page ++ block_head l.look) l.page;
      screen : l.screen.state ≡ scrolled s k l.row;
    }
