use Rattle.std.proofs.Common.{◌≡◌, [], ◌++◌, true}
use Rattle.picture_page.specs.Page.{Adds, escaped}
use Rattle.picture_page.specs.Seen.{Draws}
use Rattle.row_pictures.specs.Elements.{AddsSo}
use Rattle.recorded_screen.specs.Heads.{svg_head}
use Rattle.recorded_screen.specs.Picture.{font_lines, front_seen, kept_pictured, rows_pictured, scrolled, written_lines}
use Rattle.recorded_screen.specs.Placed.{AreLines, IsSvgLineOf}
use Rattle.recorded_screen.specs.Titles.{title_line}
use Rattle.recorded_screen.proofs.picture.svg.Given as goal

-- the rows so far
abbrev pub invariant-loop-row : goal.invariant-loop-row
invariant-loop-row l =
    let s = l.fn.screen.state in
    let k = kept_pictured l.history s in
    record {
      adds : Adds [] l.page (written_lines l.look s k l.row);
      seen : Draws [] l.page true true (front_seen (title_line l.look) ++ escaped (font_lines l.look s k l.row));
      placed : AddsSo (AreLines (IsSvgLineOf l.look s k) l.row)
          (svg_head l.look (rows_pictured l.history s) s.shown.width) l.page;
      screen : l.screen.state ≡ scrolled s k l.row;
    }
