use Rattle.std.proofs.Common.{◌≡◌, false, suc, take}
use Rattle.vt100.specs.Parsing.{ParserIsAfter}
use Rattle.player_page.specs.Rows.{acts_of}
use Rattle.player_page.specs.Strips.{IsStrip}
use Rattle.player_page.proofs.strip.strip_of.Given as goal

-- the events so far were applied, and the strip has the screens up to now
abbrev pub invariant-loop-i : goal.invariant-loop-i
invariant-loop-i l = record {
  live : l.terminal.screen.failed ≡ false;
  after : ParserIsAfter l.terminal l.fn.size.rows.value l.fn.size.cols.value 0 (acts_of (take l.i l.events));
  strip : IsStrip l.look l.fn.size l.events (suc l.i) l.strip;
}
