use Rattle.std.proofs.Common.{◌≡◌, ◌+◌, ◌≤◌, ◌++◌, length, map}
use Rattle.std.specs.Prelude.{All}
use Rattle.std.specs.Str.{chars}
use Rattle.vt100_cells.specs.Runs.{IsShown}
use Rattle.vt100_cells.proofs.runs.take_run.Given as goal
use denote.Text.{Utf8}
use denote.Shadow.{shadow}

abbrev pub invariant-loop-rest : goal.invariant-loop-rest
invariant-loop-rest g l = record {
  text : shadow (Utf8 l.rest);
  parts : chars l.text ≡ map g.G.Glyph.code l.run.items ++ chars l.rest;
  shorter : length l.rest + length l.run.items ≤ length l.text;
  drawn : All (g.G.Glyph.Takes g.row.COLUMNS) l.run.items;
  shown : All IsShown (map g.G.Glyph.code l.run.items);
}

abbrev pub decreases-loop-rest : goal.decreases-loop-rest
decreases-loop-rest g l = length l.rest
