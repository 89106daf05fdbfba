use Rattle.std.specs.Prelude.{◌≡◌, length, map, All}
use Rattle.vt100_cells.specs.Runs.{IsShown}
use Rattle.termview.proofs.RunSteps.{IsOnTheWay}
use Rattle.termview.proofs.picture.Picture.input_run.Given as goal

abbrev pub invariant-loop-rest : goal.invariant-loop-rest
invariant-loop-rest g l = record {
  drawn : All (g.G.Glyph.Takes g.row.COLUMNS) l.rest;
  shown : All IsShown (map g.G.Glyph.code l.rest);
  cols : l.self.size.cols ≡ l.initial.self.size.cols;
  way : IsOnTheWay (map g.G.Glyph.code l.text) l.initial.self (map g.G.Glyph.code l.rest) l.self;
}

abbrev pub decreases-loop-rest : goal.decreases-loop-rest
decreases-loop-rest g l = length l.rest
