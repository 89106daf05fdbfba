use Rattle.std.proofs.Common.{arith, ◌≡◌, ◌∙◌, ap, sym, subst, map, length}
use Rattle.std.specs.Prelude.{All}
use Rattle.std.proofs.lemmas.Bool.Decides.{nat_tests}
use Rattle.std.proofs.lemmas.List.{take_rest, drop-map, length-map}
use Rattle.std.proofs.lemmas.List.Elements.{All-drop}
use Rattle.vt100_cells.specs.Runs.{IsShown}
use Rattle.termview.proofs.RunSteps.{on-the-way-next, on-the-way-end}
use Rattle.termview.proofs.picture.Picture.input_run.Goals as goal

pub loop-rest-preserved : goal.loop-rest-preserved
loop-rest-preserved g c =
    let code = g.G.Glyph.code in
    let takes = g.G.Glyph.Takes g.row.COLUMNS in
    let rest = c.loop-rest.rest.now in
    let n = c.input_row-n.result in
    let before = c.loop-rest.invariant in
    let left = take_rest rest n in
    let codes = ap (map code) left ∙ sym (drop-map code n rest) in
    record {
      drawn = subst (All takes) (sym left) (All-drop takes n rest before.drawn);
      shown = subst (All IsShown) (sym codes) (All-drop IsShown n (map code rest) before.shown);
      cols = c.input_row-n.ensures.cols ∙ before.cols;
      way = on-the-way-next n before.way c.input_row-n.ensures.shown codes;
    }

pub returns : goal.returns
returns g c =
    let rest = c.loop-rest.rest.now in
    let none : length rest ≡ 0 = grind (arith, nat_tests) in
    on-the-way-end c.loop-rest.invariant.way (length-map rest g.G.Glyph.code ∙ none)
