use Rattle.std.proofs.Common.{◌≡◌, ◌+◌, ◌∙◌, false, ap, append-nil, arith, sym}
use Rattle.picture_page.proofs.PageLemmas.{adds_none, after_markup}
use Rattle.picture_page.proofs.SeenLemmas.{draws_after, draws_none}
use Rattle.row_pictures.specs.Svg.{pixels}
use Rattle.row_pictures.proofs.SvgLemmas.{glyph_more}
use Rattle.row_pictures.proofs.svg.push_glyphs.Goals as goal

pub loop-cell-init : goal.loop-cell-init
loop-cell-init c = record {
  adds = adds_none c.args.page.now;
  seen = draws_none c.args.page.now false;
  bytes = sym (append-nil c.args.page.now);
  place = let here : c.args.col ≡ c.args.col + 0 = omega arith in c.pixels-x.ensures ∙ ap pixels here;
}

pub loop-cell-preserved : goal.loop-cell-preserved
loop-cell-preserved c = record {
  adds = after_markup _ _ _ _ c.loop-cell.invariant.adds c.in_ok-push_glyph.ensures.adds;
  seen = draws_after _ _ _ _ _ _ _ c.loop-cell.invariant.seen c.in_ok-push_glyph.ensures.seen;
  bytes = glyph_more _ _ _ c.args.col c.loop-cell.x c.args.run.now c.loop-cell.cell-index c.cell-item.result
      c.loop-cell-test.true c.loop-cell.invariant.place c.cell-item.is c.loop-cell.invariant.bytes
      c.in_ok-push_glyph.ensures.bytes;
  place = omega (arith, c.loop-cell.invariant.place, c.saturating_add-x.ensures);
}
