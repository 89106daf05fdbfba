use Rattle.picture_page.proofs.PageLemmas.{after_markup}
use Rattle.picture_page.proofs.SeenLemmas.{draws_after}
use Rattle.row_pictures.specs.Svg.{area_data}
use Rattle.row_pictures.proofs.RowLemmas.{each_more}
use Rattle.row_pictures.proofs.glyph.push_glyph.Goals as goal

pub loop-area-preserved : goal.loop-area-preserved
loop-area-preserved c = record {
  adds = after_markup _ _ _ _ c.loop-area.invariant.adds c.in_ok-push_area.ensures.adds;
  seen = draws_after _ _ _ _ _ _ _ c.loop-area.invariant.seen c.in_ok-push_area.ensures.seen;
  bytes = each_more (area_data c.args.x) _ _ _ c.areas-area-items.result.now c.loop-area.area-index (0, 0, 0, 0)
      c.loop-area-test.true c.loop-area.invariant.bytes c.in_ok-push_area.ensures.bytes;
}
