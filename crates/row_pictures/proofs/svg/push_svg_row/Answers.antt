use Rattle.std.proofs.Common.{◌≤◌, arith, true}
use Rattle.picture_page.proofs.PageLemmas.{adds_none}
use Rattle.picture_page.proofs.SeenLemmas.{draws_none}
use Rattle.row_pictures.specs.Svg.{IsSvgRun}
use Rattle.row_pictures.proofs.RowLemmas.{row_drawn, font_seen}
use Rattle.row_pictures.proofs.RunLemmas.{no_runs}
use Rattle.row_pictures.proofs.SvgLemmas.{svg_run_more}
use Rattle.row_pictures.proofs.svg.push_svg_row.Goals as goal

pub loop-start-init : goal.loop-start-init
loop-start-init c = record {
  within = omega arith;
  adds = adds_none c.args.page.now;
  seen = draws_none c.args.page.now true;
  runs = no_runs (IsSvgRun c.args.look.now c.unpadded-written.result.now c.args.cursor) c.args.page.now;
}

pub loop-start-preserved : goal.loop-start-preserved
loop-start-preserved c =
    let cells = c.unpadded-written.result.now in
    let le : c.loop-start.start ≤ c.svg_run_end-end.result = omega arith in
    record {
      within = c.svg_run_end-end.ensures.within;
      adds = row_drawn _ _ _ cells c.loop-start.start c.svg_run_end-end.result le c.loop-start.invariant.adds
          c.in_ok-push_run.ensures.adds;
      seen = font_seen _ _ _ cells c.loop-start.start c.svg_run_end-end.result le c.loop-start.invariant.seen
          c.in_ok-push_run.ensures.seen;
      runs = svg_run_more c.args.look.now cells c.args.cursor _ _ _ c.loop-start.start c.svg_run_end-end.result _
          c.svg_run_end-end.ensures.more c.svg_run_end-end.ensures.alike c.svg_run_end-end.ensures.in_place
          c.style_at-style.ensures c.loop-start.invariant.runs c.in_ok-push_run.ensures.bytes;
    }
