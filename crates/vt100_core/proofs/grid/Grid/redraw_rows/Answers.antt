use Rattle.std.proofs.Common.{◌<◌, ap, arith, length, refl}
use Rattle.row_drawing.proofs.WritesLemmas.{appended_skip, refused}
use Rattle.screen_drawing.specs.Rows.{in_turn}
use Rattle.vt100_core.specs.Grid.{GridView}
use Rattle.vt100_core.specs.Writers.{lines_redraw}
use Rattle.vt100_core.proofs.WriterLemmas.{row-redraw, rows-next, rows-begun, wraps-next}
use Rattle.vt100_core.proofs.grid.Grid.redraw_rows.Goals as goal

pub loop-i-init : goal.loop-i-init
unfolding in_turn
loop-i-init c = record {
  wrote = appended_skip c.args.pen.now c.args.contents.now;
  wraps = refl;
}

pub returns-in_err-redraw : goal.returns-in_err-redraw
returns-in_err-redraw c =
    let n = length c.args.self.now.rows in
    let count = ap (λ (x : GridView). length x.rows) c.self.view_is in
    let inside : c.loop-i.i < n = omega (arith, count) in
    refused c.from_residual.result (lines_redraw c.args.self.now n) c.args.pen.now c.redraw.new.pen
    c.from_residual.ensures.0 refl
    (rows-begun _ _ n _ inside
    (row-redraw c.loop-i.i c.shown_row-row.ensures c.place-place.ensures c.loop-i.invariant.wraps)
    c.loop-i.invariant.wrote c.in_err-redraw.ensures)

pub loop-i-preserved : goal.loop-i-preserved
loop-i-preserved c = record {
  wrote = rows-next _ _ (omega arith)
      (row-redraw c.loop-i.i c.shown_row-row.ensures c.place-place.ensures c.loop-i.invariant.wraps)
      c.loop-i.invariant.wrote c.in_ok-redraw.ensures;
  wraps = wraps-next c.args.self.now c.loop-i.i _ _ _ (omega arith) c.shown_row-row.ensures c.wrapped-wrapping.ensures;
}
