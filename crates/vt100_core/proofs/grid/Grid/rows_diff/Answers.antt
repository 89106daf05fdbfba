use Rattle.std.proofs.Common.{◌<◌, ap, arith, ◌∙◌, ◌&&◌, length, min, not, refl}
use Rattle.row_drawing.proofs.WritesLemmas.{appended_skip, refused}
use Rattle.screen_drawing.specs.Rows.{in_turn}
use Rattle.vt100_core.specs.Grid.{GridView}
use Rattle.vt100_core.specs.Writers.{lines_difference}
use Rattle.vt100_core.proofs.WriterLemmas.{row-difference, rows-next, rows-begun, wraps-next}
use Rattle.vt100_core.proofs.grid.Grid.rows_diff.Goals as goal

pub loop-i-init : goal.loop-i-init
unfolding in_turn
loop-i-init c = record {
  wrote = appended_skip c.args.pen.now c.args.contents.now;
  wraps = refl;
  wrapped = refl;
}

pub returns-in_err-difference : goal.returns-in_err-difference
returns-in_err-difference c =
    let g = c.args.self.now in
    let h = c.args.prev.now in
    let n = min (length g.rows) (length h.rows) in
    let count = ap (λ (x : GridView). length x.rows) c.self.view_is in
    let others = ap (λ (x : GridView). length x.rows) c.prev.view_is in
    let inside : c.loop-i.i < n = omega (arith, count, others) in
    let flag = c.has_flag.ensures ∙ ap (λ b. b && not c.loop-i.pen.lost) c.loop-i.invariant.wrapped in
    refused c.from_residual.result (lines_difference g h n) c.args.pen.now c.difference.new.pen
    c.from_residual.ensures.0 refl
    (rows-begun _ _ n _ inside
    (row-difference c.loop-i.i c.shown_row-row.ensures c.shown_row-prev_row.ensures c.place-place.ensures
    c.loop-i.invariant.wraps flag) c.loop-i.invariant.wrote c.in_err-difference.ensures)

pub loop-i-preserved : goal.loop-i-preserved
loop-i-preserved c =
    let flag = c.has_flag.ensures ∙ ap (λ b. b && not c.loop-i.pen.lost) c.loop-i.invariant.wrapped in
    record {
      wrote = rows-next _ _ (omega arith)
          (row-difference c.loop-i.i c.shown_row-row.ensures c.shown_row-prev_row.ensures c.place-place.ensures
          c.loop-i.invariant.wraps flag)
          c.loop-i.invariant.wrote c.in_ok-difference.ensures;
      wraps = wraps-next c.args.self.now c.loop-i.i _ _ _ (omega arith) c.shown_row-row.ensures
          c.wrapped-wrapping.ensures;
      wrapped = wraps-next c.args.prev.now c.loop-i.i _ _ _ (omega arith) c.shown_row-prev_row.ensures
          c.wrapped-prev_wrapping.ensures;
    }
