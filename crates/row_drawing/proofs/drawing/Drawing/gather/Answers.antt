use Rattle.std.proofs.Common.{◌∙◌, arith}
use Rattle.row_drawing.specs.Drawing.{row_change_of}
use Rattle.row_drawing.proofs.RowWrites.{behind-within, goes_on, here_behind, joined_attrs, pass-attrs, span_fits}
use Rattle.row_drawing.proofs.RowWrites.{wrote_joined, wrote_text}
use Rattle.row_drawing.proofs.drawing.Drawing.gather.Goals as goal

pub pass-requires : goal.pass-requires
pass-requires c =
    let joins = c.joins_run.ensures c.if-not-joins_run.false in
    span_fits _ _ _ _ c.cell-cell.ensures c.args.self.now.few c.args.self.now.paired
    (omega (arith, c.requires.in_row, c.loop-m-test.true)) joins.here.col

pub loop-m-preserved : goal.loop-m-preserved
loop-m-preserved c =
    let j = row_change_of c.args.self.now in
    let x = c.cell-cell.result.now in
    let inv = c.loop-m.invariant in
    let joins = c.joins_run.ensures c.if-not-joins_run.false in
    let inside = behind-within x c.loop-m.m c.args.count _ c.behind-m.ensures (omega (arith, c.loop-m-test.true)) in
    let attrs = pass-attrs x _ _ c.pass.ensures in
    record {
      begun = omega (arith, inv.begun, inside.0);
      within = inside.1;
      gathered = λ t. goes_on _ _ x c.behind-m.ensures c.args.self.now.paired c.cell-cell.ensures (inv.gathered t)
          (wrote_joined x c.cell-cell.ensures inv.alike joins (wrote_text x t _ _ c.pass.ensures c.push_text.ensures));
      attrs = attrs ∙ inv.attrs;
      alike = attrs ∙ inv.alike ∙ joined_attrs x c.cell-cell.ensures joins;
      here = here_behind j c.loop-m.m c.args.count _ _ _ x c.behind-m.ensures c.pass.ensures
          (inv.here (omega (arith, c.loop-m-test.true)));
    }
