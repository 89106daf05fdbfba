use Rattle.std.proofs.Common.{Bor, IfSome, ◌≡◌, ◌+◌, ap, sym, ◌∙◌, arith, subst}
use Rattle.vt100_cells.specs.Cell.{CellView}
use Rattle.row_drawing.specs.Drawing.{row_change_of}
use Rattle.row_drawing.proofs.RowWrites.{arrived_attrs, colored_attrs, drawn_here, goes_none, goes_on, goes_then}
use Rattle.row_drawing.proofs.RowWrites.{here_behind, pass-attrs, span_fits, wrote_column_on, wrote_text}
use Rattle.row_drawing.proofs.WritesLemmas.{wrote_behind}
use Rattle.row_drawing.proofs.drawing.Drawing.texts.Goals as goal

pub pass-requires : goal.pass-requires
pass-requires c =
    let j = row_change_of c.args.self.now in
    let here = drawn_here j (j.start + c.args.n) _ _ c.arrive.ensures.written c.color.ensures.written
    in
    span_fits _ _ _ _ c.cell-cell.ensures c.args.self.now.few c.args.self.now.paired
    (omega (arith, c.requires.in_row, c.requires.some)) here.col

pub color-requires-clause-like : goal.color-requires-clause-like
color-requires-clause-like c =
    let kept = arrived_attrs (row_change_of c.args.self.now) _ _ c.arrive.ensures.written in
    subst (λ a. IfSome c.args.like (λ (x : Bor CellView). x.now.attrs ≡ a)) (sym kept) c.requires.like

pub gather-requires-clause-like : goal.gather-requires-clause-like
gather-requires-clause-like c =
    sym (pass-attrs _ _ _ c.pass.ensures ∙ colored_attrs _ c.color.ensures.written)

pub gather-requires-clause-here : goal.gather-requires-clause-here
gather-requires-clause-here c =
    let j = row_change_of c.args.self.now in
    let here = drawn_here j (j.start + c.args.n) _ _ c.arrive.ensures.written c.color.ensures.written
    in
    here_behind j c.args.n c.args.count _ _ _ _ c.behind.ensures c.pass.ensures here

pub returns-clause-written : goal.returns-clause-written
returns-clause-written c =
    let j = row_change_of c.args.self.now in
    λ t. goes_then (goes_on _ _ _ c.behind.ensures c.args.self.now.paired c.cell-cell.ensures goes_none
    (wrote_column_on j (j.start + c.args.n) _ _ c.cell-cell.ensures c.span.ensures c.requires.begins
    (wrote_behind t c.arrive.ensures.written) (wrote_behind t c.color.ensures.written)
    (wrote_text _ t _ _ c.pass.ensures c.push_text.ensures))) (c.gather.ensures.written t)

pub returns-clause-like : goal.returns-clause-like
returns-clause-like c =
    ap (λ (y : CellView). y.attrs) (sym c.cell-cell.ensures)
    ∙ sym (c.gather.ensures.attrs ∙ pass-attrs _ _ _ c.pass.ensures
    ∙ colored_attrs _ c.color.ensures.written)
