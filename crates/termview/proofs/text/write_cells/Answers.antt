use Rattle.std.proofs.Common.{◌≡◌, ◌+◌, ◌==◌, Ok, Err, Result, arith, refl, ap, ◌∙◌, subst, length, rules}
use Rattle.std.specs.Prelude.{encode_utf8_all}
use Rattle.std.specs.declared.io.Error.{Error}
use Rattle.vt100_cells.specs.Cell.{CellView}
use Rattle.vt100_cells.specs.Cells.{cell_at}
use Rattle.vt100_rows.specs.Text.{cell_text, line_text}
use Rattle.byte_streams.specs.Pump.{Pumps}
use Rattle.byte_streams.specs.Sent.{done}
use Rattle.termview.proofs.WriteLemmas.{sent-more, sent-broken}
use Rattle.termview.proofs.text.write_cells.Goals as goal

pub loop-col-init : goal.loop-col-init
loop-col-init g c = done

pub returns-in_err-pump : goal.returns-in_err-pump
returns-in_err-pump g c =
    let n = c.loop-col.col in
    let e : Error = c.in_err-pump.field-0.0 in
    let is : c.from_residual.result ≡ Err e = search rules in
    let failed : c.pump.result.1 ≡ Err e = search rules in
    let fails = subst (λ (r : Result (Unit {0}) Error).
    Pumps g.T.ByteSink.takes c.loop-col.to c.as_bytes.result.now r c.pump.result.0 c.pump.new.to) failed
    c.pump.ensures in
    rw is (sent-broken g.row.T.Denot g.T.ByteSink.takes c.args.to.now c.loop-col.to c.pump.new.to
    (cell_at c.args.cells.now)
    n c.text_len-col-end.result c.pump.result.0 c.as_bytes.result.now
    (line_text (cell_at c.args.cells.now) 0 (length c.args.cells.now)) e (omega arith)
    (c.as_bytes.ensures.value ∙ c.cell_text.ensures ∙ ap (λ (x : CellView).
    encode_utf8_all (cell_text x (n == 0))) c.at.ensures)
    c.text_len-col-end.ensures.text c.loop-col.invariant fails)

pub loop-col-preserved : goal.loop-col-preserved
loop-col-preserved g c =
    let n = c.loop-col.col in
    let well : c.pump.result.1 ≡ Ok tt = search rules in
    let sends = subst (λ (r : Result (Unit {0}) Error).
    Pumps g.T.ByteSink.takes c.loop-col.to c.as_bytes.result.now r c.pump.result.0 c.pump.new.to) well c.pump.ensures in
    sent-more g.row.T.Denot g.T.ByteSink.takes c.args.to.now c.loop-col.to c.pump.new.to (cell_at c.args.cells.now) n
    (n + 1)
    c.pump.result.0 c.as_bytes.result.now refl
    (c.as_bytes.ensures.value ∙ c.cell_text.ensures ∙ ap (λ (x : CellView).
    encode_utf8_all (cell_text x (n == 0))) c.at.ensures)
    c.loop-col.invariant sends
