use Rattle.std.proofs.Common.{◌+◌, ◌<◌, ap, ◌∙◌, subst, arith}
use Rattle.std.proofs.lemmas.Bool.{false≢true}
use Rattle.vt100_cells.specs.Cells.{cell_at, trimmed_len}
use Rattle.vt100_rows.proofs.BasicLemmas.{IsBasic-next, no-column}
use Rattle.vt100_rows.proofs.row.Row.write_contents_formatted_basic.Goals as goal

pub loop-col-preserved : goal.loop-col-preserved
loop-col-preserved g c =
    let k = c.loop-col.col in
    IsBasic-next g.W.Write.write_str_gives (cell_at c.args.self.now.cells) c.args.current_attrs.now c.args.writer.now
    k (k + 1) c.at.result.now c.loop-col.writer c.write_cell.new.writer c.loop-col.current_attrs
    c.write_cell.new.current_attrs (omega arith)
    (c.at.ensures ∙ ap (λ xs. cell_at xs k) c.cells-cells.ensures) c.loop-col.invariant
    c.in_ok-write_cell.ensures.text c.in_ok-write_cell.ensures.attrs

pub returns-in_err-write_cell-clause-empty : goal.returns-in_err-write_cell-clause-empty
returns-in_err-write_cell-clause-empty g c e =
    let k = c.loop-col.col in
    let cells = c.args.self.now.cells in
    let end = c.trimmed_len-col-end.ensures.value ∙ ap trimmed_len c.cells-cells.ensures in
    let within : k < trimmed_len cells = subst (λ n. k < n) end c.loop-col-test.true in
    let none = c.in_err-write_cell.ensures.empty (no-column (cell_at cells) c.args.current_attrs.now k
    (trimmed_len cells) c.at.result.now c.loop-col.current_attrs within
    (c.at.ensures ∙ ap (λ xs. cell_at xs k) c.cells-cells.ensures) c.loop-col.invariant.attrs e) in
    absurd (false≢true none)
