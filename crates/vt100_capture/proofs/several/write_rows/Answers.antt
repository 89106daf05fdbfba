use Rattle.std.proofs.Common.{◌≡◌, ◌<◌, ◌+◌, ◌∷◌, ℕ, suc, List, length, drop, drop-cons}
use Rattle.std.proofs.Common.{sym, ap, ◌∙◌, arith}
use Rattle.std.proofs.lemmas.Bool.{false≢true}
use Rattle.vt100_rows.specs.Row.{RowView, blank_row}
use Rattle.vt100_rows.specs.Sheet.{row_at}
use Rattle.vt100_capture.proofs.CaptureLemmas.{IsCaptured-next, left-none}
use Rattle.vt100_capture.proofs.several.write_rows.Goals as goal

cut_at : (rows : List RowView) (i : ℕ) (x : RowView) → i < length rows → x ≡ row_at rows i
    → drop i rows ≡ x ∷ drop (i + 1) rows
cut_at rows i x h e =
    let next : suc i ≡ i + 1 = omega arith in
    drop-cons rows i (blank_row 0) h ∙ ap (λ (z : RowView). z ∷ drop (suc i) rows) (sym e)
    ∙ ap (λ k. x ∷ drop k rows) next

pub loop-r-preserved : goal.loop-r-preserved
loop-r-preserved g c =
    let rows : List RowView = c.args.rows.now in
    let i = c.loop-r.r in
    let x = c.new.result in
    let cut = cut_at rows i x (omega (arith, c.loop-r-test.true, c.len-r-end.ensures)) (c.new.ensures ∙ c.index.ensures) in
    IsCaptured-next g.W.Write.write_str_gives c.args.state.now rows c.args.writer.now (drop i rows)
    (drop (i + 1) rows) x c.loop-r.state c.write_formatted_basic.new.state c.loop-r.writer
    c.write_formatted_basic.new.writer cut
    c.loop-r.invariant c.in_ok-write_formatted_basic.ensures.text c.in_ok-write_formatted_basic.ensures.state

pub returns-in_err-write_formatted_basic-clause-empty : goal.returns-in_err-write_formatted_basic-clause-empty
returns-in_err-write_formatted_basic-clause-empty g c e =
    let rows : List RowView = c.args.rows.now in
    let i = c.loop-r.r in
    let x = c.new.result in
    let cut = cut_at rows i x (omega (arith, c.loop-r-test.true, c.len-r-end.ensures)) (c.new.ensures ∙ c.index.ensures) in
    absurd (false≢true (c.in_err-write_formatted_basic.ensures.empty
    (left-none g.W.Write.write_str_gives c.args.state.now rows c.args.writer.now (drop i rows) (drop (i + 1) rows) x
    c.loop-r.state c.loop-r.writer cut c.loop-r.invariant e)))
