use Rattle.std.proofs.Common.{◌≡◌, ℕ, suc, ◌+◌, ◌<◌, ◌∷◌, List, length, drop, drop-cons, get_or, sym, ap, ◌∙◌}
use Rattle.std.proofs.Common.{arith}
use Rattle.std.proofs.lemmas.Bool.{false≢true}
use Rattle.vt100_rows.specs.Row.{RowView, blank_row}
use Rattle.vt100_capture.proofs.CaptureLemmas.{IsCaptured-next, left-none}
use Rattle.vt100_core.proofs.grid.capture.write_kept_rows.Goals as goal

cut_at : (rows : List RowView) (j : ℕ) (x y : RowView) → j < length rows → y ≡ get_or rows j (blank_row 0) → x ≡ y
    → drop j rows ≡ x ∷ drop (j + 1) rows
cut_at rows j x y h is e =
    let next : suc j ≡ j + 1 = omega arith in
    drop-cons rows j (blank_row 0) h
    ∙ ap (λ (z : RowView). z ∷ drop (suc j) rows) (sym is ∙ sym e)
    ∙ ap (λ k. x ∷ drop k rows) next

pub loop-j-preserved : goal.loop-j-preserved
loop-j-preserved g c =
    let rows : List RowView = c.args.rows.now.items in
    let j = c.loop-j.j in
    let x = c.new.result in
    let within : j < length rows = omega (arith, c.loop-j-test.true, c.len-j-end.ensures) in
    let cut = cut_at rows j x c.kept_at.result.now within c.kept_at.ensures c.new.ensures in
    IsCaptured-next g.W.Write.write_str_gives c.args.state.now rows c.args.writer.now (drop j rows)
    (drop (j + 1) rows) x c.loop-j.state c.write_formatted_basic.new.state c.loop-j.writer
    c.write_formatted_basic.new.writer cut c.loop-j.invariant c.in_ok-write_formatted_basic.ensures.text
    c.in_ok-write_formatted_basic.ensures.state

pub returns-in_err-write_formatted_basic-clause-empty : goal.returns-in_err-write_formatted_basic-clause-empty
returns-in_err-write_formatted_basic-clause-empty g c e =
    let rows : List RowView = c.args.rows.now.items in
    let j = c.loop-j.j in
    let x = c.new.result in
    let within : j < length rows = omega (arith, c.loop-j-test.true, c.len-j-end.ensures) in
    let cut = cut_at rows j x c.kept_at.result.now within c.kept_at.ensures c.new.ensures in
    absurd (false≢true (c.in_err-write_formatted_basic.ensures.empty
    (left-none g.W.Write.write_str_gives c.args.state.now rows c.args.writer.now (drop j rows) (drop (j + 1) rows) x
    c.loop-j.state c.loop-j.writer cut c.loop-j.invariant e)))
