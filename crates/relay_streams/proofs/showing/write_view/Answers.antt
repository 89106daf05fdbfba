use Rattle.std.proofs.lemmas.Result.{err_from_is_err_and}
use Rattle.std.proofs.Common.{ℕ, List, ap, subst, ◌≡◌, ◌++◌, ◌+◌, ◌-◌, ◌∙◌, [], Ok, Err, append_assoc, append-nil}
use Rattle.std.proofs.Common.{arith, sym, refl, rules}
use Rattle.byte_streams.specs.Sent.{SendsText, done}
use Rattle.byte_streams.proofs.SendLemmas.{text-more, text-broken}
use Rattle.termview.specs.Standing.{shown_by, view_size}
use Rattle.relay_streams.specs.Shown.{row_line, rows_text, screen_text}
use Rattle.relay_streams.proofs.OutputLemmas.{rows-next}
use Rattle.relay_streams.proofs.showing.write_view.Goals as goal

pub loop-row-init : goal.loop-row-init
loop-row-init g c = record { written = []; sent = done; follows = search rules }

pub returns-in_err-write_row : goal.returns-in_err-write_row
returns-in_err-write_row g c =
    let so_far = c.loop-row.invariant in
    let z = view_size c.args.view.now in
    let t = (shown_by c.args.view.now).cell in
    let row = c.loop-row.row in
    let end = c.get-row-end.result in
    let next = rows-next z t so_far.written row (end - row) (end - (row + 1)) so_far.follows (omega arith) in
    let e = c.in_err-write_row.field-0.0 in
    let made = c.from_residual in
    let p = err_from_is_err_and made.result made.ensures.1 in
    let is : c.from_residual.result ≡ Err e = p.1 ∙ ap Err p.2 in
    rw (next, is) (text-more g.row.T.Denot g.T.ByteSink.takes _ _ _ so_far.written
    (row_line z t row ++ rows_text z t (row + 1) (end - (row + 1))) (Ok tt) (Err e) so_far.sent refl
    (text-broken g.row.T.Denot g.T.ByteSink.takes _ _ (row_line z t row) (rows_text z t (row + 1) (end - (row + 1)))
    (Err e) e c.in_err-write_row.ensures refl))

pub loop-row-preserved : goal.loop-row-preserved
loop-row-preserved g c =
    let so_far = c.loop-row.invariant in
    let z = view_size c.args.view.now in
    let t = (shown_by c.args.view.now).cell in
    let row = c.loop-row.row in
    let end = c.get-row-end.result in
    let next = rows-next z t so_far.written row (end - row) (end - (row + 1)) so_far.follows (omega arith) in
    record {
      written = so_far.written ++ row_line z t row;
      sent = text-more g.row.T.Denot g.T.ByteSink.takes _ _ _ so_far.written (row_line z t row) (Ok tt) (Ok tt)
          so_far.sent refl c.in_ok-write_row.ensures;
      follows = next ∙ sym (append_assoc so_far.written (row_line z t row) (rows_text z t (row + 1) (end - (row + 1))));
    }

pub returns : goal.returns
returns g c =
    let so_far = c.loop-row.invariant in
    let z = view_size c.args.view.now in
    let t = (shown_by c.args.view.now).cell in
    let row = c.loop-row.row in
    let end = c.get-row-end.result in
    let none : end - row ≡ 0 = omega arith in
    let empty : rows_text z t row (end - row) ≡ [] = ap (rows_text z t row) none in
    let whole : screen_text z t ≡ so_far.written =
    so_far.follows ∙ ap (λ (xs : List ℕ). so_far.written ++ xs) empty ∙ append-nil so_far.written in
    subst (λ (xs : List ℕ). SendsText g.T.ByteSink.takes c.args.output.now xs (Ok tt) c.loop-row.output) (sym whole)
    so_far.sent
