use Rattle.std.proofs.lemmas.Result.{err_from_is_err_and}
use Rattle.std.proofs.Common.{◌≡◌, [], ◌∷◌, Ok, Err, refl, ap, ◌∙◌}
use Rattle.byte_streams.proofs.SendLemmas.{text-more, text-broken}
use Rattle.relay_streams.proofs.OutputLemmas.{text-one}
use Rattle.relay_streams.proofs.showing.write_row.Goals as goal

pub returns-in_err-row_text : goal.returns-in_err-row_text
returns-in_err-row_text g c =
    let e = c.in_err-row_text.field-0.0 in
    let made = c.from_residual in
    let p = err_from_is_err_and made.result made.ensures.1 in
    let is : c.from_residual.result ≡ Err e = p.1 ∙ ap Err p.2 in
    rw is (text-broken g.row.T.Denot g.T.ByteSink.takes _ _ _ (0x0A ∷ []) (Err e) e c.in_err-row_text.ensures refl)

pub returns : goal.returns
returns g c =
    text-more g.row.T.Denot g.T.ByteSink.takes _ c.row_text.new.to _ _ (0x0A ∷ []) (Ok tt) c.pump.result.1
    c.in_ok-row_text.ensures refl
    (text-one g.row.T.Denot g.T.ByteSink.takes c.row_text.new.to c.pump.new.to (0x0A ∷ []) c.pump.result.1
    c.pump.result.0
    c.pump.ensures)
