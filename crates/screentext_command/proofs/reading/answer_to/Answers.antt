use Rattle.std.proofs.Common.{◌≡◌, Err, rules}
use Rattle.screentext_command.proofs.MissingLemmas.{text_missing}
use Rattle.screentext_command.specs.Asked.{origin_of, wish_of}
use Rattle.screentext_command.proofs.reading.answer_to.Goals as goal

pub returns-in_err-text-clause-fault : goal.returns-in_err-text-clause-fault
returns-in_err-text-clause-fault g c =
    let e = c.in_err-text.field-0.0 in
    let is : c.from_residual-in_err-text.result ≡ Err e = search rules in
    rw is (text_missing _ _ (origin_of c.args.source.now) (wish_of c.args.request c.args.pictures.now)
    c.args.bytes.items c.in_ok-recording.recording c.in_ok-recording.note e c.in_ok-recording.ensures.shown
    c.in_err-text.ensures.fault)
