use Rattle.std.proofs.Common.{◌≡◌, Err, rules}
use Rattle.screentext_command.proofs.MissingLemmas.{err_goes, no_moment_text, unfit_text}
use Rattle.screentext_command.specs.Asked.{origin_of, wish_of}
use Rattle.screentext_command.proofs.reading.text_of.Goals as goal

pub returns-in_err-moments-clause-fault : goal.returns-in_err-moments-clause-fault
returns-in_err-moments-clause-fault c =
    let e = c.in_err-moments.field-0.0 in
    let is : c.from_residual.result ≡ Err e = search rules in
    rw is (no_moment_text (origin_of c.args.source.now) (wish_of c.args.request c.args.pictures.now)
    c.args.recording.now e c.in_err-moments.ensures.fault)

pub returns-clause-fault : goal.returns-clause-fault
returns-clause-fault c =
    err_goes c.answer_of.result c.answer_of.ensures.fault (λ e fault. unfit_text (origin_of c.args.source.now)
    (wish_of c.args.request c.args.pictures.now) c.args.recording.now e c.in_ok-moments.moments
    c.in_ok-moments.ensures.moments c.if-source.false fault)
