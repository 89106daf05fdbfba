use Rattle.std.proofs.Common.{◌≡◌, Err, Some, refl, rules}
use Rattle.screentext_command.proofs.MissingLemmas.{file_missing}
use Rattle.screentext_command.specs.Asked.{origin_of}
use Rattle.screentext_command.proofs.reading.timing_of.Goals as goal

pub returns-in_err-read-in-Some-clause-fault : goal.returns-in_err-read-in-Some-clause-fault
returns-in_err-read-in-Some-clause-fault g c = λ wish bytes.
    let e = c.in_err-read-in-Some.field-0.0 in
    let is : c.from_residual.result ≡ Err e = search rules in
    let at : (origin_of c.args.source.now).timing ≡ Some c.as_str.result.now =
    rw (c.in-Some.is, c.as_str.ensures.value) refl in
    rw is (file_missing _ _ (origin_of c.args.source.now) wish bytes c.as_str.result.now e at
    c.in_err-read-in-Some.ensures.fault)
