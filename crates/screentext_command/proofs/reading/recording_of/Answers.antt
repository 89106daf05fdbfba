use Rattle.std.proofs.Common.{◌≡◌, Err, rules, subst}
use Rattle.recordings.specs.declared.recording.Recording.{Recording}
use Rattle.screentext_command.proofs.MissingLemmas.{large_missing}
use Rattle.screentext_command.specs.Asked.{origin_of}
use Rattle.screentext_command.specs.Missing.{refused}
use Rattle.screentext_command.specs.Reads.{IsDrawnSo}
use Rattle.screentext_command.specs.declared.error.TextError.TheVariants.{Memory}
use Rattle.screentext_command.proofs.reading.recording_of.Goals as goal

pub returns-in_err-part-clause-fault : goal.returns-in_err-part-clause-fault
returns-in_err-part-clause-fault g c = λ wish.
    let e = c.in_err-part.field-0.0 in
    let is : c.from_residual-in_err-part.result ≡ Err e = search rules in
    rw is (large_missing _ _ (origin_of c.args.source.now) wish c.args.bytes.items c.in_ok-read.read c.in_ok-read.note e
    c.in_ok-read.ensures.part c.in_err-part.ensures.fault)

pub returns-in_err-drawn-clause-fault : goal.returns-in_err-drawn-clause-fault
returns-in_err-drawn-clause-fault g c = λ wish.
    let is : c.from_residual-in_err-drawn.result ≡ Err Memory = search rules in rw is refused

pub returns-clause-shown : goal.returns-clause-shown
returns-clause-shown g c = record {
  read = c.in_ok-read.read;
  part = c.in_ok-read.ensures.part;
  within = c.in_ok-part.ensures.recording.1;
  drawn = subst (λ (r : Recording). IsDrawnSo c.args.source.now.draws_lines r c.in_ok-drawn.field-0)
      c.in_ok-part.ensures.recording.0 c.in_ok-drawn.ensures;
}
