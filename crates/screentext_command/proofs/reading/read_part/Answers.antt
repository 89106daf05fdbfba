use Rattle.std.proofs.Common.{◌≡◌, ◌∙◌, ◌&&◌, Bool, Err, List, ℕ, ap, is_none, rules, subst, sym}
use Rattle.screentext_command.proofs.MissingLemmas.{cut_missing}
use Rattle.screentext_command.specs.Asked.{origin_of}
use Rattle.screentext_command.specs.Faults.{recording_fault}
use Rattle.screentext_command.specs.Reads.{IsNoted, begins_as_asciicast, flaw_of}
use Rattle.screentext_command.proofs.reading.read_part.Goals as goal

pub returns-in_err-taken-clause-fault : goal.returns-in_err-taken-clause-fault
returns-in_err-taken-clause-fault g c = λ wish.
    let e = c.in_err-taken.field-0.0 in
    let is : c.from_residual-in_err-taken.result ≡ Err (recording_fault e) = search rules in
    let begins = c.may_be_cast-begins.ensures
    ∙ ap (λ (bs : List ℕ). is_none c.args.source.now.kind && begins_as_asciicast bs) c.deref.ensures.value in
    let reading = c.in_ok-reading.reading in
    rw is (cut_missing _ _ (origin_of c.args.source.now) wish c.args.bytes.items reading e
    c.in_ok-reading.ensures.reading c.in_err-taken.ensures.fault.0
    (ap (λ (b : Bool). flaw_of b reading.recording.kind reading.fault) (sym begins)
    ∙ c.in_err-taken.ensures.fault.1))

pub returns-clause-part : goal.returns-clause-part
returns-clause-part g c = record {
  reading = c.in_ok-reading.reading;
  read = c.in_ok-reading.ensures.reading;
  same = c.in_ok-taken.ensures.recording;
  noted = subst (λ (b : Bool). IsNoted c.args.source.now.strict b c.in_ok-reading.reading c.in_ok-taken.field-0.1)
      (c.may_be_cast-begins.ensures
      ∙ ap (λ (bs : List ℕ). is_none c.args.source.now.kind && begins_as_asciicast bs) c.deref.ensures.value)
      c.in_ok-taken.ensures.noted;
}
