use Rattle.std.proofs.Common.{◌≡◌, Err, rules}
use Rattle.screentext_command.specs.Asked.{origin_of, wish_of}
use Rattle.screentext_command.specs.Command.{done, unmade, unread}
use Rattle.screentext_command.specs.Faults.{input_fault}
use Rattle.screentext_command.proofs.commands.print_answer.Goals as goal

pub returns-in_err-bytes : goal.returns-in_err-bytes
returns-in_err-bytes g c = λ words asks.
    let e = c.in_err-bytes.field-0.0 in
    let lost = c.in_err-bytes.ensures.faults in
    let is : c.from_residual.result ≡ Err (input_fault e) = search rules in rw is (unread e lost.0 lost.1)

pub returns-in_err-answer : goal.returns-in_err-answer
returns-in_err-answer g c = λ words asks.
    let e = c.in_err-answer.field-0.0 in
    let is : c.from_residual-in_err-answer.result ≡ Err e = search rules in
    rw is (unmade c.in_ok-bytes.bytes.items e _ _ asks c.in_ok-bytes.ensures.reads c.in_err-answer.ensures.fault)

pub returns : goal.returns
returns g c = λ words asks.
    done c.in_ok-bytes.bytes.items _ _ (origin_of c.args.asked.1) (wish_of c.args.asked.0 c.args.asked.2) asks
    c.in_ok-bytes.ensures.reads c.in_ok-answer.ensures.text (rw c.deref.ensures.value at c.print.ensures)
