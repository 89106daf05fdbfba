use Rattle.std.proofs.Common.{◌≡◌, subst, Option, Some, List, ℕ}
use Rattle.std.specs.Borrow.{Bor}
use Rattle.clap.specs.Words.{first_of}
use Rattle.screentext_command.specs.Misuse.{IsGiven, flag, value}
use Rattle.screentext_command.proofs.misuse.tell_word.Goals as goal

pub returns-in-Some : goal.returns-in-Some
returns-in-Some g c = λ rows wrong.
    let m = c.args.misuse in
    let given : first_of m.word.now rows ≡ Some c.in-Some.value.now =
    subst (λ (o : Option (Bor (List ℕ))). IsGiven rows m.word.now o) c.in-Some.is wrong in
    (_, value m.lead.now m.word.now c.in-Some.value.now m.wanted.now given, c.tell_value.ensures)

pub returns-in-None : goal.returns-in-None
returns-in-None g c = λ rows wrong.
    let m = c.args.misuse in
    let given = subst (λ (o : Option (Bor (List ℕ))). IsGiven rows m.word.now o) c.in-None.is wrong in
    (_, flag m.lead.now m.word.now m.wanted.now given, c.tell.ensures)
