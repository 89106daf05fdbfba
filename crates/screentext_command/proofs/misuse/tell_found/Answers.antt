use Rattle.screentext_command.proofs.MisuseLemmas.{usage_told}
use Rattle.screentext_command.proofs.misuse.tell_found.Goals as goal

pub returns-in-Some : goal.returns-in-Some
returns-in-Some g c = λ rows wrong. c.tell_word.ensures rows (rw c.in-Some.is at wrong)

pub returns-in-None : goal.returns-in-None
returns-in-None g c = λ rows wrong. usage_told g.V.ByteSink.takes rows c.args.errors.now c.tell.new.errors c.tell.ensures
