use Rattle.vte.proofs.LawLemmas.{conserve, conserve_any}
use Rattle.vte.proofs.laws.bytes_are_conserved.Goals as goal

pub returns-clause-exact : goal.returns-clause-exact
returns-clause-exact g c = λ parsed hold piece parsed' hold' calls ticks t. conserve t

pub returns-clause-any : goal.returns-clause-any
returns-clause-any g c = λ t parsed held piece t' parsed' held' calls a. conserve_any a
