use Rattle.vte_core.proofs.GroundLemmas.{escape-tells, sequence-tells, text-tells}
use Rattle.vte_core.proofs.laws.sequences_and_texts.Goals as goal

pub returns-clause-escapes : goal.returns-clause-escapes
returns-clause-escapes c = escape-tells

pub returns-clause-sequences : goal.returns-clause-sequences
returns-clause-sequences c = sequence-tells

pub returns-clause-texts : goal.returns-clause-texts
returns-clause-texts c = text-tells
