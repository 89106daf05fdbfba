use Rattle.vte_core.proofs.GroundLemmas.{ground-escape, ground-sequence, ground-text, ground-esc}
use Rattle.vte_core.proofs.laws.ends_at_ground.Goals as goal

pub returns-clause-escapes : goal.returns-clause-escapes
returns-clause-escapes c = ground-escape

pub returns-clause-sequences : goal.returns-clause-sequences
returns-clause-sequences c = ground-sequence

pub returns-clause-texts : goal.returns-clause-texts
returns-clause-texts c = ground-text

pub returns-clause-anew : goal.returns-clause-anew
returns-clause-anew c = ground-esc
