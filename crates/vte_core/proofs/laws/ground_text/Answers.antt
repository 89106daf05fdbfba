use Rattle.vte_core.proofs.GroundTextLemmas.{text-tells}
use Rattle.vte_core.proofs.QuietBytes.{others-print_nothing}
use Rattle.vte_core.proofs.laws.ground_text.Goals as goal

pub returns-clause-characters : goal.returns-clause-characters
returns-clause-characters c = text-tells

pub returns-clause-alone : goal.returns-clause-alone
returns-clause-alone c = others-print_nothing
