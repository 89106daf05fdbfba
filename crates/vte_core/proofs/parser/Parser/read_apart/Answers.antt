use Rattle.vte_core.proofs.AskedLemmas.{on_step}
use Rattle.vte_core.proofs.parser.Parser.read_apart.Goals as goal

pub returns-in-Escape : goal.returns-in-Escape
returns-in-Escape g c = on_step c.args.bytes.now c.read_escape.result c.read_escape.ensures
