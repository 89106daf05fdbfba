use Rattle.vt100_core.proofs.PlaceLemmas.{keeps_rows}
use Rattle.vt100_core.proofs.laws.resizes_keep_rows.Goals as goal

pub returns : goal.returns
returns c = keeps_rows
