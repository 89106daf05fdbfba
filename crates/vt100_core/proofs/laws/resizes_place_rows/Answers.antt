use Rattle.vt100_core.proofs.PlaceLemmas.{places_rows}
use Rattle.vt100_core.proofs.laws.resizes_place_rows.Goals as goal

pub returns : goal.returns
returns c = places_rows
