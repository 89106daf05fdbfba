use Rattle.termview.proofs.LawLemmas.{more_bytes}
use Rattle.termview.proofs.laws.bytes_are_shown_in_turn.Goals as goal

pub returns : goal.returns
returns c = more_bytes
