use Rattle.relay_streams.proofs.LawLemmas.{texts_are_one}
use Rattle.relay_streams.proofs.laws.shown_texts_are_one.Goals as goal

pub returns : goal.returns
returns c = texts_are_one
