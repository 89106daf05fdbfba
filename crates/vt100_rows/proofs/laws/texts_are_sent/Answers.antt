use Rattle.vt100_rows.proofs.SentTexts.{texts-sent}
use Rattle.vt100_rows.proofs.laws.texts_are_sent.Goals as goal

pub returns : goal.returns
returns c = texts-sent
