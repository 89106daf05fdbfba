use Rattle.vt100_rows.proofs.SentTexts.{marks-absent}
use Rattle.vt100_rows.proofs.laws.marks_are_absent.Goals as goal

pub returns : goal.returns
returns c = marks-absent
