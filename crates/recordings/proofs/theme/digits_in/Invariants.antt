use Rattle.recordings.proofs.ThemeLemmas.{AreDigitsSoFar}
use Rattle.recordings.proofs.theme.digits_in.Given as goal

abbrev pub invariant-loop-digit : goal.invariant-loop-digit
invariant-loop-digit l = AreDigitsSoFar l.digits l.digit-index l.color
