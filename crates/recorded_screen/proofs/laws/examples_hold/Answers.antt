use Rattle.std.proofs.Common.{refl}
use Rattle.std.specs.Fmt.{digits}
use Rattle.recorded_screen.specs.Reel.{last_digits}
use Rattle.recorded_screen.proofs.laws.examples_hold.Goals as goal

pub returns : goal.returns
unfolding last_digits digits
returns c = record {
  third = refl;
  seconds = refl;
  fifth = refl;
  between = λ change. refl;
  behind = λ change. refl;
  faster = λ change. refl;
  empty = λ change. refl;
  early = λ change. refl;
  latest = λ change. refl;
  start = λ change. refl;
  next = λ change. refl;
  fourth = refl;
  later = λ change. refl;
}
