use Rattle.std.proofs.Common.{refl}
use Rattle.termrelay.specs.Frame.{is_unsure}
use Rattle.termrelay.specs.Answers.{same_shown}
use Rattle.termrelay.proofs.AnswerLemmas.{held-first, due-answered, none-answered, long-answered}
use Rattle.termrelay.proofs.laws.examples_are_answered.Goals as goal

pub returns : goal.returns
unfolding is_unsure same_shown
returns c = record {
  first = refl;
  same = refl;
  changed = refl;
  unsure = refl;
  again = refl;
  sure_again = refl;
  owed = λ now base. refl;
  held = held-first;
  none_owed = due-answered;
  none_due = none-answered;
  too_long = long-answered;
  held_takes_none = refl;
  too_long_takes = refl;
}
