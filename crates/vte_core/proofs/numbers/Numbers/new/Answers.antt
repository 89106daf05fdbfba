use Rattle.std.proofs.Common.{refl}
use Rattle.vte_core.proofs.Numbered.{numbers-none}
use Rattle.vte_core.proofs.numbers.Numbers.new.Goals as goal

pub returns : goal.returns
returns c = numbers-none _ c.new.ensures refl refl
