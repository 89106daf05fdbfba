use Rattle.std.proofs.Common.{◌∷◌, [], refl}
use Rattle.vte.specs.Timeout.{Sets}
use Rattle.vte.specs.Hold.{again, quiet}
use Rattle.vte.proofs.processor.renew.Goals as goal

pub returns-in-Some : goal.returns-in-Some
returns-in-Some g c = record {
  ticks = Sets ∷ [];
  renews = again c.in-Some._mark c.in-Some.ensures.0 c.in-Some.ensures.2;
  ticked = (c.set_timeout.new.self, rw c.from_millis.ensures at c.set_timeout.ensures, refl);
}

pub returns-in_default : goal.returns-in_default
returns-in_default g c = record { ticks = []; renews = quiet c.in_default.ensures; ticked = refl }
