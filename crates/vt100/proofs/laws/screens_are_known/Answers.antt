use Rattle.vt100.proofs.FormLists.{screen-known, made-known, small-screen}
use Rattle.vt100.proofs.laws.screens_are_known.Goals as goal

pub returns : goal.returns
returns c = record { shown = screen-known; made = made-known; small = small-screen }
