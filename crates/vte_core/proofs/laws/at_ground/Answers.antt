use Rattle.std.proofs.Common.{refl}
use Rattle.vte_core.proofs.GroundLemmas.{ground-added, ground-nothing, ground-joins, ground-abort, ground-pending}
use Rattle.vte_core.proofs.laws.at_ground.Goals as goal

pub returns-clause-alone : goal.returns-clause-alone
returns-clause-alone c = ground-added

pub returns-clause-nothing : goal.returns-clause-nothing
returns-clause-nothing c = ground-nothing

pub returns-clause-joined : goal.returns-clause-joined
returns-clause-joined c = ground-joins

pub returns-clause-can : goal.returns-clause-can
returns-clause-can c = ground-abort 0x18 refl

pub returns-clause-sub : goal.returns-clause-sub
returns-clause-sub c = ground-abort 0x1A refl

pub returns-clause-pending : goal.returns-clause-pending
returns-clause-pending c = ground-pending
