use Rattle.std.proofs.Common.{◌≡◌, ◌-◌, arith}
use Rattle.vte_core.proofs.Alone.{numbers-alone, groups-fewer}
use Rattle.vte_core.proofs.params.Params.numbers.Goals as goal

pub returns-then-self-eq0-clause-alone : goal.returns-then-self-eq0-clause-alone
returns-then-self-eq0-clause-alone c =
    let all : c.self.inside.len - c.self.inside.subparameters ≡ c.self.inside.len = omega (arith, c.if-self-eq0.true) in
    numbers-alone _ _ _ _ _ c.self.invariant.0 c.self.view_is all

pub returns-else-self-eq0-clause-others : goal.returns-else-self-eq0-clause-others
returns-else-self-eq0-clause-others c = groups-fewer _ _ _ _ _ c.self.invariant.0 c.self.view_is
    (λ all. absurd (omega (arith, all, c.self.invariant.1, c.if-self-eq0.false)))
