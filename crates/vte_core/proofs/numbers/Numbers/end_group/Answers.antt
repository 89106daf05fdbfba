use Rattle.std.proofs.Common.{refl}
use Rattle.vte_core.proofs.Headers.{closed_group}
use Rattle.vte_core.proofs.numbers.Numbers.end_group.Goals as goal

pub returns : goal.returns
returns c = λ gs g h some.
    let x = c.args.self.now in
    let e = closed_group x.params gs g x.many h.params h.many some in
    record { params = e.0; is_open = refl; many = e.1 }
