use Rattle.std.proofs.Common.{◌≡◌, [], None, refl, rules}
use Rattle.vt100.proofs.screen.deferring.DeferringPerform.csi_dispatch.Goals as goal

pub returns-in-None : goal.returns-in-None
returns-in-None g c =
    let none : c.args.self.now.erasing ≡ None = search rules in
    rw none (search rules)
