use Rattle.std.proofs.Common.{rules, ◌≡◌, None}
use Rattle.vte.specs.Sgr.{target_of}
use Rattle.vte_core.specs.Store.{each_alone}
use Rattle.vte.proofs.SgrLemmas.{sets-single}
use Rattle.vte.proofs.sgr.set_number.Goals as goal

pub returns-in_default-clause-calls : goal.returns-in_default-clause-calls
returns-in_default-clause-calls g c =
    let none : target_of c.args.code ≡ None = search rules in
    sets-single g.H.Handler.step c.args.code c.args.handler.now
    (each_alone c.args.others.now) c.set_single.new.handler none
    c.set_single.ensures
