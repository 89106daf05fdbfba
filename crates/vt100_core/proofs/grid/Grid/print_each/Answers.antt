use Rattle.std.proofs.Common.{◌≡◌, ◌+◌, arith, rules, refl, subst, replicate}
use Rattle.std.specs.Prelude.{Ok, Err}
use Rattle.vt100_core.specs.Text.{PrintsAll}
use Rattle.vt100_core.proofs.RepeatLemmas.{prints-none, prints-one, refuses-one, prints-then, prints-refused}
use Rattle.vt100_core.proofs.grid.Grid.print_each.Goals as goal

pub loop-i-init : goal.loop-i-init
loop-i-init g c = prints-none c.args.self.now c.args.attrs.now c.requires

pub loop-i-preserved : goal.loop-i-preserved
loop-i-preserved g c =
    prints-then c.loop-i._i 1 (c.loop-i._i + 1) c.args.c refl c.loop-i.invariant
    (prints-one c.args.c c.args.attrs.now c.in_ok-print.ensures)

pub returns-in_err-print : goal.returns-in_err-print
returns-in_err-print g c =
    let is : c.from_residual.result ≡ Err c.in_err-print.field-0.0 = search rules in
    rw is (prints-refused {T = Unit {0}} (c.loop-i._i + 1) c.args.count c.args.c (omega arith)
    (prints-then c.loop-i._i 1 (c.loop-i._i + 1) c.args.c refl c.loop-i.invariant
    (refuses-one c.args.c c.args.attrs.now c.in_err-print.ensures)))

pub returns : goal.returns
returns g c =
    let n : c.loop-i._i ≡ c.args.count = omega arith in
    rw n at c.loop-i.invariant
