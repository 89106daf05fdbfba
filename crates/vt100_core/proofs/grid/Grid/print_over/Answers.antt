use Rattle.std.proofs.Common.{◌≡◌, ◌-◌, arith, rules}
use Rattle.std.specs.Prelude.{Err}
use Rattle.vt100_core.proofs.RepeatLemmas.{prints-then, prints-refused}
use Rattle.vt100_core.proofs.grid.Grid.print_over.Goals as goal

pub returns : goal.returns
returns g c =
    prints-then c.screenful-first.result (c.args.count - c.screenful-first.result) c.args.count c.args.c (omega arith)
    c.in_ok-print_each.ensures c.print_on.ensures

pub returns-in_err-print_each : goal.returns-in_err-print_each
returns-in_err-print_each g c =
    let is : c.from_residual.result ≡ Err c.in_err-print_each.field-0.0 = search rules in
    rw is (prints-refused c.screenful-first.result c.args.count c.args.c (omega arith) c.in_err-print_each.ensures)
