use Rattle.std.proofs.Common.{◌≡◌, Err, Ok, refl, rules}
use Rattle.screentext_command.proofs.streams.print.Goals as goal

pub returns-in_err-write_all : goal.returns-in_err-write_all
returns-in_err-write_all g c =
    let e = c.in_err-write_all.field-0.0 in
    let is : c.from_residual.result ≡ Err e = search rules in
    (Err e, is, c.in_err-write_all.ensures)

pub returns : goal.returns
returns g c = (Ok tt, refl, c.in_ok-write_all.ensures)
