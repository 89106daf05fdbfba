use Rattle.std.proofs.Common.{◌≡◌, ◌<◌, length, arith}
use Rattle.std.proofs.lemmas.Bool.Decides.{nat_tests}
use Rattle.vt100.proofs.DeferringLemmas.{no_controls, performs_controls}
use Rattle.vt100.proofs.screen.deferring.DeferringPerform.execute_all.Goals as goal

pub returns-then-is_empty : goal.returns-then-is_empty
returns-then-is_empty g c =
    let none : length c.args.controls.now ≡ 0 = grind (arith, nat_tests, c.is_empty.ensures, c.if-is_empty.true) in
    no_controls g.CB.Callbacks.step g.CB.Callbacks.scrolls c.args.controls.now _ none

pub returns : goal.returns
returns g c =
    let some : 0 < length c.args.controls.now = grind (arith, nat_tests, c.is_empty.ensures, c.if-is_empty.false) in
    performs_controls g.CB.Callbacks.step g.CB.Callbacks.scrolls c.args.controls.now _ _ some c.settle.ensures.same
    (rw (c.settle.ensures.none, ← c.settle.ensures.screen) c.execute_all.ensures)
