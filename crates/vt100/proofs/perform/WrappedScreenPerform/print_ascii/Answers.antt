use Rattle.std.proofs.Common.{◌≡◌, ◌<◌, length, arith, refl}
use Rattle.std.proofs.lemmas.Bool.Decides.{nat_tests}
use Rattle.vt100.proofs.RunLemmas.{ascii-run, prefix-end}
use Rattle.vt100.proofs.perform.WrappedScreenPerform.print_ascii.Goals as goal

pub run-requires-clause-drawn : goal.run-requires-clause-drawn
run-requires-clause-drawn g c =
    rw c.as_bytes.ensures.value (λ k d l. (refl, c.requires k d l))

pub returns-then-is_empty : goal.returns-then-is_empty
returns-then-is_empty g c =
    let none : length c.args.text.now ≡ 0 = grind (arith, nat_tests, c.is_empty.ensures, c.if-is_empty.true) in
    prefix-end g.CB.Callbacks.step g.CB.Callbacks.scrolls c.args.text.now c.args.self.now none

pub returns : goal.returns
returns g c =
    let some : 0 < length c.args.text.now = grind (arith, nat_tests, c.is_empty.ensures, c.if-is_empty.false) in
    ascii-run g.CB.Callbacks.step g.CB.Callbacks.scrolls c.args.text.now _ some c.requires c.is_live.ensures.live
    (rw c.as_bytes.ensures.value at c.run.ensures)
