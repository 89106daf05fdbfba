use Rattle.std.proofs.Common.{◌≡◌, arith}
use Rattle.std.proofs.lemmas.Bool.Decides.{nat_tests}
use Rattle.vt100.proofs.EventLemmas.{does_change, plain_does}
use Rattle.vt100.proofs.screen.wrapped.WrappedScreen.moving_csi.Goals as goal

pub returns-in-A : goal.returns-in-A
returns-in-A g c = plain_does _ c.in-A.is (does_change (rw c.in-Some.ensures at c.cuu.ensures))

pub returns-in-B : goal.returns-in-B
returns-in-B g c = plain_does _ c.in-B.is (does_change (rw c.in-Some.ensures at c.cud.ensures))

pub returns-in-C : goal.returns-in-C
returns-in-C g c = plain_does _ c.in-C.is (does_change (rw c.in-Some.ensures at c.cuf.ensures))

pub returns-in_default : goal.returns-in_default
returns-in_default g c =
    let is : c.args.action ≡ 0x44 = grind (arith, nat_tests, c.requires.moving) in
    plain_does _ is (does_change (rw c.in-Some.ensures at c.cub.ensures))
