use Rattle.std.proofs.Common.{rules, ◌≡◌, length, arith}
use Rattle.std.proofs.lemmas.Bool.Decides.{nat_tests}
use Rattle.vt100.proofs.RunLemmas.{prefix-then, prefix-end}
use Rattle.vt100.proofs.perform.WrappedScreenPerform.print_str.Goals as goal

pub loop-rest-init : goal.loop-rest-init
loop-rest-init g c = (c.utf8.text, λ q h. h)

pub loop-rest-preserved : goal.loop-rest-preserved
loop-rest-preserved g c = (
  search rules,
  λ q h. c.loop-rest.invariant.1 q (prefix-then g.CB.Callbacks.step g.CB.Callbacks.scrolls c.loop-rest.rest.now
      c.print_some-rest.result.now c.loop-rest.self c.print_some-rest.new.self q c.print_some-rest.ensures.printed h),
)

pub returns : goal.returns
returns g c =
    let none : length c.loop-rest.rest.now ≡ 0 = grind (arith, nat_tests) in
    c.loop-rest.invariant.1 c.loop-rest.self
    (prefix-end g.CB.Callbacks.step g.CB.Callbacks.scrolls c.loop-rest.rest.now c.loop-rest.self none)
