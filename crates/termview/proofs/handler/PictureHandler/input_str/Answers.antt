use Rattle.std.proofs.Common.{rules, ◌≡◌, length, arith}
use Rattle.std.proofs.lemmas.Bool.Decides.{nat_tests}
use Rattle.termview.proofs.RunSteps.{prefix-then, prefix-end}
use Rattle.termview.proofs.handler.PictureHandler.input_str.Goals as goal

pub loop-rest-init : goal.loop-rest-init
loop-rest-init c = (c.utf8.text, λ q h. h)

pub loop-rest-preserved : goal.loop-rest-preserved
loop-rest-preserved c = (
  search rules,
  λ q h. c.loop-rest.invariant.1 q (prefix-then c.loop-rest.rest.now c.input_some-rest.result.now c.loop-rest.self
      c.input_some-rest.new.self q c.input_some-rest.ensures.shown h),
)

pub returns : goal.returns
returns c =
    let none : length c.loop-rest.rest.now ≡ 0 = grind (arith, nat_tests) in
    c.loop-rest.invariant.1 c.loop-rest.self (prefix-end c.loop-rest.rest.now c.loop-rest.self none)
