use Rattle.std.proofs.Common.{◌≡◌, ◌/◌, ◌%◌, ◌^◌, ◌≤◌, ◌∙◌, ◌++◌, ap, arith, decimal}
use Rattle.std.proofs.Math.Nat.{one-le-pow}
use Rattle.picture_page.proofs.PageLemmas.{after_markup}
use Rattle.recorded_screen.proofs.ReelLemmas.{decimal_begins, decimal_ends, decimal_goes_on}
use Rattle.recorded_screen.proofs.reel.push_decimal.Goals as goal

pub loop-unit-init : goal.loop-unit-init
loop-unit-init c = record {
  adds = after_markup _ _ _ _ c.in_ok-number.ensures.adds c.in_ok-markup.ensures.adds;
  bytes = λ places is.
      let some : 1 ≤ 10 ^ places = one-le-pow places 10 (omega arith) in
      let unit : c.max-parts.result ≡ 10 ^ places = omega arith in
      record {
        places = places;
        is = unit;
        rest = decimal_begins _ _ _ c.args.value c.max-parts.result places unit
            (c.in_ok-number.ensures.bytes ∙ ap (λ n. c.args.page.now ++ decimal n) c.whole_of.ensures)
            c.in_ok-markup.ensures.bytes;
      };
}

pub loop-unit-preserved : goal.loop-unit-preserved
loop-unit-preserved c = record {
  adds = after_markup _ _ _ _ c.loop-unit.invariant.adds c.in_ok-digit.ensures.adds;
  bytes = λ places is.
      decimal_goes_on _ _ _ c.args.value c.loop-unit.unit _ c.loop-unit-test.true
      (c.loop-unit.invariant.bytes places is) (ap (λ m. c.args.value / m % 10) c.max.ensures)
      c.in_ok-digit.ensures.bytes;
}

pub returns-clause-bytes : goal.returns-clause-bytes
returns-clause-bytes c = λ places is.
    decimal_ends _ _ c.args.value c.loop-unit.unit c.loop-unit-test.false (c.loop-unit.invariant.bytes places is)
