use Rattle.std.proofs.Common.{◌≡◌, ◌∙◌, ◌<◌, ap, get_or, subst, sym, arith}
use Rattle.std.specs.Char.{digit_value}
use Rattle.recordings.proofs.ThemeLemmas.{all_digits, color_fits, next_digit, no_digits_yet}
use Rattle.recordings.proofs.theme.digits_in.Goals as goal

pub loop-digit-init : goal.loop-digit-init
loop-digit-init c = no_digits_yet c.args.digits.now

pub overflow_mul-color : goal.overflow_mul-color
overflow_mul-color c =
    let small = color_fits c.loop-digit.digit-index c.loop-digit.color (omega arith) c.loop-digit.invariant.small in
    omega (arith, small)

pub overflow_add-color : goal.overflow_add-color
overflow_add-color c =
    let small = color_fits c.loop-digit.digit-index c.loop-digit.color (omega arith) c.loop-digit.invariant.small in
    let value : c.in_ok-value.value < 16 =
    subst (λ n. n < 16) (sym c.in_ok-value.ensures.value.1) c.in_ok-value.ensures.value.0 in
    omega (arith, small, value)

pub loop-digit-preserved : goal.loop-digit-preserved
loop-digit-preserved c =
    let here : c.from.result ≡ get_or c.args.digits.now c.loop-digit.digit-index 0 = cc in
    next_digit c.args.digits.now c.loop-digit.digit-index c.loop-digit.color c.in_ok-value.value (omega arith)
    (subst (λ x. digit_value x < 16) here c.in_ok-value.ensures.value.0) (c.in_ok-value.ensures.value.1
    ∙ ap digit_value here)
    c.loop-digit.invariant

pub returns : goal.returns
returns c = all_digits c.args.digits.now c.loop-digit.digit-index c.loop-digit.color (omega arith)
    c.loop-digit.invariant
