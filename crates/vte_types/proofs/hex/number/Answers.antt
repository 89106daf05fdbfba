use Rattle.std.proofs.Common.{ℕ, ◌<◌, ◌^◌, arith, zero, suc}
use Rattle.vte_types.proofs.hex.number.Goals as goal

-- fewer than four digits leave room for one more
small : (i n : ℕ) → i < 4 → n < 16 ^ i → n < 4096
small zero n below is = omega arith
small (suc zero) n below is = omega arith
small (suc (suc zero)) n below is = omega arith
small (suc (suc (suc zero))) n below is = is
small (suc (suc (suc (suc i)))) n below is = absurd (omega arith)

pub overflow_mul-number : goal.overflow_mul-number
overflow_mul-number c = omega (
  arith,
  small c.loop-digit.digit-index c.loop-digit.number (omega arith)
      c.loop-digit.invariant.small,
)

pub overflow_add-number : goal.overflow_add-number
overflow_add-number c =
    let room : c.loop-digit.number < 4096 = small c.loop-digit.digit-index c.loop-digit.number (omega arith)
    c.loop-digit.invariant.small in
    omega (arith, c.in_ok-number.ensures.cases, c.in_ok-number.ensures.value)
