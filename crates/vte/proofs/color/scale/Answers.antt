use Rattle.std.proofs.Common.{arith}
use Rattle.vte.proofs.color.scale.Goals.{in-1, in-2, in-3, in-4}
use Rattle.vte.proofs.color.scale.Goals as goal

pub overflow_cast-result : goal.overflow_cast-result
overflow_cast-result c = elim c.match-digits.branch [
  | in-1 w ↦ rw (c.from.ensures, w.greatest-is) (omega (arith, rw w.in-1.is at c.in_ok-number.ensures.small))
  | in-2 w ↦ rw (c.from.ensures, w.greatest-is) (omega (arith, rw w.in-2.is at c.in_ok-number.ensures.small))
  | in-3 w ↦ rw (c.from.ensures, w.greatest-is) (omega (arith, rw w.in-3.is at c.in_ok-number.ensures.small))
  | in-4 w ↦ rw (c.from.ensures, w.greatest-is) (omega (arith, rw w.in-4.is at c.in_ok-number.ensures.small))
]
