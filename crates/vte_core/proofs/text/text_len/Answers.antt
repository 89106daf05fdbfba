use Rattle.std.proofs.Common.{◌≡◌, sym, arith, ℕ, length, take, subst}
use Rattle.vte_core.specs.Runs.{printed_len}
use Rattle.vte_core.proofs.Runs.{printed-prefix, printed-within}
use Rattle.vte_core.proofs.text.text_len.Goals as goal

pub returns-clause-within : goal.returns-clause-within
returns-clause-within c = omega (arith, printed-within c.args.bytes.now, c.printed_len.ensures)

pub returns-clause-printed : goal.returns-clause-printed
returns-clause-printed c = subst (λ (j : ℕ). printed_len (take j c.args.bytes.now) ≡ length (take j c.args.bytes.now))
    (sym c.printed_len.ensures) (printed-prefix c.args.bytes.now)
