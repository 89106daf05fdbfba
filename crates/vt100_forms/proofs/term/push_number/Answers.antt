use Rattle.std.proofs.Common.{sym, ap, ◌∙◌, ◌++◌, arith}
use Rattle.std.proofs.lemmas.Fmt.{decimal_digit}
use Rattle.vt100_forms.proofs.DigitLemmas.{decimal_tens, decimal_hundreds, two_pushed, three_pushed}
use Rattle.vt100_forms.proofs.term.push_number.Goals as goal

pub returns-then-n-lt10-clause-bytes : goal.returns-then-n-lt10-clause-bytes
returns-then-n-lt10-clause-bytes c =
    c.push_digit.ensures.bytes ∙ ap (λ ds. c.args.run.now ++ ds) (sym (decimal_digit c.args.n (omega arith)))

pub returns-then-n-lt100-clause-bytes : goal.returns-then-n-lt100-clause-bytes
returns-then-n-lt100-clause-bytes c =
    two_pushed _ _ _ _ _ c.push_digit-then-n-lt100.ensures.bytes c.push_digit-then-n-lt100-2.ensures.bytes
    ∙ ap (λ ds. c.args.run.now ++ ds) (sym (decimal_tens c.args.n (omega arith) (omega arith)))

pub returns-else-n-lt100-clause-bytes : goal.returns-else-n-lt100-clause-bytes
returns-else-n-lt100-clause-bytes c =
    three_pushed _ _ _ _ _ _ _ c.push_digit-else-n-lt100.ensures.bytes c.push_digit-else-n-lt100-2.ensures.bytes
    c.push_digit-else-n-lt100-3.ensures.bytes
    ∙ ap (λ ds. c.args.run.now ++ ds) (sym (decimal_hundreds c.args.n (omega arith) (omega arith)))
