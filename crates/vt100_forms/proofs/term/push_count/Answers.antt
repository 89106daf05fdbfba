use Rattle.std.proofs.Common.{sym, ap, ◌∙◌, ◌++◌, ◌+◌, ◌/◌, ◌%◌, ◌∷◌, [], append_assoc, decimal, arith}
use Rattle.vt100_forms.proofs.DigitLemmas.{decimal_thousands, three_pushed}
use Rattle.vt100_forms.proofs.term.push_count.Goals as goal

pub returns-clause-bytes : goal.returns-clause-bytes
returns-clause-bytes c =
    let n = c.args.n in
    let xs = c.args.run.now in
    let ds = (48 + n / 100 % 10) ∷ (48 + n / 10 % 10) ∷ (48 + n % 10) ∷ [] in
    three_pushed c.push_number-2.new.run _ _ _ _ _ _ c.push_digit.ensures.bytes c.push_digit-2.ensures.bytes
    c.push_digit-3.ensures.bytes
    ∙ ap (λ ys. ys ++ ds) c.push_number-2.ensures.bytes
    ∙ append_assoc xs (decimal (n / 1000)) ds
    ∙ ap (λ ys. xs ++ ys) (sym (decimal_thousands n (omega arith) (omega (arith, c.requires.few))))
