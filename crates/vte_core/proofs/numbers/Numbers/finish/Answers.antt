use Rattle.std.proofs.Common.{◌∙◌, sym, ap, arith, [], ◌++◌, ◌∷◌, ◌<◌, nat_lt, length, length-append}
use Rattle.vte_core.specs.Store.{total}
use Rattle.vte_core.specs.Header.{first_numbers}
use Rattle.vte_core.proofs.Numbered.{numbers-whole}
use Rattle.vte_core.proofs.numbers.Numbers.finish.Goals as goal

pub returns-clause-params : goal.returns-clause-params
returns-clause-params c = λ m (gs, g, a, h).
    let n = c.args.self.now.number in
    let some : 0 < length (g ++ n ∷ []) = omega (arith, length-append g (n ∷ [])) in
    (c.end_group.ensures gs (g ++ n ∷ []) (c.end_number.ensures gs g h) some).params
    ∙ ap (first_numbers 32) (sym (numbers-whole m gs g n a))

pub returns-clause-many : goal.returns-clause-many
returns-clause-many c = λ m (gs, g, a, h).
    let n = c.args.self.now.number in
    let some : 0 < length (g ++ n ∷ []) = omega (arith, length-append g (n ∷ [])) in
    (c.end_group.ensures gs (g ++ n ∷ []) (c.end_number.ensures gs g h) some).many
    ∙ (ap (λ k. nat_lt 32 k) (omega arith) ∙ ap (λ gs. nat_lt 32 (total gs)) (sym (numbers-whole m gs g n a)))
