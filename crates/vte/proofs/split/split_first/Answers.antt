use Rattle.std.proofs.Common.{◌≡◌, ◌+◌, ◌-◌, ◌==◌, take, drop, length, arith, add-one}
use Rattle.std.proofs.lemmas.Grind.{common_steps}
use Rattle.std.proofs.lemmas.Bool.{false_from_ne_true}
use Rattle.vte_core.proofs.Splits.{split_at, split_nowhere}
use Rattle.vte.proofs.split.split_first.Goals as goal

pub returns-in-Some-clause-parts : goal.returns-in-Some-clause-parts
returns-in-Some-clause-parts c =
    let text = c.args.text.now in
    let at = c.in-Some.at in
    let rest : take (length text - (at + 1)) (drop (at + 1) text) ≡ drop (at + 1) text = grind (arith, common_steps) in
    rw (rest, add-one) (split_at (λ x. x == c.args.byte) text at c.in-Some.ensures.0.high c.in-Some.ensures.1
    (λ k low. false_from_ne_true _ (c.in-Some.ensures.0.before k (omega arith) low)))

pub returns-in-None-clause-parts : goal.returns-in-None-clause-parts
returns-in-None-clause-parts c = split_nowhere (λ x. x == c.args.byte) c.args.text.now
    (λ k low. false_from_ne_true _ (c.in-None.ensures k (omega arith) low))
