use Rattle.std.proofs.Common.{◌∙◌, ◌+◌, ap, drop, map, refl, sym}
use Rattle.std.proofs.lemmas.List.{at_drop_all, at_drop_more}
use Rattle.clap.specs.Words.{app_of}
use Rattle.screentext_command.specs.Words.{value_rule, with_all}
use Rattle.screentext_command.proofs.WordsLemmas.{added}
use Rattle.screentext_command.proofs.known.with_values.Goals as goal

pub loop-name-preserved : goal.loop-name-preserved
loop-name-preserved c =
    let rest = map (λ w. w.now) (drop (c.loop-name.name-index + 1) c.args.names.now) in
    let adds = added _ _ _ _ _ c.in_ok-known.ensures c.value.ensures.rule c.value.ensures.local refl in
    ap (λ app. with_all value_rule app rest) adds
    ∙ (sym (at_drop_more (λ names. with_all value_rule (app_of c.loop-name.known) (map (λ w. w.now) names))
    c.args.names.now c.loop-name.name-index _ c.loop-name-test.true) ∙ c.loop-name.invariant)

pub returns : goal.returns
returns c =
    sym (at_drop_all (λ names. with_all value_rule (app_of c.loop-name.known) (map (λ w. w.now) names))
    c.args.names.now c.loop-name.name-index c.loop-name-test.false) ∙ c.loop-name.invariant
