use Rattle.std.proofs.Common.{◌∙◌, ◌==◌, ap, sym, take, length, rules, tests}
use Rattle.std.proofs.lemmas.Iterator.{YieldsList-from_slice}
use Rattle.std.proofs.lemmas.Iterator.Search.{position_from_yields_List}
use Rattle.std.proofs.lemmas.List.{take_all}
use Rattle.std.specs.List.{position_or_len}
use Rattle.recordings.proofs.LineLemmas.{found, not_found}
use Rattle.recordings.proofs.lines.before.Goals as goal

pub returns-in-Some : goal.returns-in-Some
returns-in-Some c =
    let at = position_from_yields_List (λ b. b == c.args.end) _ _ c.position.result c.position.ensures.ran
    (YieldsList-from_slice c.args.text.now cc) (λ x b q k. search (rules, tests)) in
    ap (λ n. take n c.args.text.now) (found _ _ _ (sym c.in-Some.is ∙ at))

pub returns-in-None : goal.returns-in-None
returns-in-None c =
    let at = position_from_yields_List (λ b. b == c.args.end) _ _ c.position.result c.position.ensures.ran
    (YieldsList-from_slice c.args.text.now cc) (λ x b q k. search (rules, tests)) in
    sym (take_all _ c.args.text.now (not_found (position_or_len (λ b. b == c.args.end) c.args.text.now) (length c.args.text.now)
    (sym c.in-None.is ∙ at)))
