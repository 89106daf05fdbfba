use Rattle.std.proofs.Common.{◌∙◌, ◌==◌, ◌+◌, ap, sym, take, drop, length, rules, tests, arith}
use Rattle.std.proofs.lemmas.Iterator.{YieldsList-from_slice}
use Rattle.std.proofs.lemmas.Iterator.Search.{position_from_yields_List}
use Rattle.std.proofs.lemmas.List.{take_all, take_rest, drop_all}
use Rattle.std.specs.List.{position_or_len}
use Rattle.recordings.proofs.LineLemmas.{found, not_found}
use Rattle.recordings.proofs.typescript.cut.Goals as goal

pub returns-in-Some : goal.returns-in-Some
returns-in-Some c =
    let at = position_from_yields_List (λ b. b == 32) _ _ c.position.result c.position.ensures.ran
    (YieldsList-from_slice c.args.text.now cc) (λ x b q k. search (rules, tests)) in
    let same = found _ _ _ (sym c.in-Some.is ∙ at) in
    record {
      word = ap (λ n. take n c.args.text.now) same;
      rest = take_rest c.args.text.now (c.in-Some.end + 1)
          ∙ ap (λ n. drop (n + 1) c.args.text.now) same;
    }

pub returns-in-None : goal.returns-in-None
returns-in-None c =
    let text = c.args.text.now in
    let at = position_from_yields_List (λ b. b == 32) _ _ c.position.result c.position.ensures.ran
    (YieldsList-from_slice text cc) (λ x b q k. search (rules, tests)) in
    let end = not_found (position_or_len (λ b. b == 32) text) (length text) (sym c.in-None.is ∙ at) in
    record { word = sym (take_all _ text end); rest = sym (drop_all _ text (omega (arith, end))) }
