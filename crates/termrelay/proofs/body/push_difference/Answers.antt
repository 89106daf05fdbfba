use Rattle.std.proofs.Common.{◌∙◌, ◌++◌, ℕ, List, ap}
use Rattle.std.specs.Prelude.{string_bytes}
use Rattle.termrelay.proofs.body.push_difference.Goals as goal

pub returns-clause-text : goal.returns-clause-text
returns-clause-text c =
    let wrote = c.in_ok-write_state_diff.ensures in
    wrote.text ∙ ap (λ (bs : List ℕ). string_bytes c.args.text.now ++ bs)
    (wrote.difference.shown c.requires.base c.requires.now c.requires.size)
