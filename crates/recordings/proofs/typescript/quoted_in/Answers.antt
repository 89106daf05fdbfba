use Rattle.std.proofs.Common.{◌∙◌, ◌==◌, ℕ, List, ap, sym, arith}
use Rattle.std.specs.List.{before_first}
use Rattle.command_line.specs.Numbers.{size_in}
use Rattle.recordings.proofs.TypescriptLemmas.{quoted_at, quoted_not_at}
use Rattle.recordings.proofs.typescript.quoted_in.Goals as goal

pub returns-in-Some : goal.returns-in-Some
returns-in-Some c =
    c.side_in.ensures ∙ ap size_in c.before-in-Some.ensures
    ∙ ap (λ (rest : List ℕ). size_in (before_first (λ b. b == 0x22) rest)) c.in-Some.ensures.cases.1
    ∙ sym (quoted_at c.args.start.now c.args.words.now c.loop-word.word-index _ (omega arith) c.in-Some.ensures.cases.0)
    ∙ c.loop-word.invariant

pub loop-word-preserved : goal.loop-word-preserved
loop-word-preserved c =
    sym (quoted_not_at c.args.start.now c.args.words.now c.loop-word.word-index _ (omega arith)
    c.in_default.ensures.cases)
    ∙ c.loop-word.invariant
