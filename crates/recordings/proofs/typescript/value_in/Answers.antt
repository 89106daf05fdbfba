use Rattle.std.proofs.Common.{◌∙◌, sym, inl, inr, arith}
use Rattle.recordings.proofs.TypescriptLemmas.{field_at, field_not_at}
use Rattle.recordings.proofs.typescript.value_in.Goals as goal
use Rattle.recordings.proofs.typescript.value_in.Goals.{else-eq-via-then-eq+else-eq-2, else-eq-via-else-eq}

pub returns-then-eq-2 : goal.returns-then-eq-2
returns-then-eq-2 c =
    sym (field_at c.args.name.now c.args.lines.now c.loop-line.line-index _ c.cut.result.0.now c.cut.result.1.now
    c.cut-in-loop-line.result.1.now c.cut-in-loop-line-2.result.0.now c.cut-in-loop-line-2.result.1.now
    c.cut.ensures.word
    c.cut.ensures.rest c.cut-in-loop-line.ensures.rest c.cut-in-loop-line-2.ensures.word
    c.cut-in-loop-line-2.ensures.rest
    (omega arith) (cc) (cc))
    ∙ c.loop-line.invariant

pub loop-line-preserved : goal.loop-line-preserved
loop-line-preserved c =
    elim c.else-eq.branch [
      | else-eq-via-then-eq+else-eq-2 w ↦
          sym (field_not_at c.args.name.now c.args.lines.now c.loop-line.line-index _ c.cut.result.0.now
          c.cut.result.1.now
          c.cut-in-loop-line.result.1.now c.cut-in-loop-line-2.result.0.now c.cut.ensures.word c.cut.ensures.rest
          c.cut-in-loop-line.ensures.rest c.cut-in-loop-line-2.ensures.word (omega arith) (inr (cc)))
          ∙ c.loop-line.invariant
      | else-eq-via-else-eq w ↦
          sym (field_not_at c.args.name.now c.args.lines.now c.loop-line.line-index _ c.cut.result.0.now
          c.cut.result.1.now
          c.cut-in-loop-line.result.1.now c.cut-in-loop-line-2.result.0.now c.cut.ensures.word c.cut.ensures.rest
          c.cut-in-loop-line.ensures.rest c.cut-in-loop-line-2.ensures.word (omega arith) (inl (cc)))
          ∙ c.loop-line.invariant
    ]
