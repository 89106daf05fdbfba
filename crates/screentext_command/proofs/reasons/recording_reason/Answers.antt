use Rattle.std.proofs.Common.{◌∙◌, ◌++◌, ap, append_assoc, codes, sym}
use Rattle.std.specs.Fmt.{decimal}
use Rattle.screentext_command.proofs.reasons.recording_reason.Goals as goal

pub returns-in-Line : goal.returns-in-Line
returns-in-Line c =
    rw c.in-Line.is (c.numbered.ensures ∙ ap (λ xs. codes "line " ++ xs)
    (sym (append_assoc (decimal c.in-Line.line) (codes ": not an event of asciicast") c.args.end.now)))

pub returns-in-Step : goal.returns-in-Step
returns-in-Step c =
    rw c.in-Step.is (c.numbered-in-Step.ensures ∙ ap (λ xs. codes "line " ++ xs) (sym (append_assoc
    (decimal c.in-Step.line) (codes " of the timing file: not a step of the typescript") c.args.end.now)))
