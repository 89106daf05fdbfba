use Rattle.std.proofs.Common.{◌∙◌, ap, refl}
use Rattle.recordings.proofs.LineLemmas.{texts}
use Rattle.recordings.proofs.TypescriptLemmas.{steps_read}
use Rattle.recordings.proofs.typescript.read_typescript.Goals as goal

pub returns : goal.returns
returns c =
    let lines = ap texts c.as_slice-lines.ensures.value ∙ c.in_ok-all.ensures.lines in
    steps_read c.args.typescript.now c.args.timing.now c.after_line.result.now c.shares_log-shared.result
    (texts c.as_slice-lines.result.now) c.in_ok-timeline.timeline c.in_ok-timeline.fault _ _ c.after_line.ensures lines
    c.shares_log-shared.ensures c.in_ok-timeline.ensures refl c.in_ok-size.ensures refl refl refl c.step_fault.ensures
