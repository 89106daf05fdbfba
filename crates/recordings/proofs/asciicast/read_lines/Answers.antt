use Rattle.std.proofs.Common.{◌+◌, ◌∙◌, take, sym, arith}
use Rattle.recordings.specs.Asciicast.{rows_of}
use Rattle.recordings.proofs.LineLemmas.{next_line, stopped, texts}
use Rattle.recordings.proofs.asciicast.read_lines.Goals as goal

pub returns-then-not-branch : goal.returns-then-not-branch
returns-then-not-branch c =
    stopped c.args.pace c.args.lines.now c.loop-line.line-index (c.loop-line.number + 1) _ c.push_line.new.timeline
    (omega arith) c.loop-line.invariant.0 (omega arith) (sym (cc) ∙ c.in_ok-push_line.ensures.event)
    (c.in_ok-push_line.ensures.pushed (rows_of c.args.pace (take c.loop-line.line-index (texts c.args.lines.now)))
    c.loop-line.invariant.1)

pub loop-line-preserved : goal.loop-line-preserved
loop-line-preserved c =
    let next = next_line c.args.pace c.args.lines.now c.loop-line.line-index _ c.push_line.new.timeline (omega arith)
    c.loop-line.invariant.0 (sym (cc) ∙ c.in_ok-push_line.ensures.event)
    (c.in_ok-push_line.ensures.pushed (rows_of c.args.pace (take c.loop-line.line-index (texts c.args.lines.now)))
    c.loop-line.invariant.1) in
    (next.0, next.1, omega arith)
