use Rattle.termrelay.proofs.SharedFrames.{shares-due}
use Rattle.termrelay.proofs.frames.SharedFrames.due.Goals as goal

pub returns-in-Some-clause-due : goal.returns-in-Some-clause-due
returns-in-Some-clause-due c =
    shares-due c.args.now.now c.args.self.now c.requires.latest c.args.record.now.last c.in-Some.due
    c.requires.served.last c.requires.numbers (rw c.in-Some.is at c.in_ok-due.ensures.shares)
