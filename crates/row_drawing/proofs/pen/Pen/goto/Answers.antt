use Rattle.std.proofs.Common.{sym, ◌∙◌}
use Rattle.row_drawing.proofs.WritesLemmas.{wrote_goto_here}
use Rattle.row_drawing.proofs.pen.Pen.goto.Goals as goal

pub returns-then-eq-clause-written : goal.returns-then-eq-clause-written
returns-then-eq-clause-written c =
    wrote_goto_here c.args.self.now c.args.pos c.args.run.now (sym c.eq.ensures ∙ c.if-eq.true)
