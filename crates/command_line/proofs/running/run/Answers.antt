use Rattle.std.proofs.Common.{inr}
use Rattle.command_line.proofs.CallLemmas.{also_err, when_ok, when_err, refused_at}
use Rattle.command_line.proofs.running.run.Goals as goal

pub returns-in-Err-clause-given : goal.returns-in-Err-clause-given
returns-in-Err-clause-given g c = when_ok c.args.args (λ all.
    inr (refused_at g.G.FnOnce c.args.refuse c.args.state.now _ _ _ _ c.in-Err.ensures.undone c.from-in-Err.ensures
    c.refuse.ensures))

pub returns-in-Err-clause-not_text : goal.returns-in-Err-clause-not_text
returns-in-Err-clause-not_text g c =
    also_err c.args.args c.in-Err.ensures.not_text (λ e none is. absurd (none is).1)

pub returns-in-Err-clause-other : goal.returns-in-Err-clause-other
returns-in-Err-clause-other g c = when_err c.args.args (λ e is.
    refused_at g.G.FnOnce c.args.refuse c.args.state.now _ _ _ _ c.in-Err.ensures.undone c.from-in-Err.ensures
    c.refuse.ensures)
