use Rattle.std.proofs.Common.{ap, sym, ◌∙◌, set, arith}
use Rattle.std.proofs.lemmas.List.Edits.{map_over_more}
use Rattle.termrelay.specs.Log.{SessionView, ended}
use Rattle.termrelay.proofs.runs.session.end_all.Goals as goal

pub loop-session-preserved : goal.loop-session-preserved
loop-session-preserved c =
    let ys = c.loop-session.sessions in
    let i = c.loop-session.session-index in
    ap (λ (s : SessionView). set ys i s) (c.end.ensures ∙ ap ended (sym c.session-item.is))
    ∙ map_over_more ended c.args.sessions.now ys i c.session-item.result (omega arith) c.loop-session.invariant
    c.session-item.is
