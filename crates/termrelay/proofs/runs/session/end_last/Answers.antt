use Rattle.std.proofs.Common.{sym}
use Rattle.termrelay.specs.Log.{is_of, ended}
use Rattle.termrelay.proofs.LogLemmas.{none-changed, last-changed}
use Rattle.termrelay.proofs.runs.session.end_last.Goals as goal

pub returns-in-Some : goal.returns-in-Some
returns-in-Some c =
    last-changed (is_of c.args.client) ended c.args.sessions.now c.in-Some.at c.index-sessions-at.result c.end.new.self
    c.in-Some.ensures c.end.ensures

pub returns-in_default : goal.returns-in_default
returns-in_default c = sym (none-changed (is_of c.args.client) ended c.args.sessions.now c.in_default.ensures)
