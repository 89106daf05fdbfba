use Rattle.std.proofs.Common.{false}
use Rattle.vte.proofs.ClosingLemmas.{taken_parsed, advanced_parsed}
use Rattle.vte.proofs.laws.calls_are_of_parsed_bytes.Goals as goal

pub returns-clause-exact : goal.returns-clause-exact
returns-clause-exact g c = taken_parsed

pub returns-clause-any : goal.returns-clause-any
returns-clause-any g c = advanced_parsed g.T.Timeout.ticking false
