use Rattle.std.proofs.Common.{◌≡◌, Err, rules}
use Rattle.screentext_command.proofs.MissingLemmas.{player_faulted}
use Rattle.screentext_command.specs.Faults.{player_fault}
use Rattle.screentext_command.proofs.answer.player_of.Goals as goal

pub returns-in_err-page-clause-fault : goal.returns-in_err-page-clause-fault
returns-in_err-page-clause-fault c =
    let e = c.in_err-page.field-0.0 in
    let is : c.from_residual-in_err-page.result ≡ Err (player_fault e) = search rules in rw is (player_faulted e)

pub returns-clause-player : goal.returns-clause-player
returns-clause-player c = record {
  shows = rw c.deref.ensures.value at c.in_ok-page.ensures.rows;
  safe = c.in_ok-page.ensures.safe;
  short = c.in_ok-page.ensures.short;
  look = c.in_ok-colors.colors;
  is_look = c.in_ok-colors.ensures;
  head = rw c.pace_of.ensures at c.in_ok-page.ensures.head;
}
