use Rattle.relay_theorem.proofs.LoggedLemmas.{logged-reads}
use Rattle.relay_theorem.proofs.laws.logged_reads_are_reads.Goals as goal

pub returns : goal.returns
returns c = logged-reads
