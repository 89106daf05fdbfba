use Rattle.charset_filter.proofs.laws.stands_as_known.Goals as goal
use Rattle.charset_filter.proofs.ReadBack.{stands-as-known}

pub returns : goal.returns
returns c = stands-as-known
