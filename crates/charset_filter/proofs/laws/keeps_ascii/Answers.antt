use Rattle.charset_filter.proofs.laws.keeps_ascii.Goals as goal
use Rattle.charset_filter.proofs.AsciiLemmas.{keeps-ascii}

pub returns : goal.returns
returns c = keeps-ascii
