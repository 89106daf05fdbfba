use Rattle.charset_filter.proofs.laws.gives_in_order.Goals as goal
use Rattle.charset_filter.proofs.LawLemmas.{gives-in-order}

pub returns : goal.returns
returns c = gives-in-order
