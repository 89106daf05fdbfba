use Rattle.picture_page.proofs.SafeLemmas.{page_is_safe}
use Rattle.picture_page.proofs.page.Page.into_bytes.Goals as goal

pub returns-clause-safe : goal.returns-clause-safe
returns-clause-safe c = page_is_safe _ c.self.invariant
