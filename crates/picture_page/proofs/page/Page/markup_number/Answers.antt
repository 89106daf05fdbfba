use Rattle.picture_page.proofs.PageLemmas.{if_added, if_joined}
use Rattle.picture_page.proofs.page.Page.markup_number.Goals as goal

pub returns-clause-adds : goal.returns-clause-adds
returns-clause-adds c = if_added _ _ _ _ _ c.in_ok-markup.ensures.adds c.number.ensures.adds

pub returns-clause-bytes : goal.returns-clause-bytes
returns-clause-bytes c = if_joined _ _ _ _ _ _ c.in_ok-markup.ensures.bytes c.number.ensures.bytes
