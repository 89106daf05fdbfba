use Rattle.std.proofs.Common.{OnOk, true, subst}
use Rattle.picture_page.specs.Seen.{Draws}
use Rattle.picture_page.specs.Titles.{title_text}
use Rattle.picture_page.proofs.SeenLemmas.{if_text}
use Rattle.recorded_screen.proofs.TitleLemmas.{page_title_is}
use Rattle.recorded_screen.proofs.titles.push_page_title.Goals as goal

pub returns-in-Some-clause-seen : goal.returns-in-Some-clause-seen
returns-in-Some-clause-seen c =
    let is = page_title_is c.args.look.now c.in-Some.title c.as_str.result.now c.in-Some.is c.as_str.ensures.value in
    subst (λ xs. OnOk c.title.result (Draws c.args.page.now c.title.new.self true true xs)) is
    (if_text c.title.result _ _ (title_text c.as_str.result.now) c.title.ensures.bytes)
