use Rattle.std.proofs.Common.{◌++◌, codes, true, refl}
use Rattle.picture_page.specs.declared.tag.Tag.TheVariants as tag
use Rattle.picture_page.proofs.PageLemmas.{if_added}
use Rattle.picture_page.proofs.SeenLemmas.{draws_tag, if_drawn, if_tag}
use Rattle.recorded_screen.specs.Titles.{page_title}
use Rattle.recorded_screen.proofs.titles.push_page_head.Goals as goal

pub returns-clause-adds : goal.returns-clause-adds
returns-clause-adds c =
    if_added _ _ _ _ _ c.in_ok-markup.ensures.adds (if_added _ _ _ _ _ c.in_ok-push_page_title.ensures.adds
    c.markup-2.ensures.adds)

pub returns-clause-seen : goal.returns-clause-seen
returns-clause-seen c =
    if_drawn _ _ _ _ _ _ _ (codes "\n") (page_title c.args.look.now ++ codes "\n")
    (draws_tag _ _ tag.PageHead true true (codes "\n") refl refl c.in_ok-markup.ensures.bytes)
    (if_drawn _ _ _ _ _ _ _ (page_title c.args.look.now) (codes "\n") c.in_ok-push_page_title.ensures.seen
    (if_tag _ _ _ tag.PageBody true true (codes "\n") refl refl c.markup-2.ensures.bytes))
