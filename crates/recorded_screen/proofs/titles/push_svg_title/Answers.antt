use Rattle.std.proofs.Common.{[], codes, true, refl}
use Rattle.picture_page.specs.Page.{escaped}
use Rattle.picture_page.specs.Titles.{title_text}
use Rattle.picture_page.specs.declared.tag.Tag.TheVariants as tag
use Rattle.picture_page.proofs.PageLemmas.{if_added}
use Rattle.picture_page.proofs.SeenLemmas.{draws_tag, draws_text, if_drawn, if_drawn_after, if_tag}
use Rattle.recorded_screen.proofs.TitleLemmas.{title_drawn}
use Rattle.recorded_screen.proofs.titles.push_svg_title.Goals as goal

pub returns-clause-adds : goal.returns-clause-adds
returns-clause-adds c =
    if_added _ _ _ _ _ c.in_ok-markup.ensures.adds (if_added _ _ _ _ _ c.in_ok-title.ensures.adds
    c.markup-2.ensures.adds)

pub returns-clause-seen : goal.returns-clause-seen
returns-clause-seen c =
    let text = title_text c.as_str.result.now in
    title_drawn c.markup-2.result _ _ c.as_str.result.now c.args.look.now c.in-Some.title c.in-Some.is
    c.as_str.ensures.value
    (if_drawn_after _ _ _ _ _ _ _ _ (draws_tag _ _ tag.Title true true [] refl refl c.in_ok-markup.ensures.bytes)
    (if_drawn _ _ _ _ _ _ _ (escaped text) (codes "\n") (draws_text _ _ text c.in_ok-title.ensures.bytes)
    (if_tag _ _ _ tag.TitleEnd true true (codes "\n") refl refl c.markup-2.ensures.bytes)))
