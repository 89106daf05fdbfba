use Rattle.std.proofs.Common.{false, refl}
use Rattle.picture_page.specs.declared.tag.Tag.TheVariants as tag
use Rattle.picture_page.proofs.PageLemmas.{if_added, if_joined}
use Rattle.picture_page.proofs.SeenLemmas.{draws_color, if_color, if_drawn_after}
use Rattle.row_pictures.specs.Elements.{filled}
use Rattle.row_pictures.proofs.html.push_html_colors.Goals as goal

pub returns-clause-adds : goal.returns-clause-adds
returns-clause-adds c = if_added _ _ _ _ _ c.in_ok-color.ensures.adds c.color-2.ensures.adds

pub returns-clause-seen : goal.returns-clause-seen
returns-clause-seen c =
    if_drawn_after _ _ _ _ _ _ _ _ (draws_color _ _ false tag.Color c.args.fgcolor refl c.in_ok-color.ensures.bytes)
    (if_color _ _ _ false tag.Background c.args.bgcolor refl c.color-2.ensures.bytes)

pub returns-clause-bytes : goal.returns-clause-bytes
returns-clause-bytes c =
    if_joined _ c.args.page.now c.color.new.self _ (filled tag.Color c.args.fgcolor)
    (filled tag.Background c.args.bgcolor) c.in_ok-color.ensures.bytes c.color-2.ensures.bytes
