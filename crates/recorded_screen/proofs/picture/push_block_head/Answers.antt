use Rattle.std.proofs.Common.{[], codes, true, false, refl}
use Rattle.picture_page.specs.Tags.{tag_bytes}
use Rattle.picture_page.specs.declared.tag.Tag.TheVariants as tag
use Rattle.picture_page.proofs.PageLemmas.{if_added, if_joined}
use Rattle.picture_page.proofs.SeenLemmas.{draws_tag, if_drawn_after, if_tag}
use Rattle.row_pictures.specs.Html.{html_colors}
use Rattle.recorded_screen.specs.Heads.{font_bytes}
use Rattle.recorded_screen.proofs.picture.push_block_head.Goals as goal

pub returns-clause-adds : goal.returns-clause-adds
returns-clause-adds c =
    if_added _ _ _ _ _ c.in_ok-markup.ensures.adds
    (if_added _ _ _ _ _ c.in_ok-push_html_colors.ensures.adds (if_added _ _ _ _ _ c.in_ok-push_font.ensures.adds
    c.markup-2.ensures.adds))

pub returns-clause-seen : goal.returns-clause-seen
returns-clause-seen c =
    if_drawn_after _ _ _ _ _ _ _ _ (draws_tag _ _ tag.Block true false [] refl refl c.in_ok-markup.ensures.bytes)
    (if_drawn_after _ _ _ _ _ _ _ _ c.in_ok-push_html_colors.ensures.seen
    (if_drawn_after _ _ _ _ _ _ _ _ c.in_ok-push_font.ensures.seen
    (if_tag _ _ _ tag.BlockRows false true (codes "\n") refl refl c.markup-2.ensures.bytes)))

pub returns-clause-bytes : goal.returns-clause-bytes
returns-clause-bytes c =
    let look = c.args.look.now in
    if_joined _ c.args.page.now c.markup.new.self _ (tag_bytes tag.Block) _ c.in_ok-markup.ensures.bytes
    (if_joined _ c.markup.new.self c.push_html_colors.new.page _ (html_colors look.theme.fgcolor look.theme.bgcolor) _
    c.in_ok-push_html_colors.ensures.bytes
    (if_joined _ c.push_html_colors.new.page c.push_font.new.page _ (font_bytes tag.BlockFont tag.BlockFontEnd look)
    (tag_bytes tag.BlockRows) c.in_ok-push_font.ensures.bytes c.markup-2.ensures.bytes))
