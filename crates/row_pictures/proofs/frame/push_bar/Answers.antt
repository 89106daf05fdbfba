use Rattle.std.proofs.Common.{true, ◌*◌, ◌/◌, codes, refl}
use Rattle.picture_page.specs.Page.{escaped}
use Rattle.picture_page.specs.Tags.{tag_bytes}
use Rattle.picture_page.specs.declared.tag.Tag.TheVariants as tag
use Rattle.picture_page.proofs.PageLemmas.{if_added, if_joined}
use Rattle.picture_page.proofs.SeenLemmas.{if_drawn, if_drawn_after, if_tag}
use Rattle.row_pictures.specs.Frames.{button, shade, title_text}
use Rattle.row_pictures.specs.Themes.{rgb_of}
use Rattle.row_pictures.proofs.FrameLemmas.{bar_of_size}
use Rattle.row_pictures.proofs.frame.push_bar.Goals as goal

pub returns-clause-adds : goal.returns-clause-adds
returns-clause-adds c =
    if_added _ _ _ _ _ c.in_ok-push_shade.ensures.adds (if_added _ _ _ _ _ c.in_ok-push_button.ensures.adds
    (if_added _ _ _ _ _ c.in_ok-push_button-2.ensures.adds (if_added _ _ _ _ _ c.in_ok-push_button-3.ensures.adds
    (if_added _ _ _ _ _ c.in_ok-push_title.ensures.adds c.markup.ensures.adds))))

pub returns-clause-seen : goal.returns-clause-seen
returns-clause-seen c =
    if_drawn_after _ _ _ _ _ _ _ _ c.in_ok-push_shade.ensures.seen
    (if_drawn_after _ _ _ _ _ _ _ _ c.in_ok-push_button.ensures.seen
    (if_drawn_after _ _ _ _ _ _ _ _ c.in_ok-push_button-2.ensures.seen
    (if_drawn_after _ _ _ _ _ _ _ _ c.in_ok-push_button-3.ensures.seen
    (if_drawn _ _ _ _ _ _ _ (escaped c.args.title.now) (codes "\n") c.in_ok-push_title.ensures.seen
    (if_tag _ _ _ tag.Newline true true (codes "\n") refl refl c.markup.ensures.bytes)))))

pub returns-clause-bytes : goal.returns-clause-bytes
returns-clause-bytes c =
    let size = c.from-size.result in
    let theme = c.args.theme in
    bar_of_size _ _ _ theme size c.args.size c.args.width c.args.title.now c.from-size.ensures
    (if_joined _ c.args.page.now c.push_shade.new.page _ (shade c.args.width (2 * size) theme.fgcolor) _
    c.in_ok-push_shade.ensures.bytes
    (if_joined _ c.push_shade.new.page c.push_button.new.page _ (button size (4 * size / 3) (rgb_of 0xff5f57)) _
    c.in_ok-push_button.ensures.bytes
    (if_joined _ c.push_button.new.page c.push_button-2.new.page _ (button size (8 * size / 3) (rgb_of 0xfebc2e)) _
    c.in_ok-push_button-2.ensures.bytes
    (if_joined _ c.push_button-2.new.page c.push_button-3.new.page _ (button size (4 * size) (rgb_of 0x28c840)) _
    c.in_ok-push_button-3.ensures.bytes
    (if_joined _ c.push_button-3.new.page c.push_title.new.page _
    (title_text size (c.args.width / 2) theme.fgcolor c.args.title.now) (tag_bytes tag.Newline)
    c.in_ok-push_title.ensures.bytes c.markup.ensures.bytes)))))
