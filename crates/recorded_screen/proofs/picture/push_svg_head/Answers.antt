use Rattle.std.proofs.Common.{[], ◌∷◌, ◌*◌, ◌++◌, codes, true, false, refl}
use Rattle.picture_page.specs.Bytes.{numbers_bytes}
use Rattle.picture_page.specs.Tags.{tag_bytes}
use Rattle.picture_page.specs.declared.tag.Tag.TheVariants as tag
use Rattle.picture_page.proofs.PageLemmas.{if_added, if_joined}
use Rattle.picture_page.proofs.SeenLemmas.{draws_numbers, draws_tag, if_drawn, if_drawn_after, if_tag}
use Rattle.row_pictures.specs.Svg.{rectangle}
use Rattle.recorded_screen.specs.Heads.{font_bytes}
use Rattle.recorded_screen.specs.Titles.{svg_title, title_line}
use Rattle.recorded_screen.proofs.HeadLemmas.{head_of_size}
use Rattle.recorded_screen.proofs.picture.push_svg_head.Goals as goal

pub returns-clause-adds : goal.returns-clause-adds
returns-clause-adds c =
    if_added _ _ _ _ _ c.in_ok-markup.ensures.adds
    (if_added _ _ _ _ _ c.in_ok-push_font.ensures.adds
    (if_added _ _ _ _ _ c.in_ok-markup-2.ensures.adds
    (if_added _ _ _ _ _ c.in_ok-numbers.ensures.adds
    (if_added _ _ _ _ _ c.in_ok-markup-3.ensures.adds
    (if_added _ _ _ _ _ c.in_ok-push_svg_title.ensures.adds
    (if_added _ _ _ _ _ c.in_ok-push_rect.ensures.adds c.markup-4.ensures.adds))))))

pub returns-clause-seen : goal.returns-clause-seen
returns-clause-seen c =
    if_drawn_after _ _ _ _ _ _ _ _ (draws_tag _ _ tag.Svg true false [] refl refl c.in_ok-markup.ensures.bytes)
    (if_drawn_after _ _ _ _ _ _ _ _ c.in_ok-push_font.ensures.seen
    (if_drawn_after _ _ _ _ _ _ _ _
    (draws_tag _ _ tag.Monospace false false [] refl refl c.in_ok-markup-2.ensures.bytes)
    (if_drawn_after _ _ _ _ _ _ _ _
    (draws_numbers _ _ false (tag.Width, _) ((tag.Height, _) ∷ (tag.ViewBox, _) ∷ (tag.Space, _) ∷ []) refl refl
    c.in_ok-numbers.ensures.bytes)
    (if_drawn _ _ _ _ _ _ _ (codes "\n") (title_line c.args.look.now ++ codes "\n")
    (draws_tag _ _ tag.SvgRows false true (codes "\n") refl refl c.in_ok-markup-3.ensures.bytes)
    (if_drawn _ _ _ _ _ _ _ (title_line c.args.look.now) (codes "\n") c.in_ok-push_svg_title.ensures.seen
    (if_drawn_after _ _ _ _ _ _ _ _ c.in_ok-push_rect.ensures.seen
    (if_tag _ _ _ tag.Newline true true (codes "\n") refl refl c.markup-4.ensures.bytes)))))))

pub returns-clause-bytes : goal.returns-clause-bytes
returns-clause-bytes c =
    let look = c.args.look.now in
    let width = c.from-width.result * 9 in
    let height = c.from-height.result * 18 in
    head_of_size _ _ _ look c.from-height.result c.from-width.result _ _ c.from-height.ensures c.from-width.ensures
    (if_joined _ c.args.page.now c.markup.new.self _ (tag_bytes tag.Svg) _ c.in_ok-markup.ensures.bytes
    (if_joined _ c.markup.new.self c.push_font.new.page _ (font_bytes tag.SvgFont tag.SvgFontEnd look) _
    c.in_ok-push_font.ensures.bytes
    (if_joined _ c.push_font.new.page c.markup-2.new.self _ (tag_bytes tag.Monospace) _ c.in_ok-markup-2.ensures.bytes
    (if_joined _ c.markup-2.new.self c.numbers.new.self _
    (numbers_bytes ((tag.Width, width) ∷ (tag.Height, height) ∷ (tag.ViewBox, width) ∷ (tag.Space, height) ∷ [])) _
    c.in_ok-numbers.ensures.bytes
    (if_joined _ c.numbers.new.self c.markup-3.new.self _ (tag_bytes tag.SvgRows) _ c.in_ok-markup-3.ensures.bytes
    (if_joined _ c.markup-3.new.self c.push_svg_title.new.page _ (svg_title look) _
    c.in_ok-push_svg_title.ensures.bytes
    (if_joined _ c.push_svg_title.new.page c.push_rect.new.page _ (rectangle 0 width height look.theme.bgcolor)
    (tag_bytes tag.Newline) c.in_ok-push_rect.ensures.bytes c.markup-4.ensures.bytes)))))))
