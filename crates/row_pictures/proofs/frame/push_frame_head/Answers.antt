use Rattle.std.proofs.Common.{true, false, [], ◌∷◌, codes, refl}
use Rattle.picture_page.specs.Bytes.{numbers_bytes}
use Rattle.picture_page.specs.Tags.{tag_bytes}
use Rattle.picture_page.specs.declared.tag.Tag.TheVariants as tag
use Rattle.picture_page.proofs.PageLemmas.{if_added, if_joined}
use Rattle.picture_page.proofs.SeenLemmas.{draws_numbers, draws_tag, if_drawn, if_drawn_after, if_tag}
use Rattle.row_pictures.specs.Frames.{frame_said, window_clip}
use Rattle.row_pictures.specs.Svg.{rectangle}
use Rattle.row_pictures.proofs.FrameLemmas.{head_of_size}
use Rattle.row_pictures.proofs.frame.push_frame_head.Goals as goal

pub returns-clause-adds : goal.returns-clause-adds
returns-clause-adds c =
    if_added _ _ _ _ _ c.in_ok-markup.ensures.adds (if_added _ _ _ _ _ c.in_ok-numbers.ensures.adds
    (if_added _ _ _ _ _ c.in_ok-markup-2.ensures.adds (if_added _ _ _ _ _ c.in_ok-push_window_clip.ensures.adds
    (if_added _ _ _ _ _ c.in_ok-push_rect.ensures.adds c.markup-3.ensures.adds))))

pub returns-clause-seen : goal.returns-clause-seen
returns-clause-seen c =
    if_drawn_after _ _ _ _ _ _ _ _ (draws_tag _ _ tag.Frame true false [] refl refl c.in_ok-markup.ensures.bytes)
    (if_drawn_after _ _ _ _ _ _ _ _
    (draws_numbers _ _ false (tag.Width, _) ((tag.Height, _) ∷ (tag.ViewBox, _) ∷ (tag.Space, _) ∷ []) refl refl
    c.in_ok-numbers.ensures.bytes)
    (if_drawn _ _ _ _ _ _ _ (codes "\n") (codes "\n")
    (draws_tag _ _ tag.SvgRows false true (codes "\n") refl refl c.in_ok-markup-2.ensures.bytes)
    (if_drawn_after _ _ _ _ _ _ _ _ c.in_ok-push_window_clip.ensures.seen
    (if_drawn_after _ _ _ _ _ _ _ _ c.in_ok-push_rect.ensures.seen
    (if_tag _ _ _ tag.Newline true true (codes "\n") refl refl c.markup-3.ensures.bytes)))))

pub returns-clause-bytes : goal.returns-clause-bytes
returns-clause-bytes c =
    let width = c.width-width.result in
    let height = c.height-height.result in
    let theme = c.args.theme in
    head_of_size _ _ _ c.args.frame.now theme width height c.args.rows c.args.cols c.width-width.ensures
    c.height-height.ensures
    (if_joined _ c.args.page.now c.markup.new.self _ (tag_bytes tag.Frame) _ c.in_ok-markup.ensures.bytes
    (if_joined _ c.markup.new.self c.numbers.new.self _
    (numbers_bytes ((tag.Width, width) ∷ (tag.Height, height) ∷ (tag.ViewBox, width) ∷ (tag.Space, height) ∷ [])) _
    c.in_ok-numbers.ensures.bytes
    (if_joined _ c.numbers.new.self c.markup-2.new.self _ (tag_bytes tag.SvgRows) _ c.in_ok-markup-2.ensures.bytes
    (if_joined _ c.markup-2.new.self c.push_window_clip.new.page _
    (window_clip (frame_said c.args.frame.now) width height) _ c.in_ok-push_window_clip.ensures.bytes
    (if_joined _ c.push_window_clip.new.page c.push_rect.new.page _ (rectangle 0 width height theme.bgcolor)
    (tag_bytes tag.Newline) c.in_ok-push_rect.ensures.bytes c.markup-3.ensures.bytes)))))
