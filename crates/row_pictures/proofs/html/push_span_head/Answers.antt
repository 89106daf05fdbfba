use Rattle.std.proofs.Common.{◌++◌, true, false, [], refl, ap₂, ◌∙◌}
use Rattle.picture_page.specs.declared.page.Rgb.{Rgb}
use Rattle.picture_page.specs.Tags.{tag_bytes}
use Rattle.picture_page.specs.declared.tag.Tag.TheVariants as tag
use Rattle.picture_page.proofs.PageLemmas.{if_added, if_joined}
use Rattle.picture_page.proofs.SeenLemmas.{draws_tag, draws_wanted, if_drawn_after, if_tag}
use Rattle.row_pictures.specs.Elements.{tag_if}
use Rattle.row_pictures.specs.Html.{html_colors}
use Rattle.row_pictures.specs.Paint.{back_color, text_color}
use Rattle.row_pictures.proofs.html.push_span_head.Goals as goal

pub returns-clause-adds : goal.returns-clause-adds
returns-clause-adds c =
    if_added _ _ _ _ _ c.in_ok-markup.ensures.adds
    (if_added _ _ _ _ _ c.in_ok-push_html_colors.ensures.adds
    (if_added _ _ _ _ _ c.in_ok-markup_if.ensures.adds
    (if_added _ _ _ _ _ c.in_ok-markup_if-2.ensures.adds
    (if_added _ _ _ _ _ c.in_ok-markup_if-3.ensures.adds
    (if_added _ _ _ _ _ c.in_ok-markup_if-4.ensures.adds c.markup-2.ensures.adds)))))

pub returns-clause-seen : goal.returns-clause-seen
returns-clause-seen c =
    let style = c.args.style in
    if_drawn_after _ _ _ _ _ _ _ _ (draws_tag _ _ tag.Span true false [] refl refl c.in_ok-markup.ensures.bytes)
    (if_drawn_after _ _ _ _ _ _ _ _ c.in_ok-push_html_colors.ensures.seen
    (if_drawn_after _ _ _ _ _ _ _ _ (draws_wanted _ _ style.bold tag.SpanBold refl c.in_ok-markup_if.ensures.bytes)
    (if_drawn_after _ _ _ _ _ _ _ _
    (draws_wanted _ _ style.italic tag.SpanItalic refl c.in_ok-markup_if-2.ensures.bytes)
    (if_drawn_after _ _ _ _ _ _ _ _
    (draws_wanted _ _ style.underline tag.SpanUnderline refl c.in_ok-markup_if-3.ensures.bytes)
    (if_drawn_after _ _ _ _ _ _ _ _
    (draws_wanted _ _ c.args.wide tag.SpanWide refl c.in_ok-markup_if-4.ensures.bytes)
    (if_tag _ _ _ tag.SpanText false true [] refl refl c.markup-2.ensures.bytes))))))

pub returns-clause-bytes : goal.returns-clause-bytes
returns-clause-bytes c =
    let style = c.args.style in
    let look = c.args.look.now in
    if_joined _ c.args.page.now c.markup.new.self _ (tag_bytes tag.Span) _ c.in_ok-markup.ensures.bytes
    (if_joined _ c.markup.new.self c.push_html_colors.new.page _
    (html_colors (text_color look style) (back_color look style)) _
    (c.in_ok-push_html_colors.ensures.bytes
    ∙ ap₂ (λ (f b : Rgb). c.markup.new.self ++ html_colors f b) c.of-paint.ensures.text c.of-paint.ensures.back)
    (if_joined _ c.push_html_colors.new.page c.markup_if.new.self _ (tag_if style.bold tag.SpanBold) _
    c.in_ok-markup_if.ensures.bytes
    (if_joined _ c.markup_if.new.self c.markup_if-2.new.self _ (tag_if style.italic tag.SpanItalic) _
    c.in_ok-markup_if-2.ensures.bytes
    (if_joined _ c.markup_if-2.new.self c.markup_if-3.new.self _ (tag_if style.underline tag.SpanUnderline) _
    c.in_ok-markup_if-3.ensures.bytes
    (if_joined _ c.markup_if-3.new.self c.markup_if-4.new.self _ (tag_if c.args.wide tag.SpanWide)
    (tag_bytes tag.SpanText) c.in_ok-markup_if-4.ensures.bytes c.markup-2.ensures.bytes)))))
