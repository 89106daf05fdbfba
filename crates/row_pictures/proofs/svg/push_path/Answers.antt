use Rattle.std.proofs.Common.{true, false, [], length, refl}
use Rattle.picture_page.specs.Page.{escaped}
use Rattle.picture_page.specs.Tags.{tag_bytes}
use Rattle.picture_page.specs.declared.tag.Tag.TheVariants as tag
use Rattle.picture_page.proofs.PageLemmas.{if_added, if_ended, if_joined}
use Rattle.picture_page.proofs.SeenLemmas.{draws_color, draws_tag, hides_text, if_drawn_after, if_tag}
use Rattle.row_pictures.specs.Elements.{filled}
use Rattle.row_pictures.specs.Svg.{glyphs, opacity_of}
use Rattle.row_pictures.specs.Text.{row_text}
use Rattle.row_pictures.proofs.svg.push_path.Goals as goal

pub returns-clause-adds : goal.returns-clause-adds
returns-clause-adds c =
    if_added _ _ _ _ _ c.in_ok-color.ensures.adds (if_added _ _ _ _ _ c.in_ok-push_opacity.ensures.adds
    (if_added _ _ _ _ _ c.in_ok-markup.ensures.adds (if_added _ _ _ _ _ c.in_ok-push_glyphs.ensures.adds
    (if_added _ _ _ _ _ c.in_ok-markup-2.ensures.adds (if_ended _ _ _ _ _ c.in_ok-push_cells.ensures.adds
    c.markup-3.ensures.adds)))))

pub returns-clause-seen : goal.returns-clause-seen
returns-clause-seen c =
    if_drawn_after _ _ _ _ _ _ _ _ (draws_color _ _ true tag.Lines c.args.color refl c.in_ok-color.ensures.bytes)
    (if_drawn_after _ _ _ _ _ _ _ _ c.in_ok-push_opacity.ensures.seen
    (if_drawn_after _ _ _ _ _ _ _ _ (draws_tag _ _ tag.LinesData false false [] refl refl c.in_ok-markup.ensures.bytes)
    (if_drawn_after _ _ _ _ _ _ _ _ c.in_ok-push_glyphs.ensures.seen
    (if_drawn_after _ _ _ _ _ _ _ _
    (draws_tag _ _ tag.LinesLabel false false [] refl refl c.in_ok-markup-2.ensures.bytes)
    (if_drawn_after _ _ _ _ _ _ _ _ (hides_text _ _ (row_text c.args.run.now) c.in_ok-push_cells.ensures.bytes)
    (if_tag _ _ _ tag.Close false true [] refl refl c.markup-3.ensures.bytes))))))

pub returns-clause-bytes : goal.returns-clause-bytes
returns-clause-bytes c =
    let run = c.args.run.now in
    if_joined _ _ c.color.new.self _ (filled tag.Lines c.args.color) _ c.in_ok-color.ensures.bytes
    (if_joined _ _ c.push_opacity.new.page _ (opacity_of c.args.ink) _ c.in_ok-push_opacity.ensures.bytes
    (if_joined _ _ c.markup.new.self _ (tag_bytes tag.LinesData) _ c.in_ok-markup.ensures.bytes
    (if_joined _ _ c.push_glyphs.new.page _ (glyphs c.args.col run (length run)) _ c.in_ok-push_glyphs.ensures.bytes
    (if_joined _ _ c.markup-2.new.self _ (tag_bytes tag.LinesLabel) _ c.in_ok-markup-2.ensures.bytes
    (if_joined _ _ c.push_cells.new.page _ (escaped (row_text run)) (tag_bytes tag.Close)
    c.in_ok-push_cells.ensures.bytes c.markup-3.ensures.bytes)))))
