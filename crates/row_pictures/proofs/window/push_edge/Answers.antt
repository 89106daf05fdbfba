use Rattle.std.proofs.Common.{true, false, [], refl}
use Rattle.picture_page.specs.Tags.{tag_bytes}
use Rattle.picture_page.specs.declared.tag.Tag.TheVariants as tag
use Rattle.picture_page.proofs.PageLemmas.{if_added, if_joined}
use Rattle.picture_page.proofs.SeenLemmas.{draws_color, if_drawn_after, if_tag}
use Rattle.row_pictures.specs.Elements.{filled}
use Rattle.row_pictures.specs.Frames.{outline}
use Rattle.row_pictures.proofs.window.push_edge.Goals as goal

pub returns-clause-adds : goal.returns-clause-adds
returns-clause-adds c =
    if_added _ _ _ _ _ c.in_ok-push_outline.ensures.adds (if_added _ _ _ _ _ c.in_ok-color.ensures.adds
    c.markup.ensures.adds)

pub returns-clause-seen : goal.returns-clause-seen
returns-clause-seen c =
    if_drawn_after _ _ _ _ _ _ _ _ c.in_ok-push_outline.ensures.seen
    (if_drawn_after _ _ _ _ _ _ _ _ (draws_color _ _ false tag.Edge c.args.color refl c.in_ok-color.ensures.bytes)
    (if_tag _ _ _ tag.EdgeEnd false true [] refl refl c.markup.ensures.bytes))

pub returns-clause-bytes : goal.returns-clause-bytes
returns-clause-bytes c =
    if_joined _ c.args.page.now c.push_outline.new.page _ (outline c.args.size c.args.width c.args.height) _
    c.in_ok-push_outline.ensures.bytes
    (if_joined _ c.push_outline.new.page c.color.new.self _ (filled tag.Edge c.args.color) (tag_bytes tag.EdgeEnd)
    c.in_ok-color.ensures.bytes c.markup.ensures.bytes)
