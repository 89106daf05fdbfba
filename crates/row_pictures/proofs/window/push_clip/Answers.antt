use Rattle.std.proofs.Common.{true, false, [], refl}
use Rattle.picture_page.specs.Tags.{tag_bytes}
use Rattle.picture_page.specs.declared.tag.Tag.TheVariants as tag
use Rattle.picture_page.proofs.PageLemmas.{if_added, if_joined}
use Rattle.picture_page.proofs.SeenLemmas.{draws_tag, if_drawn_after, if_tag}
use Rattle.row_pictures.specs.Frames.{outline}
use Rattle.row_pictures.proofs.window.push_clip.Goals as goal

pub returns-clause-adds : goal.returns-clause-adds
returns-clause-adds c =
    if_added _ _ _ _ _ c.in_ok-markup.ensures.adds (if_added _ _ _ _ _ c.in_ok-push_outline.ensures.adds
    c.markup-2.ensures.adds)

pub returns-clause-seen : goal.returns-clause-seen
returns-clause-seen c =
    if_drawn_after _ _ _ _ _ _ _ _ (draws_tag _ _ tag.ClipStart true true [] refl refl c.in_ok-markup.ensures.bytes)
    (if_drawn_after _ _ _ _ _ _ _ _ c.in_ok-push_outline.ensures.seen
    (if_tag _ _ _ tag.ClipEnd false true [] refl refl c.markup-2.ensures.bytes))

pub returns-clause-bytes : goal.returns-clause-bytes
returns-clause-bytes c =
    if_joined _ c.args.page.now c.markup.new.self _ (tag_bytes tag.ClipStart) _ c.in_ok-markup.ensures.bytes
    (if_joined _ c.markup.new.self c.push_outline.new.page _ (outline c.args.size c.args.width c.args.height)
    (tag_bytes tag.ClipEnd) c.in_ok-push_outline.ensures.bytes c.markup-2.ensures.bytes)
