use Rattle.std.proofs.Common.{true, codes, refl}
use Rattle.picture_page.specs.declared.tag.Tag.TheVariants as tag
use Rattle.picture_page.proofs.PageLemmas.{after_markup, before_markup, shows_page}
use Rattle.picture_page.proofs.SeenLemmas.{draws_both, draws_tag, seen_page}
use Rattle.picture_page.specs.Tags.{tag_bytes}
use Rattle.recorded_screen.specs.Titles.{page_head}
use Rattle.recorded_screen.proofs.PlacedLemmas.{around_placed}
use Rattle.recorded_screen.proofs.picture.html.Goals as goal

pub returns-clause-text : goal.returns-clause-text
returns-clause-text c =
    shows_page _ _ _ _ c.new-page.ensures c.into_bytes.ensures.bytes
    (after_markup _ _ _ _ c.in_ok-push_page_head.ensures.adds (before_markup _ _ _ _ c.in_ok-push_block.ensures.adds
    c.in_ok-markup.ensures.adds))

pub returns-clause-seen : goal.returns-clause-seen
returns-clause-seen c =
    seen_page _ _ _ true _ c.new-page.ensures c.into_bytes.ensures.bytes
    (draws_both _ _ _ true true true _ _ c.in_ok-push_page_head.ensures.seen
    (draws_both _ _ _ true true true _ _ c.in_ok-push_block.ensures.seen
    (draws_tag _ _ tag.PageFoot true true (codes "\n") refl refl c.in_ok-markup.ensures.bytes)))

pub returns-clause-placed : goal.returns-clause-placed
returns-clause-placed c =
    around_placed _ _ _ _ _ (page_head c.args.look.now) (tag_bytes tag.PageFoot) c.args.look.now c.args.history
    c.args.screen.now.state c.new-page.ensures c.in_ok-push_page_head.ensures.bytes c.in_ok-push_block.ensures.placed
    c.in_ok-markup.ensures.bytes c.into_bytes.ensures.bytes
