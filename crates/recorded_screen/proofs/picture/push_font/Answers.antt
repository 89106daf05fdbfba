use Rattle.picture_page.proofs.PageLemmas.{if_added}
use Rattle.picture_page.proofs.SeenLemmas.{draws_unseen, hides_text, if_drawn_after, if_unseen}
use Rattle.recorded_screen.proofs.HeadLemmas.{font_added}
use Rattle.recorded_screen.proofs.picture.push_font.Goals as goal

pub returns-clause-adds : goal.returns-clause-adds
returns-clause-adds c =
    if_added _ _ _ _ _ c.in_ok-markup.ensures.adds (if_added _ _ _ _ _ c.in_ok-name.ensures.adds
    c.markup-2.ensures.adds)

pub returns-clause-seen : goal.returns-clause-seen
returns-clause-seen c =
    if_drawn_after _ _ _ _ _ _ _ _ (draws_unseen _ _ _ c.requires.before c.in_ok-markup.ensures.bytes)
    (if_drawn_after _ _ _ _ _ _ _ _ (hides_text _ _ c.as_str.result.now c.in_ok-name.ensures.bytes)
    (if_unseen _ _ _ _ c.requires.after c.markup-2.ensures.bytes))

pub returns-clause-bytes : goal.returns-clause-bytes
returns-clause-bytes c =
    font_added _ _ _ _ _ _ c.args.before c.args.after c.args.look.now c.in-Some.font c.in-Some.is
    c.as_str.ensures.value c.in_ok-markup.ensures.bytes c.in_ok-name.ensures.bytes c.markup-2.ensures.bytes
