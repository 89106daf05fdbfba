use Rattle.picture_page.proofs.PageLemmas.{if_added}
use Rattle.player_page.proofs.page.push_front.Goals as goal

pub returns : goal.returns
returns c =
    if_added _ _ _ _ _ c.in_ok-markup.ensures.adds
    (if_added _ _ _ _ _ c.in_ok-push_html_colors.ensures.adds
    (if_added _ _ _ _ _ c.in_ok-push_font.ensures.adds c.markup-2.ensures.adds))
