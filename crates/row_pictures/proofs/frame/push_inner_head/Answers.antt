use Rattle.std.proofs.Common.{true, false, [], ◌∷◌, codes, refl}
use Rattle.picture_page.specs.declared.tag.Tag.TheVariants as tag
use Rattle.picture_page.proofs.PageLemmas.{if_added}
use Rattle.picture_page.proofs.SeenLemmas.{draws_numbers, if_drawn_after, if_tag}
use Rattle.row_pictures.proofs.frame.push_inner_head.Goals as goal

pub returns-clause-adds : goal.returns-clause-adds
returns-clause-adds c = if_added _ _ _ _ _ c.in_ok-numbers.ensures.adds c.markup.ensures.adds

pub returns-clause-seen : goal.returns-clause-seen
returns-clause-seen c =
    if_drawn_after _ _ _ _ _ _ _ _
    (draws_numbers _ _ true (tag.Inner, _) ((tag.Y, _) ∷ (tag.Width, _) ∷ (tag.Height, _) ∷ (tag.ViewBox, _)
    ∷ (tag.Space, _) ∷ []) refl refl c.in_ok-numbers.ensures.bytes)
    (if_tag _ _ _ tag.SvgRows false true (codes "\n") refl refl c.markup.ensures.bytes)
