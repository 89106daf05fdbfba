use Rattle.std.proofs.Common.{true, false, [], ◌∷◌, refl}
use Rattle.picture_page.specs.declared.tag.Tag.TheVariants as tag
use Rattle.picture_page.proofs.PageLemmas.{if_added}
use Rattle.picture_page.proofs.SeenLemmas.{draws_color, draws_numbers, if_drawn_after, if_tag}
use Rattle.row_pictures.proofs.window.push_shade.Goals as goal

pub returns-clause-adds : goal.returns-clause-adds
returns-clause-adds c =
    if_added _ _ _ _ _ c.in_ok-numbers.ensures.adds (if_added _ _ _ _ _ c.in_ok-color.ensures.adds
    c.markup.ensures.adds)

pub returns-clause-seen : goal.returns-clause-seen
returns-clause-seen c =
    if_drawn_after _ _ _ _ _ _ _ _
    (draws_numbers _ _ true (tag.Rect, 0) ((tag.Width, c.args.width) ∷ (tag.Height, c.args.height)
    ∷ (tag.Opacity, 15) ∷ []) refl refl c.in_ok-numbers.ensures.bytes)
    (if_drawn_after _ _ _ _ _ _ _ _ (draws_color _ _ false tag.Fill c.args.color refl c.in_ok-color.ensures.bytes)
    (if_tag _ _ _ tag.Close false true [] refl refl c.markup.ensures.bytes))
