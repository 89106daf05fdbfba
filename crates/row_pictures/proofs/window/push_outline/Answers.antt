use Rattle.std.proofs.Common.{true, [], ◌∷◌, refl}
use Rattle.picture_page.specs.declared.tag.Tag.TheVariants as tag
use Rattle.picture_page.proofs.SeenLemmas.{if_numbers}
use Rattle.row_pictures.proofs.window.push_outline.Goals as goal

pub returns-clause-seen : goal.returns-clause-seen
returns-clause-seen c =
    if_numbers _ _ _ true (tag.Rect, 0) ((tag.Width, c.args.width) ∷ (tag.Height, c.args.height)
    ∷ (tag.Corner, _) ∷ []) refl refl c.numbers.ensures.bytes
