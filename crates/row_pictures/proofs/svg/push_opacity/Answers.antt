use Rattle.std.proofs.Common.{false, [], refl}
use Rattle.picture_page.specs.declared.tag.Tag.TheVariants as tag
use Rattle.picture_page.proofs.SeenLemmas.{if_numbers}
use Rattle.row_pictures.proofs.svg.push_opacity.Goals as goal

pub returns-in-Shade-clause-seen : goal.returns-in-Shade-clause-seen
returns-in-Shade-clause-seen c =
    if_numbers _ _ _ false (tag.Opacity, c.in-Shade.opacity) [] refl refl c.numbers.ensures.bytes
