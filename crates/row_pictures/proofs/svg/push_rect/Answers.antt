use Rattle.std.proofs.Common.{true, false, [], ◌∷◌, refl}
use Rattle.picture_page.specs.Bytes.{numbers_bytes}
use Rattle.picture_page.specs.Tags.{tag_bytes}
use Rattle.picture_page.specs.declared.tag.Tag.TheVariants as tag
use Rattle.picture_page.proofs.PageLemmas.{if_added, if_joined}
use Rattle.picture_page.proofs.SeenLemmas.{draws_color, draws_numbers, if_drawn_after, if_tag}
use Rattle.row_pictures.specs.Elements.{filled}
use Rattle.row_pictures.proofs.svg.push_rect.Goals as goal

pub returns-clause-adds : goal.returns-clause-adds
returns-clause-adds c =
    if_added _ _ _ _ _ c.in_ok-numbers.ensures.adds (if_added _ _ _ _ _ c.in_ok-color.ensures.adds
    c.markup.ensures.adds)

pub returns-clause-seen : goal.returns-clause-seen
returns-clause-seen c =
    if_drawn_after _ _ _ _ _ _ _ _
    (draws_numbers _ _ true (tag.Rect, c.args.x) ((tag.Width, c.args.width) ∷ (tag.Height, c.args.height) ∷ []) refl
    refl c.in_ok-numbers.ensures.bytes)
    (if_drawn_after _ _ _ _ _ _ _ _ (draws_color _ _ false tag.Fill c.args.color refl c.in_ok-color.ensures.bytes)
    (if_tag _ _ _ tag.Close false true [] refl refl c.markup.ensures.bytes))

pub returns-clause-bytes : goal.returns-clause-bytes
returns-clause-bytes c =
    if_joined _ c.args.page.now c.numbers.new.self _
    (numbers_bytes ((tag.Rect, c.args.x) ∷ (tag.Width, c.args.width) ∷ (tag.Height, c.args.height) ∷ [])) _
    c.in_ok-numbers.ensures.bytes
    (if_joined _ c.numbers.new.self c.color.new.self _ (filled tag.Fill c.args.color) (tag_bytes tag.Close)
    c.in_ok-color.ensures.bytes c.markup.ensures.bytes)
