use Rattle.std.proofs.Common.{true, false, [], ◌∷◌, ◌+◌, ◌/◌, refl}
use Rattle.picture_page.specs.Bytes.{numbers_bytes}
use Rattle.picture_page.specs.Page.{escaped}
use Rattle.picture_page.specs.Tags.{tag_bytes}
use Rattle.picture_page.specs.declared.tag.Tag.TheVariants as tag
use Rattle.picture_page.proofs.PageLemmas.{if_added, if_joined}
use Rattle.picture_page.proofs.SeenLemmas.{draws_color, draws_numbers, draws_tag, draws_text, if_drawn_after}
use Rattle.picture_page.proofs.SeenLemmas.{if_drawn_before, if_tag}
use Rattle.row_pictures.specs.Elements.{filled}
use Rattle.row_pictures.proofs.frame.push_title.Goals as goal

pub returns-clause-adds : goal.returns-clause-adds
returns-clause-adds c =
    if_added _ _ _ _ _ c.in_ok-numbers.ensures.adds (if_added _ _ _ _ _ c.in_ok-color.ensures.adds
    (if_added _ _ _ _ _ c.in_ok-markup.ensures.adds (if_added _ _ _ _ _ c.in_ok-name.ensures.adds
    c.markup-2.ensures.adds)))

pub returns-clause-seen : goal.returns-clause-seen
returns-clause-seen c =
    if_drawn_after _ _ _ _ _ _ _ _
    (draws_numbers _ _ true (tag.Text, _) ((tag.Y, _) ∷ (tag.TitleSize, _) ∷ []) refl refl
    c.in_ok-numbers.ensures.bytes)
    (if_drawn_after _ _ _ _ _ _ _ _ (draws_color _ _ false tag.Fill c.args.color refl c.in_ok-color.ensures.bytes)
    (if_drawn_after _ _ _ _ _ _ _ _ (draws_tag _ _ tag.TextStart false true [] refl refl c.in_ok-markup.ensures.bytes)
    (if_drawn_before _ _ _ _ _ _ _ _ (draws_text _ _ c.args.title.now c.in_ok-name.ensures.bytes)
    (if_tag _ _ _ tag.TextEnd true true [] refl refl c.markup-2.ensures.bytes))))

pub returns-clause-bytes : goal.returns-clause-bytes
returns-clause-bytes c =
    let size = c.args.size in
    if_joined _ c.args.page.now c.numbers.new.self _
    (numbers_bytes ((tag.Text, c.args.x) ∷ (tag.Y, size + size / 3) ∷ (tag.TitleSize, size) ∷ [])) _
    c.in_ok-numbers.ensures.bytes
    (if_joined _ c.numbers.new.self c.color.new.self _ (filled tag.Fill c.args.color) _ c.in_ok-color.ensures.bytes
    (if_joined _ c.color.new.self c.markup.new.self _ (tag_bytes tag.TextStart) _ c.in_ok-markup.ensures.bytes
    (if_joined _ c.markup.new.self c.name.new.self _ (escaped c.args.title.now) (tag_bytes tag.TextEnd)
    c.in_ok-name.ensures.bytes c.markup-2.ensures.bytes)))
