use Rattle.std.proofs.Common.{ℕ, List, ◌+◌, ◌++◌, ◌∙◌, false, [], ◌∷◌, ap, refl}
use Rattle.picture_page.specs.Bytes.{numbers_bytes}
use Rattle.picture_page.specs.Tags.{tag_bytes}
use Rattle.picture_page.specs.declared.tag.Tag.TheVariants as tag
use Rattle.picture_page.proofs.PageLemmas.{if_added, if_joined}
use Rattle.picture_page.proofs.SeenLemmas.{draws_numbers, if_drawn_after, if_tag}
use Rattle.row_pictures.specs.Svg.{in_32_bits}
use Rattle.row_pictures.proofs.glyph.push_area.Goals as goal

pub returns-clause-adds : goal.returns-clause-adds
returns-clause-adds c = if_added _ _ _ _ _ c.in_ok-numbers.ensures.adds c.markup.ensures.adds

pub returns-clause-seen : goal.returns-clause-seen
returns-clause-seen c =
    let area = c.args.area in
    if_drawn_after _ _ _ _ _ _ _ _
    (draws_numbers _ _ false (tag.MoveTo, c.saturating_add.result) ((tag.Space, area.1) ∷ (tag.Right, area.2)
    ∷ (tag.Down, area.3) ∷ (tag.Left, area.2) ∷ []) refl refl c.in_ok-numbers.ensures.bytes)
    (if_tag _ _ _ tag.Shut false false [] refl refl c.markup.ensures.bytes)

pub returns-clause-bytes : goal.returns-clause-bytes
returns-clause-bytes c =
    let area = c.args.area in
    let from : ℕ → List ℕ = λ left. numbers_bytes ((tag.MoveTo, left) ∷ (tag.Space, area.1) ∷ (tag.Right, area.2)
    ∷ (tag.Down, area.3) ∷ (tag.Left, area.2) ∷ []) in
    if_joined _ c.args.page.now c.numbers.new.self _ (from (in_32_bits (c.args.x + area.0))) (tag_bytes tag.Shut)
    (c.in_ok-numbers.ensures.bytes ∙ ap (λ left. c.args.page.now ++ from left) c.saturating_add.ensures)
    c.markup.ensures.bytes
