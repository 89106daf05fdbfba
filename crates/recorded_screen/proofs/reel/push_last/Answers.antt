use Rattle.std.proofs.Common.{[], ◌∷◌, ◌++◌, ◌∙◌, ap}
use Rattle.picture_page.specs.Bytes.{numbers_bytes}
use Rattle.picture_page.specs.Tags.{tag_bytes}
use Rattle.picture_page.specs.declared.tag.Tag.TheVariants as tag
use Rattle.picture_page.proofs.PageLemmas.{if_joined}
use Rattle.recorded_screen.specs.Reel.{last_place}
use Rattle.recorded_screen.proofs.reel.push_last.Goals as goal

pub returns : goal.returns
returns c =
    if_joined _ c.args.page.now c.markup.new.self _ (tag_bytes tag.AtEnd) _ c.in_ok-markup.ensures.bytes
    (if_joined _ c.markup.new.self c.numbers.new.self _
    (numbers_bytes ((tag.Percent, last_place c.args.cols c.args.shots.now) ∷ [])) (tag_bytes tag.PercentEnd)
    (c.in_ok-numbers.ensures.bytes
    ∙ ap (λ x. c.markup.new.self ++ numbers_bytes ((tag.Percent, x) ∷ [])) c.last_place.ensures)
    c.markup-2.ensures.bytes)
