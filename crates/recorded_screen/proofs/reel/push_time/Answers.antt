use Rattle.std.proofs.Common.{[], ◌∷◌, ◌*◌, ◌/◌, ◌++◌, ◌∙◌, ap, max, refl}
use Rattle.picture_page.specs.Bytes.{numbers_bytes}
use Rattle.picture_page.specs.Tags.{tag_bytes}
use Rattle.picture_page.specs.declared.tag.Tag.TheVariants as tag
use Rattle.picture_page.proofs.PageLemmas.{if_joined}
use Rattle.recorded_screen.specs.Reel.{decimal_point, in_64_bits, place}
use Rattle.recorded_screen.proofs.reel.push_time.Goals as goal

pub returns : goal.returns
returns c =
    let shot = c.args.shot in
    let cols = c.args.cols in
    if_joined _ c.args.page.now c.push_decimal.new.page _
    (decimal_point 5 (in_64_bits (shot.time * 10000000 / max c.args.film_length 1))) _
    (c.in_ok-push_decimal.ensures.bytes 5 refl ∙ ap (λ v. c.args.page.now ++ decimal_point 5 v) c.part_of.ensures)
    (if_joined _ c.push_decimal.new.page c.numbers.new.self _
    (numbers_bytes ((tag.Percent, place cols shot.place) ∷ [])) (tag_bytes tag.PercentEnd)
    (c.in_ok-numbers.ensures.bytes
    ∙ ap (λ x. c.push_decimal.new.page ++ numbers_bytes ((tag.Percent, x) ∷ [])) c.place_of.ensures)
    c.markup.ensures.bytes)
