use Rattle.std.proofs.Common.{[], ◌∷◌, ◌++◌, ◌∙◌, ap}
use Rattle.picture_page.specs.Bytes.{numbers_bytes}
use Rattle.picture_page.specs.Tags.{tag_bytes}
use Rattle.picture_page.specs.declared.tag.Tag.TheVariants as tag
use Rattle.picture_page.proofs.PageLemmas.{if_joined}
use Rattle.recorded_screen.specs.Reel.{in_32_bits}
use Rattle.recorded_screen.proofs.reel.draw_row.Goals as goal

pub returns : goal.returns
returns c =
    if_joined _ c.args.page.now c.numbers.new.self _ (numbers_bytes ((tag.RowName, in_32_bits c.args.number) ∷ [])) _
    (c.in_ok-numbers.ensures.bytes
    ∙ ap (λ n. c.args.page.now ++ numbers_bytes ((tag.RowName, n) ∷ [])) c.in_32_bits.ensures)
    (if_joined _ c.numbers.new.self c.markup.new.self _ (tag_bytes tag.RowNameEnd) _ c.in_ok-markup.ensures.bytes
    (if_joined _ c.markup.new.self c.append.new.self _ c.args.row.now _ c.in_ok-append.ensures
    (if_joined _ c.append.new.self c.markup-2.new.self _ (tag_bytes tag.RowEnd) (10 ∷ [])
    c.in_ok-markup-2.ensures.bytes c.end_row.ensures.bytes)))
