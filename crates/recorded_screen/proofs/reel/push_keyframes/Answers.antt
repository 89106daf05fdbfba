use Rattle.std.proofs.Common.{[], ◌∷◌, ◌++◌, ◌∙◌, ap, ap₂}
use Rattle.std.specs.List.{flat_map}
use Rattle.picture_page.specs.Bytes.{numbers_bytes}
use Rattle.picture_page.specs.Tags.{tag_bytes}
use Rattle.picture_page.specs.declared.tag.Tag.TheVariants as tag
use Rattle.picture_page.proofs.PageLemmas.{if_joined}
use Rattle.recorded_screen.specs.Reel.{end_bytes, in_32_bits, shot_bytes}
use Rattle.recorded_screen.proofs.reel.push_keyframes.Goals as goal

pub returns : goal.returns
returns c =
    let n = in_32_bits c.args.number in
    if_joined _ c.args.page.now c.numbers.new.self _ (numbers_bytes ((tag.Keyframes, n) ∷ [])) _
    (c.in_ok-numbers.ensures.bytes
    ∙ ap (λ k. c.args.page.now ++ numbers_bytes ((tag.Keyframes, k) ∷ [])) c.in_32_bits.ensures)
    (if_joined _ c.numbers.new.self c.markup.new.self _ (tag_bytes tag.KeyframesStart) _ c.in_ok-markup.ensures.bytes
    (if_joined _ c.markup.new.self c.push_shots.new.page _
    (flat_map (shot_bytes c.args.cols c.args.showing.length) c.args.shots.now) _ c.in_ok-push_shots.ensures
    (if_joined _ c.push_shots.new.page c.push_end.new.page _
    (end_bytes c.args.showing.plays c.args.cols c.args.shots.now) _ c.in_ok-push_end.ensures
    (if_joined _ c.push_end.new.page c.numbers-2.new.self _
    (numbers_bytes ((tag.KeyframesEnd, n) ∷ (tag.Animation, n) ∷ [])) (tag_bytes tag.AnimationEnd)
    (c.in_ok-numbers-2.ensures.bytes
    ∙ ap₂ (λ a b. c.push_end.new.page ++ numbers_bytes ((tag.KeyframesEnd, a) ∷ (tag.Animation, b) ∷ []))
    c.in_32_bits-2.ensures c.in_32_bits-3.ensures) c.markup-2.ensures.bytes))))
