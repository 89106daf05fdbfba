use Rattle.std.proofs.Common.{◌≡◌, [], ◌∷◌, ◌*◌, ◌++◌, ◌∙◌, ap, ap₂, arith}
use Rattle.picture_page.specs.Bytes.{numbers_bytes}
use Rattle.picture_page.specs.Tags.{tag_bytes}
use Rattle.picture_page.specs.declared.tag.Tag.TheVariants as tag
use Rattle.picture_page.proofs.PageLemmas.{if_joined}
use Rattle.recorded_screen.specs.Reel.{in_32_bits, numbered, still_place, used_row}
use Rattle.recorded_screen.proofs.reel.push_track.Goals as goal

pub returns : goal.returns
returns c =
    let cols = c.args.cols in
    let n = in_32_bits c.args.number in
    let track = c.args.track.now in
    let y : c.saturating_mul.result ≡ in_32_bits (c.args.number * 18) =
    (let product = c.saturating_mul.ensures in let number = c.in_32_bits-2.ensures in omega arith) in
    if_joined _ c.args.page.now c.numbers.new.self _
    (numbers_bytes ((tag.Track, n) ∷ (tag.TrackPlace, still_place cols c.args.poster track.shots.items) ∷ [])) _
    (c.in_ok-numbers.ensures.bytes
    ∙ ap₂ (λ k x. c.args.page.now ++ numbers_bytes ((tag.Track, k) ∷ (tag.TrackPlace, x) ∷ [])) c.in_32_bits.ensures
    (c.still_place-shown.ensures ∙ ap (still_place cols c.args.poster) c.deref.ensures.value))
    (if_joined _ c.numbers.new.self c.markup.new.self _ (tag_bytes tag.TrackRows) _ c.in_ok-markup.ensures.bytes
    (if_joined _ c.markup.new.self c.use_rows.new.page _
    (numbered (used_row cols (in_32_bits (c.args.number * 18))) 0 track.rows.keys) (tag_bytes tag.TrackEnd)
    (c.in_ok-use_rows.ensures ∙ ap (λ h. c.markup.new.self ++ numbered (used_row cols h) 0 track.rows.keys) y)
    c.markup-2.ensures.bytes))
