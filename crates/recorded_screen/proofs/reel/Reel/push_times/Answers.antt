use Rattle.std.proofs.Common.{◌++◌, ◌∙◌, ap₂, map, refl}
use Rattle.picture_page.specs.Tags.{tag_bytes}
use Rattle.picture_page.specs.declared.tag.Tag.TheVariants as tag
use Rattle.picture_page.proofs.PageLemmas.{if_joined}
use Rattle.recorded_screen.specs.Reel.{decimal_point, numbered, plays_bytes, track_times}
use Rattle.recorded_screen.specs.Shots.{track_of, tracks_of}
use Rattle.recorded_screen.proofs.reel.Reel.push_times.Goals as goal

pub returns : goal.returns
returns c =
    let reel = c.args.self.now in
    let cols = reel.size.cols.value in
    let showing = c.args.showing in
    if_joined _ c.args.page.now c.markup.new.self _ (tag_bytes tag.FilmLength) _ c.in_ok-markup.ensures.bytes
    (if_joined _ c.markup.new.self c.push_decimal.new.page _ (decimal_point 6 showing.length) _
    (c.in_ok-push_decimal.ensures.bytes 6 refl)
    (if_joined _ c.push_decimal.new.page c.markup-2.new.self _ (tag_bytes tag.FilmLengthEnd) _
    c.in_ok-markup-2.ensures.bytes
    (if_joined _ c.markup-2.new.self c.push_plays.new.page _ (plays_bytes showing.plays) _ c.in_ok-push_plays.ensures
    (if_joined _ c.push_plays.new.page c.push_all_keyframes.new.page _
    (numbered (track_times cols showing) 0 (tracks_of reel)) (tag_bytes tag.Still)
    (c.in_ok-push_all_keyframes.ensures
    ∙ ap₂ (λ w xs. c.push_plays.new.page ++ numbered (track_times w showing) 0 (map track_of xs)) c.get.ensures.value
    c.deref.ensures.value)
    c.markup-3.ensures.bytes))))
