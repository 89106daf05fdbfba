use Rattle.std.proofs.Common.{◌≡◌, ◌<◌, ◌+◌, ◌++◌, ◌∙◌, Err, ap, ap₂, inr, length, refl, rules, subst}
use Rattle.picture_page.specs.Tags.{tag_bytes}
use Rattle.picture_page.specs.declared.tag.Tag.TheVariants as tag
use Rattle.recorded_screen.specs.Heads.{svg_head}
use Rattle.recorded_screen.specs.Reel.{drawn_bytes, numbered, showing, times_bytes, track_bytes}
use Rattle.recorded_screen.specs.Shots.{tracks_of}
use Rattle.recorded_screen.specs.declared.reel.TheConstants.{LONGEST_FILM}
use Rattle.recorded_screen.proofs.ReelLemmas.{film_developed}
use Rattle.recorded_screen.proofs.reel.Reel.develop.Goals as goal

pub returns-clause-film : goal.returns-clause-film
returns-clause-film c =
    let look = c.args.look.now in
    let reel = c.args.self in
    let cols = c.args.self.size.cols.value in
    let times = times_bytes cols (showing c.args.plays c.args.poster c.args.self.time) (tracks_of c.args.self) in
    let tracks = numbered (track_bytes cols c.args.poster) 0 (tracks_of c.args.self) in
    let foot = tag_bytes tag.SvgFoot in
    film_developed _ _ _ _ _ _ (svg_head look reel.size.rows.value cols) times (drawn_bytes reel.drawn_rows tracks) foot
    c.new-page.ensures
    (c.in_ok-push_svg_head.ensures.bytes
    ∙ ap₂ (λ h w. c.new-page.result ++ svg_head look h w) c.get.ensures.value c.get-2.ensures.value)
    (c.in_ok-push_times.ensures
    ∙ ap (λ w. c.push_svg_head.new.page ++ times_bytes cols w (tracks_of reel)) c.showing.ensures)
    c.in_ok-push_drawn.ensures c.in_ok-markup.ensures.bytes c.into_bytes.ensures.bytes
    ∙ ap (λ rows. svg_head look reel.size.rows.value cols ++ (times ++ (drawn_bytes rows tracks ++ foot)))
    c.requires.reel.drawn.rows

pub returns-in_err-check_length-clause-fault : goal.returns-in_err-check_length-clause-fault
returns-in_err-check_length-clause-fault c =
    let e = c.in_err-check_length.field-0.0 in
    let is : c.from_residual-in_err-check_length.result ≡ Err e = search rules in
    let look = c.args.look.now in
    let reel = c.args.self in
    let cols = reel.size.cols.value in
    let times = times_bytes cols (showing c.args.plays c.args.poster reel.time) (tracks_of reel) in
    let tracks = numbered (track_bytes cols c.args.poster) 0 (tracks_of reel) in
    let foot = tag_bytes tag.SvgFoot in
    let whole = film_developed _ _ _ _ _ _ (svg_head look reel.size.rows.value cols) times
    (drawn_bytes reel.drawn_rows tracks) foot c.new-page.ensures
    (c.in_ok-push_svg_head.ensures.bytes
    ∙ ap₂ (λ h w. c.new-page.result ++ svg_head look h w) c.get.ensures.value c.get-2.ensures.value)
    (c.in_ok-push_times.ensures
    ∙ ap (λ w. c.push_svg_head.new.page ++ times_bytes cols w (tracks_of reel)) c.showing.ensures)
    c.in_ok-push_drawn.ensures c.in_ok-markup.ensures.bytes refl
    ∙ ap (λ rows. svg_head look reel.size.rows.value cols ++ (times ++ (drawn_bytes rows tracks ++ foot)))
    c.requires.reel.drawn.rows in
    rw is (inr (
      c.in_err-check_length.ensures.long.0,
      subst (λ xs. LONGEST_FILM < length xs) whole c.in_err-check_length.ensures.long.1,
    ))
