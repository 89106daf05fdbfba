use Rattle.std.proofs.Common.{◌≡◌, ◌<◌, ◌∙◌, ap, arith, length, refl, subst, sym}
use Rattle.recorded_screen.specs.Shots.{IsTrack, track_of, tracks_of}
use Rattle.recorded_screen.proofs.FilmLemmas.{reel_is, replaced, row_is_shown, track_is_there}
use Rattle.recorded_screen.proofs.reel.Reel.show.Goals as goal

pub show-requires : goal.show-requires
show-requires c = record {
  track = track_is_there c.args.self.now c.row_number.new.self c.args.row c.from.result c.in_ok-number.number
      c.index_mut.result.now c.requires.reel c.in_ok-number.ensures.grows c.requires.row c.from.ensures
      c.index_mut.ensures.value;
}

pub returns-clause-reel : goal.returns-clause-reel
returns-clause-reel c =
    reel_is c.args.self.now c.row_number.new.self _ c.args.row c.in_ok-number.number c.args.time c.show.new.self
    c.requires.reel
    (replaced c.args.self.now c.row_number.new.self _ c.args.row c.from.result c.in_ok-number.number
    c.args.time c.index_mut.result.now c.show.new.self c.requires.reel c.in_ok-number.ensures.grows
    c.in_ok-number.ensures.drawn c.requires.row c.from.ensures c.index_mut.ensures.value refl
    c.in_ok-show.ensures.shows c.in_ok-show.ensures.track)

pub returns-clause-shows : goal.returns-clause-shows
returns-clause-shows c =
    row_is_shown c.args.self.now c.row_number.new.self _ c.args.row c.in_ok-number.number c.args.time
    c.show.new.self _
    (replaced c.args.self.now c.row_number.new.self _ c.args.row c.from.result c.in_ok-number.number
    c.args.time c.index_mut.result.now c.show.new.self c.requires.reel c.in_ok-number.ensures.grows
    c.in_ok-number.ensures.drawn c.requires.row c.from.ensures c.index_mut.ensures.value refl
    c.in_ok-show.ensures.shows c.in_ok-show.ensures.track)
    c.in_ok-number.ensures.row
