use Rattle.recorded_screen.proofs.FilmLemmas.{track_is, track_shows}
use Rattle.recorded_screen.specs.Shots.{track_of}
use Rattle.recorded_screen.proofs.reel.Track.show.Goals as goal

pub returns-clause-track : goal.returns-clause-track
returns-clause-track c =
    track_is (track_of c.args.self.now) _ c.args.number c.args.time c.in_ok-place.place c.requires.track
    c.in_ok-place.ensures.place c.in_ok-push_shot.ensures

pub returns-clause-shows : goal.returns-clause-shows
returns-clause-shows c =
    track_shows (track_of c.args.self.now) _ c.args.number c.args.time c.in_ok-place.place c.in_ok-place.ensures.place
    c.in_ok-push_shot.ensures
