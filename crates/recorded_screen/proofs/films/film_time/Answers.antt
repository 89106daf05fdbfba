use Rattle.std.proofs.Common.{◌≡◌, arith, ap, ◌∙◌}
use Rattle.recorded_screen.specs.Film.{film_time}
use Rattle.recorded_screen.proofs.FilmLemmas.{time_goes_on}
use Rattle.recorded_screen.proofs.films.film_time.Goals as goal

pub loop-i-preserved : goal.loop-i-preserved
loop-i-preserved c =
    time_goes_on c.args.pace c.args.events.now c.loop-i.i c.gap_before.result c.of_time.result c.loop-i.time
    c.saturating_add-time.result c.gap_before.ensures c.of_time.ensures c.loop-i.invariant c.saturating_add-time.ensures

pub returns : goal.returns
returns c =
    let end : c.loop-i.i ≡ c.args.count = omega arith in
    c.loop-i.invariant ∙ ap (film_time c.args.pace c.args.events.now) end
