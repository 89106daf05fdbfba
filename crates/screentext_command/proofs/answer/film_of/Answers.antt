use Rattle.std.proofs.Common.{◌≡◌, Err, refl, rules}
use Rattle.screentext_command.proofs.MissingLemmas.{film_faulted}
use Rattle.screentext_command.specs.Faults.{film_fault}
use Rattle.screentext_command.proofs.answer.film_of.Goals as goal

pub returns-in_err-framed_film-clause-fault : goal.returns-in_err-framed_film-clause-fault
returns-in_err-framed_film-clause-fault c =
    let e = c.in_err-framed_film.field-0.0 in
    let is : c.from_residual-in_err-framed_film.result ≡ Err (film_fault e) = search rules in
    rw is (film_faulted c.args.recording.now c.args.moments e)

pub returns-clause-film : goal.returns-clause-film
returns-clause-film c = record {
  safe = c.in_ok-framed_film.ensures.safe;
  short = c.in_ok-framed_film.ensures.short;
  look = c.in_ok-colors.colors;
  is_look = c.in_ok-colors.ensures;
  at_first = c.args.size;
  is_size = refl;
  shows = rw (c.deref.ensures.value, c.pace_of-pace.ensures) at c.in_ok-framed_film.ensures.film;
}
