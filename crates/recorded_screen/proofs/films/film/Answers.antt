use Rattle.std.proofs.Common.{◌≡◌, ◌<◌, ◌∙◌, ◌+◌, ◌++◌, ◌∷◌, ap, arith, length, map, subst, sym, take, List, []}
use Rattle.std.proofs.Common.{Err, inl, inr, refl, rules}
use Rattle.screen_model.specs.Call.{ScreenView}
use Rattle.screen_model.specs.Made.{Act}
use Rattle.vt100.specs.Parsing.{ParserIsAfter}
use Rattle.recordings.specs.declared.recording.Event.{Event}
use Rattle.recorded_screen.specs.Moment.{act_of}
use Rattle.recorded_screen.proofs.FilmLemmas.{acts_more, fault_of_reel, film_longer, film_of_reel, is_too_long}
use Rattle.recorded_screen.proofs.FilmLemmas.{reel_waits, state_is}
use Rattle.recorded_screen.proofs.FilmLemmas.{taken_first, taken_next, time_reached}
use Rattle.recorded_screen.specs.Film.{poster_time}
use Rattle.recorded_screen.specs.declared.error.FilmError.TheVariants.{Memory}
use Rattle.recorded_screen.specs.declared.reel.TheConstants.{LONGEST_FILM}
use Rattle.recorded_screen.proofs.films.film.Goals as goal

pub loop-i-init : goal.loop-i-init
loop-i-init c =
    let after = c.in_ok-terminal.ensures.state_after in
    record {
      live = ap (λ (w : ScreenView). w.failed) after.screen;
      after = after;
      taken = taken_first c.args.look.now c.args.size c.widest.result c.args.pace c.args.moment c.args.events.now
          c.in_ok-reel.reel c.shoot_if.new.reel c.may_stand-first.result c.screen.result.now.state
          c.widest.ensures.rows c.widest.ensures.cols c.in_ok-reel.ensures.tracks c.in_ok-reel.ensures.size
          c.in_ok-reel.ensures.time c.may_stand-first.ensures
          (state_is c.in_ok-terminal.terminal c.screen.result.now _ _ [] c.screen.ensures after)
          c.in_ok-shoot_if.ensures.reel c.in_ok-shoot_if.ensures.shot;
    }

pub loop-i-preserved : goal.loop-i-preserved
loop-i-preserved c =
    let size = c.args.size in
    let events = c.args.events.now in
    let i = c.loop-i.i in
    let event = c.index-events-i.result in
    let lt : c.loop-i.i < length c.args.events.now =
    (let below = c.loop-i-test.true in let within = c.count_until-i-end.ensures.within in omega arith) in
    let acts = map (λ (e : Event). act_of e.change) (take i events) in
    let acts_after = map (λ (e : Event). act_of e.change) (take (i + 1) events) in
    let after : ParserIsAfter c.act.new.parser c.args.size.rows.value c.args.size.cols.value 0
    (map (λ (e : Event). act_of e.change) (take (c.loop-i.i + 1) c.args.events.now)) =
    subst (λ (xs : List Act). ParserIsAfter c.act.new.parser size.rows.value size.cols.value 0 xs)
    (sym (acts_more events i event lt c.index-events-i.is))
    (subst (λ (e : Event). ParserIsAfter c.act.new.parser size.rows.value size.cols.value 0
    (acts ++ act_of e.change ∷ [])) (sym c.index-events-i.is)
    (c.in_ok-act.ensures.shows size.rows.value size.cols.value 0 acts c.loop-i.invariant.after)) in
    record {
      live = c.in_ok-act.ensures.live;
      after = after;
      taken = taken_next c.args.look.now size c.args.pace c.args.moment events c.loop-i.reel c.wait.new.self
          c.shoot_if-in-loop-i.new.reel i c.gap_before.result c.of_time.result c.may_stand-on.result
          c.screen-in-loop-i.result.now.state c.gap_before.ensures c.of_time.ensures c.wait.ensures
          c.may_stand-on.ensures
          (state_is c.act.new.parser c.screen-in-loop-i.result.now _ _ acts_after c.screen-in-loop-i.ensures after)
          c.in_ok-shoot_if-2.ensures.reel c.in_ok-shoot_if-2.ensures.shot
          c.loop-i.invariant.taken;
    }

pub returns-clause-film : goal.returns-clause-film
returns-clause-film c =
    let bound = c.count_until-i-end.ensures.count in
    let end : c.loop-i.i ≡ c.count_until-i-end.result = omega arith in
    film_of_reel c.develop.result c.args.look.now c.args.size c.args.pace c.args.moment c.args.events.now c.loop-i.reel
    c.loop-i.i (end ∙ bound) c.loop-i.invariant.taken
    (rw c.poster_time.ensures at c.develop.ensures.film)

pub returns-in_err-check-clause-fault : goal.returns-in_err-check-clause-fault
returns-in_err-check-clause-fault c =
    let e = c.in_err-check.field-0.0 in
    let is : c.from_residual-in_err-check.result ≡ Err e =
    search (rules, c.from_residual-in_err-check.ensures) in
    let after = c.in_ok-terminal.ensures.state_after in
    let taken = taken_first c.args.look.now c.args.size c.widest.result c.args.pace c.args.moment c.args.events.now
    c.in_ok-reel.reel c.shoot_if.new.reel c.may_stand-first.result c.screen.result.now.state c.widest.ensures.rows
    c.widest.ensures.cols c.in_ok-reel.ensures.tracks c.in_ok-reel.ensures.size c.in_ok-reel.ensures.time
    c.may_stand-first.ensures
    (state_is c.in_ok-terminal.terminal c.screen.result.now _ _ [] c.screen.ensures after)
    c.in_ok-shoot_if.ensures.reel c.in_ok-shoot_if.ensures.shot in
    rw is (inr (
      c.in_err-check.ensures.0,
      is_too_long LONGEST_FILM c.args.look.now c.args.size c.args.pace c.args.moment
          c.args.events.now c.shoot_if.new.reel 0 (omega arith) taken
          (film_longer LONGEST_FILM c.args.look.now c.args.pace.plays
          (poster_time c.args.pace c.args.events.now)
          c.shoot_if.new.reel taken.is_reel c.in_err-check.ensures.1),
    ))

pub returns-in_err-shoot_if-clause-fault : goal.returns-in_err-shoot_if-clause-fault
returns-in_err-shoot_if-clause-fault c =
    let e = c.in_err-shoot_if.field-0.0 in
    let is : c.from_residual-in_err-shoot_if.result ≡ Err e =
    search (rules, c.from_residual-in_err-shoot_if.ensures) in
    rw is (inl c.in_err-shoot_if.ensures.memory)

pub returns-in_err-act-clause-fault : goal.returns-in_err-act-clause-fault
returns-in_err-act-clause-fault c =
    let is : c.from_residual-in_err-act.result ≡ Err Memory = search (rules, c.from_residual-in_err-act.ensures) in rw is (inl refl)

pub may_stand-on-requires : goal.may_stand-on-requires
may_stand-on-requires c =
    c.time-in-loop-i.ensures
    ∙ time_reached c.args.pace c.args.events.now c.loop-i.i c.gap_before.result c.of_time.result c.loop-i.reel
    c.wait.new.self c.gap_before.ensures c.of_time.ensures c.wait.ensures c.loop-i.invariant.taken.time

pub shoot_if-requires-in-loop-i : goal.shoot_if-requires-in-loop-i
shoot_if-requires-in-loop-i c = record {
  reel = reel_waits c.loop-i.reel c.wait.new.self _ c.wait.ensures c.loop-i.invariant.taken.is_reel;
}

pub returns-in_err-shoot_if-2-clause-fault : goal.returns-in_err-shoot_if-2-clause-fault
returns-in_err-shoot_if-2-clause-fault c =
    let e = c.in_err-shoot_if-2.field-0.0 in
    let is : c.from_residual-in_err-shoot_if-2.result ≡ Err e = search (rules, c.from_residual-in_err-shoot_if-2.ensures) in
    rw is (inl c.in_err-shoot_if-2.ensures.memory)

pub returns-in_err-check-2-clause-fault : goal.returns-in_err-check-2-clause-fault
returns-in_err-check-2-clause-fault c =
    let e = c.in_err-check-2.field-0.0 in
    let is : c.from_residual-in_err-check-2.result ≡ Err e = search (rules, c.from_residual-in_err-check-2.ensures) in
    let size = c.args.size in
    let events = c.args.events.now in
    let i = c.loop-i.i in
    let event = c.index-events-i.result in
    let lt : c.loop-i.i < length c.args.events.now =
    (let below = c.loop-i-test.true in let within = c.count_until-i-end.ensures.within in omega arith) in
    let acts = map (λ (e : Event). act_of e.change) (take i events) in
    let acts_after = map (λ (e : Event). act_of e.change) (take (i + 1) events) in
    let after : ParserIsAfter c.act.new.parser c.args.size.rows.value c.args.size.cols.value 0
    (map (λ (e : Event). act_of e.change) (take (c.loop-i.i + 1) c.args.events.now)) =
    subst (λ (xs : List Act). ParserIsAfter c.act.new.parser size.rows.value size.cols.value 0 xs)
    (sym (acts_more events i event lt c.index-events-i.is))
    (subst (λ (e : Event). ParserIsAfter c.act.new.parser size.rows.value size.cols.value 0
    (acts ++ act_of e.change ∷ [])) (sym c.index-events-i.is)
    (c.in_ok-act.ensures.shows size.rows.value size.cols.value 0 acts c.loop-i.invariant.after)) in
    let taken = taken_next c.args.look.now size c.args.pace c.args.moment events c.loop-i.reel c.wait.new.self
    c.shoot_if-in-loop-i.new.reel i c.gap_before.result c.of_time.result c.may_stand-on.result
    c.screen-in-loop-i.result.now.state c.gap_before.ensures c.of_time.ensures c.wait.ensures
    c.may_stand-on.ensures
    (state_is c.act.new.parser c.screen-in-loop-i.result.now _ _ acts_after c.screen-in-loop-i.ensures after)
    c.in_ok-shoot_if-2.ensures.reel c.in_ok-shoot_if-2.ensures.shot
    c.loop-i.invariant.taken in
    let below = c.loop-i-test.true in
    let bound = c.count_until-i-end.ensures.count in
    rw is (inr (
      c.in_err-check-2.ensures.0,
      is_too_long LONGEST_FILM c.args.look.now size c.args.pace c.args.moment
          events c.shoot_if-in-loop-i.new.reel (i + 1) (omega arith) taken
          (film_longer LONGEST_FILM c.args.look.now c.args.pace.plays
          (poster_time c.args.pace c.args.events.now)
          c.shoot_if-in-loop-i.new.reel taken.is_reel c.in_err-check-2.ensures.1),
    ))

pub returns-clause-fault : goal.returns-clause-fault
returns-clause-fault c =
    let bound = c.count_until-i-end.ensures.count in
    let end : c.loop-i.i ≡ c.count_until-i-end.result = omega arith in
    fault_of_reel c.develop.result LONGEST_FILM c.args.look.now c.args.size c.args.pace c.args.moment c.args.events.now
    c.loop-i.reel c.loop-i.i (end ∙ bound) c.loop-i.invariant.taken
    (rw c.poster_time.ensures at c.develop.ensures.fault)
