use Rattle.std.proofs.Common.{◌≡◌, ◌++◌, ◌+◌, ◌∷◌, [], sym, ap, ◌∙◌, append_assoc, take, subst}
use Rattle.std.proofs.lemmas.List.{take_more}
use Rattle.vt100.specs.Parsing.{ParserIsAfter}
use Rattle.recorded_screen.specs.Moment.{acts_until}
use Rattle.recorded_screen.proofs.MomentLemmas.{acts_until-append}
use Rattle.recorded_screen.proofs.moment.play.Goals as goal

pub loop-event-preserved : goal.loop-event-preserved
loop-event-preserved c = record {
  live = c.in_ok-step.ensures.live;
  shows = λ rows cols capacity acts state_after.
      let es = c.args.events.now in
      let i = c.loop-event.event-index in
      let m = c.args.moment in
      let e = c.event-item.result in
      let more : take (i + 1) es ≡ take i es ++ e ∷ [] =
      take_more es i e c.loop-event-test.true ∙ ap (λ x. take i es ++ x ∷ []) (sym c.event-item.is) in
      let joined : acts ++ acts_until m (take (i + 1) es) ≡ (acts ++ acts_until m (take i es))
      ++ acts_until m (e ∷ []) =
      ap (λ xs. acts ++ acts_until m xs) more ∙ ap (λ ys. acts ++ ys) (acts_until-append m (take i es) (e ∷ []))
      ∙ sym (append_assoc acts (acts_until m (take i es)) (acts_until m (e ∷ []))) in
      subst (λ xs. ParserIsAfter c.step.new.parser rows cols capacity xs) (sym joined)
      (c.in_ok-step.ensures.shows rows cols capacity (acts ++ acts_until m (take i es))
      (c.loop-event.invariant.shows rows cols capacity acts state_after));
}
