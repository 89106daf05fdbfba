use Rattle.std.proofs.Common.{◌∙◌, ◌++◌, [], Option, ap, ap₂, refl, sym}
use Rattle.std.specs.Option.{option_map}
use Rattle.std.proofs.lemmas.List.{append-nil}
use Rattle.recordings.specs.Recorded.{deed_of, reached, said, with_deed}
use Rattle.recordings.specs.declared.recording.Change.{Change}
use Rattle.recordings.proofs.RowLemmas.{said-append, state_after_further}
use Rattle.recordings.proofs.timeline.Timeline.push.Goals as goal

pub returns-in_ok-push-in-Some : goal.returns-in_ok-push-in-Some
returns-in_ok-push-in-Some c = λ pace rows s.
    state_after_further pace rows c.args.self.now _ c.args.time (option_map deed_of c.args.change) s refl
    c.reach-self.ensures
    (ap said c.in_ok-push-in-Some.ensures.items ∙ (said-append _ _ ∙ ap (λ ms. said c.args.self.now.events.items ++ ms)
    (ap₂ (λ n (o : Option Change). with_deed n (option_map deed_of o) []) c.reach-self.ensures (sym c.in-Some.is))))

pub returns-in-None : goal.returns-in-None
returns-in-None c = λ pace rows s.
    state_after_further pace rows c.args.self.now _ c.args.time (option_map deed_of c.args.change) s refl
    c.reach-self.ensures
    (sym (ap (λ (o : Option Change). said c.args.self.now.events.items
    ++ with_deed (reached c.args.self.now.pace c.args.self.now.time c.args.time) (option_map deed_of o) [])
    c.in-None.is
    ∙ append-nil (said c.args.self.now.events.items)))
