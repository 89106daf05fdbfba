use Rattle.std.proofs.Common.{◌≡◌, ◌∙◌, ◌+◌, ◌∷◌, ◌++◌, [], ℕ, List, Option, take, ap, sym, refl, subst, arith}
use Rattle.std.specs.Borrow.{Bor}
use Rattle.std.specs.Option.{option_map}
use Rattle.std.specs.Prelude.{option_and_then}
use Rattle.std.proofs.lemmas.List.{length-map, take_all}
use Rattle.recordings.specs.Recorded.{IsStateAfter}
use Rattle.recordings.specs.Typescript.{Step, events_of, step_said, taken}
use Rattle.recordings.specs.declared.timeline.Pace.TheVariants.{FromLast}
use Rattle.recordings.specs.declared.timeline.Timeline.{Timeline}
use Rattle.recordings.proofs.LineLemmas.{texts}
use Rattle.recordings.proofs.TypescriptLemmas.{next_step, stopped}
use Rattle.recordings.proofs.typescript.read_steps.Goals as goal

pub returns-in_default : goal.returns-in_default
returns-in_default c =
    let inv = c.loop-index.invariant in
    let left = c.loop-index.left.now in
    stopped c.args.shared c.args.output.now c.args.lines.now c.loop-index.index (c.loop-index.index + 1) _ inv.0 left
    c.loop-index.timeline (omega arith) refl inv.1
    (ap (λ (o : Option Step). option_and_then (taken left) o) (sym c.in_ok-step.ensures ∙ ap (option_map step_said)
    c.in_default.is))
    inv.2

pub returns-in-None : goal.returns-in-None
returns-in-None c =
    let inv = c.loop-index.invariant in
    let left = c.loop-index.left.now in
    let none = rw c.in-None.is at c.in_ok-left.ensures in
    stopped c.args.shared c.args.output.now c.args.lines.now c.loop-index.index (c.loop-index.index + 1) _ inv.0 left
    c.push_step.new.timeline (omega arith) refl inv.1
    (ap (λ (o : Option Step). option_and_then (taken left) o) (sym c.in_ok-step.ensures ∙ ap (option_map step_said)
    c.in-Some.is)
    ∙ none.0)
    (subst (λ (t : Timeline). IsStateAfter FromLast inv.0 t) (sym none.1) inv.2)

pub loop-index-preserved : goal.loop-index-preserved
loop-index-preserved c =
    let inv = c.loop-index.invariant in
    let left = c.loop-index.left.now in
    let got = rw c.in-Some-2.is at c.in_ok-left.ensures in (
      inv.0 ++ got.0 ∷ [],
      next_step c.args.shared c.args.output.now c.args.lines.now c.loop-index.index _ inv.0 left got.0
          c.in-Some-2.left.now (omega arith) inv.1
          (ap (λ (o : Option Step). option_and_then (taken left) o)
          (sym c.in_ok-step.ensures ∙ ap (option_map step_said) c.in-Some.is) ∙ got.1),
      got.2 inv.0 inv.2,
    )

pub returns : goal.returns
returns c =
    let inv = c.loop-index.invariant in
    let items = c.args.lines.now in
    let n = length-map items (λ (x : Bor (List ℕ)). x.now) in
    let all : take c.loop-index.index (texts items) ≡ texts items = take_all c.loop-index.index (texts items)
    (omega (arith, n)) in
    (inv.0, c.loop-index.left.now, ap (events_of c.args.shared c.args.output.now) (sym all) ∙ inv.1, inv.2)
