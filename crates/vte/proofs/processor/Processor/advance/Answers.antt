use Rattle.vte.specs.Hold.{held_of}
use Rattle.vte.proofs.TurnLemmas.{goes_on_at_start, goes_on_more, advanced_at_end}
use Rattle.vte.proofs.ExactLemmas.{taken}
use Rattle.vte.proofs.processor.Processor.advance.Goals as goal

pub loop-read-init : goal.loop-read-init
loop-read-init g c parsed held at = goes_on_at_start at

pub loop-read-preserved : goal.loop-read-preserved
loop-read-preserved g c parsed held at =
    let so_far = c.loop-read.invariant parsed held at in
    rw c.past-rest.ensures (goes_on_more so_far (c.in-Some.ensures.led so_far.parsed' so_far.held' so_far.state_after))

pub returns-clause-advanced : goal.returns-clause-advanced
returns-clause-advanced g c parsed held at =
    let so_far = c.loop-read.invariant parsed held at in
    advanced_at_end so_far (c.in_default.ensures.led so_far.parsed' so_far.held' so_far.state_after)

pub returns-clause-exact : goal.returns-clause-exact
returns-clause-exact g c parsed hold exact at =
    let so_far = c.loop-read.invariant parsed (held_of hold) at.state_after in
    taken g.T.Timeout.ticking exact g.H.Handler.step _ parsed hold _ _ _ _ at
    (advanced_at_end so_far (c.in_default.ensures.led so_far.parsed' so_far.held' so_far.state_after))
