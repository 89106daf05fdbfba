use Rattle.std.proofs.Common.{ℕ, List, length}
use Rattle.vte.specs.Standing.{IsStateAfter, GoesOn}
use Rattle.vte.proofs.processor.Processor.advance.Given as goal

-- the part of the piece that was read, after which the rest is read
abbrev pub invariant-loop-read : goal.invariant-loop-read
invariant-loop-read g l =
    (parsed held : List ℕ) → IsStateAfter l.initial.self parsed held
    → GoesOn g.T.Timeout.ticking g.H.Handler.step l.initial.self parsed held
    l.initial.rest l.rest l.initial.handler l.self l.handler

abbrev pub decreases-loop-read : goal.decreases-loop-read
decreases-loop-read g l = length l.rest
