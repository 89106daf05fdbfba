use Rattle.std.proofs.Common.{drop, Result}
use Rattle.std.specs.declared.io.Error.{Error}
use Rattle.std.specs.List.{flat_map}
use Rattle.byte_streams.specs.Sent.{SendsText}
use Rattle.screentext_command.proofs.streams.tell.Given as goal

-- what writes the rest of the line writes the whole
abbrev pub invariant-loop-part : goal.invariant-loop-part
invariant-loop-part g l =
    (t : _) (answer : Result (Unit {0}) Error)
    → SendsText g.V.ByteSink.takes l.errors (flat_map (λ part. part.now) (drop l.part-index l.parts)) answer t
    → SendsText g.V.ByteSink.takes l.initial.errors (flat_map (λ part. part.now) l.parts) answer t
