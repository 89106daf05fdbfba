use Rattle.std.proofs.Common.{◌≡◌, ◌+◌, ◌<◌, ◌^◌, length}
use Rattle.vt100_capture.specs.Plain.{plain_pieces}
use Rattle.vt100_capture.proofs.plain.BasicFormattedToPlainIndexedIterator.next.Given as goal

abbrev pub invariant-loop-self : goal.invariant-loop-self
invariant-loop-self l =
    (plain_pieces l.self-inside.index l.self-inside.capture.now
    ≡ plain_pieces l.initial.self-inside.index l.initial.self-inside.capture.now)
    × (l.self-inside.index + length l.self-inside.capture.now < 2 ^ 64)

abbrev pub decreases-loop-self : goal.decreases-loop-self
decreases-loop-self l = length l.self-inside.capture.now
