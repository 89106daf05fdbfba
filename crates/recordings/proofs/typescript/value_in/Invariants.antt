use Rattle.std.proofs.Common.{◌≡◌, drop}
use Rattle.recordings.specs.Typescript.{value_named}
use Rattle.recordings.proofs.LineLemmas.{texts}
use Rattle.recordings.proofs.typescript.value_in.Given as goal

-- the first field of this name is among the lines that are left
abbrev pub invariant-loop-line : goal.invariant-loop-line
invariant-loop-line l = value_named l.name (drop l.line-index (texts l.lines)) ≡ value_named l.name (texts l.fn.lines)
