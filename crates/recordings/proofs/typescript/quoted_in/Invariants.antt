use Rattle.std.proofs.Common.{◌≡◌, drop}
use Rattle.recordings.specs.Typescript.{quoted_side}
use Rattle.recordings.proofs.LineLemmas.{texts}
use Rattle.recordings.proofs.typescript.quoted_in.Given as goal

-- the first such word is among the words that are left
abbrev pub invariant-loop-word : goal.invariant-loop-word
invariant-loop-word l =
    quoted_side l.start (drop l.word-index (texts l.words)) ≡ quoted_side l.start (texts l.fn.words)
