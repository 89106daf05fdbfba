use Rattle.std.proofs.Common.{◌≡◌, ◌++◌, map, drop}
use Rattle.std.specs.String.{string_bytes}
use Rattle.std.specs.Vec.{vec_items}
use Rattle.command_line.proofs.args.lend.Given as goal

-- the result has the arguments so far
abbrev pub invariant-loop-word : goal.invariant-loop-word
invariant-loop-word l = map (λ w. w.now) (vec_items l.lent) ++ map string_bytes (drop l.word-index l.words)
    ≡ map string_bytes l.words
