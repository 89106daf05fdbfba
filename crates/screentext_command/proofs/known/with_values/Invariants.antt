use Rattle.std.proofs.Common.{◌≡◌, drop, map}
use Rattle.clap.specs.Words.{app_of}
use Rattle.screentext_command.specs.Words.{value_rule, with_all}
use Rattle.screentext_command.proofs.known.with_values.Given as goal

-- the rest of the names makes of it what all of them make of the command
abbrev pub invariant-loop-name : goal.invariant-loop-name
invariant-loop-name l =
    with_all value_rule (app_of l.known) (map (λ w. w.now) (drop l.name-index l.names))
    ≡ with_all value_rule (app_of l.initial.known) (map (λ w. w.now) l.names)
