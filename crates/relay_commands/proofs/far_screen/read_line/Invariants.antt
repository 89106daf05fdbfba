use Rattle.std.proofs.Common.{◌≡◌, ◌++◌, List, ℕ}
use Rattle.std.specs.List.{concat}
use Rattle.relay_streams.specs.Led.{Led}
use Rattle.relay_commands.proofs.far_screen.read_line.Given as goal

-- the view was given the pieces so far, and the rest follows
abbrev pub invariant-loop-bytes : goal.invariant-loop-bytes
invariant-loop-bytes l = record {
  past : List (List ℕ);
  led : Led l.fn.view past l.view;
  follows : l.fn.line ≡ concat past ++ l.bytes-iterator.rest.now;
}
