use Rattle.std.proofs.Common.{◌≡◌, ◌-◌, ◌^◌, length}
use Rattle.std.specs.Vec.{vec_items}
use Rattle.command_line.proofs.InputLemmas.{GoesOn}
use Rattle.command_line.proofs.input.read_all.Given as goal

-- the bytes are what the reads so far gave
abbrev pub invariant-reads : goal.invariant-reads
invariant-reads g l = record {
  wide : length l.room ≡ 65536;
  goes_on : GoesOn g.S.Source.gives 65536 l.fn.input (2 ^ 40) l.input (2 ^ 40 - l.counter) (vec_items l.bytes);
}
