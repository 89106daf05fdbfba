use Rattle.std.proofs.Common.{◌≡◌, ◌+◌, ◌≤◌, length}
use Rattle.screen_model.specs.Sgr.{read_groups}
use Rattle.vte_core.specs.Store.{each_alone}
use Rattle.vt100.proofs.screen.sgr.read_numbers.Given as goal

-- what the numbers that are left lead to, all lead to from the start
abbrev pub invariant-loop-rest : goal.invariant-loop-rest
invariant-loop-rest l = record {
  few : l.unhandled + length l.rest ≤ length l.fn.numbers;
  attrs : (read_groups (each_alone l.rest) 0 l.attrs).attrs
      ≡ (read_groups (each_alone l.fn.numbers) 0 l.fn.attrs).attrs;
  unhandled : l.unhandled + (read_groups (each_alone l.rest) 0 l.attrs).unhandled
      ≡ (read_groups (each_alone l.fn.numbers) 0 l.fn.attrs).unhandled;
}

abbrev pub decreases-loop-rest : goal.decreases-loop-rest
decreases-loop-rest l = length l.rest
