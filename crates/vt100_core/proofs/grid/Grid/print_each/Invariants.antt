use Rattle.std.specs.Prelude.{Ok, replicate}
use Rattle.vt100_forms.specs.declared.error.GridError.{GridError}
use Rattle.vt100_core.specs.Text.{PrintsAll}
use Rattle.vt100_core.proofs.grid.Grid.print_each.Given as goal

-- the character was printed this often
abbrev pub invariant-loop-i : goal.invariant-loop-i
invariant-loop-i g l =
    PrintsAll g.S.RowSink.takes l.fn.sink l.sink l.fn.self l.self {T = Unit {0}} {E = GridError} (Ok tt)
    (replicate l._i l.c) l.attrs
