use Rattle.std.specs.Prelude.{◌≡◌, ◌*◌, Ok, replicate}
use Rattle.vt100_forms.specs.declared.error.GridError.{GridError}
use Rattle.vt100_core.specs.Grid.{KeptPart, GridView}
use Rattle.vt100_core.specs.Text.{PrintsAll}
use Rattle.vt100_core.proofs.RepeatLemmas.{first_alone}
use Rattle.vt100_core.proofs.grid.Grid.print_settled.Given as goal

-- `_i` rows of the character are printed, by which only what is kept has changed
abbrev pub invariant-loop-i : goal.invariant-loop-i
invariant-loop-i g l = record {
  printed : PrintsAll g.S.RowSink.takes l.fn.sink l.sink l.fn.self l.self {T = Unit {0}} {E = GridError} (Ok tt)
      (replicate (l._i * l.per_row) l.c) l.attrs;
  alike : l.self ≡ record (l.fn.self) { kept = l.self.kept };
  spare : l.spare ≡ first_alone l.fn.self;
}
