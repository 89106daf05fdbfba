use Rattle.std.proofs.Common.{◌≡◌, ◌++◌, drop}
use Rattle.std.specs.Prelude.{string_bytes}
use Rattle.vt100_forms.specs.Attrs.{default_attrs}
use Rattle.screentext_command.specs.Rows.{colored_text}
use Rattle.screentext_command.proofs.rows.push_colored.Given as goal

-- with the text of the cells that are left, it is the text of all cells
abbrev pub invariant-loop-cell : goal.invariant-loop-cell
invariant-loop-cell l = string_bytes l.out ++ colored_text l.attrs (drop l.cell-index l.cells)
    ≡ string_bytes l.fn.out ++ colored_text default_attrs l.cells
