use Rattle.std.proofs.Common.{◌≡◌, ◌++◌, take}
use Rattle.std.specs.Prelude.{string_bytes}
use Rattle.screentext_command.specs.Rows.{plain_text}
use Rattle.screentext_command.proofs.rows.push_plain.Given as goal

abbrev pub invariant-loop-cell : goal.invariant-loop-cell
invariant-loop-cell l = string_bytes l.out ≡ string_bytes l.fn.out ++ plain_text (take l.cell-index l.cells)
