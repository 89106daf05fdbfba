use Rattle.std.proofs.Common.{◌≡◌, length}
use Rattle.std.specs.Prelude.{string_bytes}
use Rattle.vt100_core.specs.Contents.{newlines_cut}
use Rattle.vt100_core.proofs.grid.contents.trim_newlines.Given as goal

abbrev pub invariant-loop-text : goal.invariant-loop-text
invariant-loop-text l = newlines_cut (string_bytes l.text) ≡ newlines_cut (string_bytes l.initial.text)

abbrev pub decreases-loop-text : goal.decreases-loop-text
decreases-loop-text l = length (string_bytes l.text)
