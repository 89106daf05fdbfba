use Rattle.std.proofs.Common.{◌∷◌, get_or, take}
use Rattle.std.specs.Fmt.{HasWritten, IsPlainFormatter}
use Rattle.vte_core.specs.ParamsText.{group_text}
use Rattle.vte_core.proofs.params.write_group.Given as goal

abbrev pub invariant-loop-number : goal.invariant-loop-number
invariant-loop-number g l =
    IsPlainFormatter l.fn.f
    → HasWritten g.W.Write.write_str_gives l.fn.f (group_text (get_or l.fn.group 0 0 ∷ take l.number-index l.rest)) l.f
