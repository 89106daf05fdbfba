use Rattle.std.proofs.Common.{ℕ, List, ◌++◌, take}
use Rattle.vte_core.specs.Store.{ReadsOsc}
use Rattle.vte_core.proofs.osc_data.OscData.read.Given as goal

abbrev pub invariant-loop-byte : goal.invariant-loop-byte
invariant-loop-byte g l =
    (s : List ℕ) → ReadsOsc g.row.N l.initial.self s → ReadsOsc g.row.N l.self (s ++ take l.byte-index l.byte-items)
