use Rattle.std.proofs.Common.{◌≡◌, ◌+◌, arith, refl}
use Rattle.vte_core.specs.declared.table.TheConstants.{CLASSES}
use Rattle.vte_core.specs.declared.table.Class.TheVariants.{Control}
use Rattle.vte_core.proofs.Tables.{entry}
use Rattle.vte_core.proofs.table.class_of.Goals as goal

pub returns : goal.returns
returns c = let e : 0 + c.args.byte ≡ c.args.byte = omega arith
    in rw e at (entry Control 0 CLASSES c.args.byte refl (omega arith))
