use Rattle.std.proofs.Common.{map, arith}
use Rattle.std.proofs.lemmas.List.{length-map}
use Rattle.c_objects.proofs.Prefixes.{mapped-more, copied-all}
use Rattle.c_objects.specs.Looks.{cell_of}
use Rattle.c_objects.proofs.cells.copy_cells.Goals as goal

pub loop-i-preserved : goal.loop-i-preserved
loop-i-preserved c =
    mapped-more cell_of c.args.cells.now c.args.to.now c.loop-i.to c.loop-i.i c.index-cells-i.result c.set_cell.new.to
    (omega arith) (omega arith) c.index-cells-i.is c.set_cell.ensures c.loop-i.invariant

pub returns : goal.returns
returns c =
    copied-all (map cell_of c.args.cells.now) c.args.to.now c.loop-i.to c.loop-i.i c.min-n.result
    (rw length-map c.min-n.ensures) (omega arith) (omega arith) c.loop-i.invariant
