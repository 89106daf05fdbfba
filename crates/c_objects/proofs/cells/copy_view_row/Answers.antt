use Rattle.std.proofs.Common.{arith, sym}
use Rattle.termview.specs.Standing.{shown_by}
use Rattle.c_objects.proofs.Prefixes.{positioned-more, positioned-all}
use Rattle.c_objects.specs.Looks.{cell_of}
use Rattle.c_objects.proofs.cells.copy_view_row.Goals as goal

pub loop-col-preserved : goal.loop-col-preserved
loop-col-preserved c =
    positioned-more cell_of ((shown_by c.args.view.now).cell c.args.row) c.args.cols c.args.to.now c.loop-col.to
    c.loop-col.col c.set_view_cell.new.to (omega arith) (omega arith) c.set_view_cell.ensures c.loop-col.invariant

pub returns : goal.returns
returns c =
    positioned-all cell_of ((shown_by c.args.view.now).cell c.args.row) c.args.cols c.args.to.now c.loop-col.to
    c.loop-col.col c.min-n.result (rw (sym c.from.ensures) c.min-n.ensures) (omega arith) (omega arith) c.loop-col.invariant
