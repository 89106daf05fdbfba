use Rattle.std.proofs.Common.{sym, ◌∙◌}
use Rattle.vt100_cells.specs.CellEq.{cell_eq-true, cell_eq-of_same}
use Rattle.vt100_cells.proofs.cell.CellPartialEq.eq.Goals as goal

pub returns-clause-same : goal.returns-clause-same
returns-clause-same c = (
  λ h. cell_eq-true c.args.self.now c.args.other.now (sym c.is_same.ensures ∙ h),
  λ e. c.is_same.ensures ∙ cell_eq-of_same c.args.self.now c.args.other.now e,
)
