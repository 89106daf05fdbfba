-- After the start of a row no column is pending.
use Rattle.std.proofs.Common.{◌≡◌, None, sym, subst}
use Rattle.row_drawing.specs.declared.pen.Pen.{Pen}
use Rattle.row_drawing.specs.RowWriter.{RowChange, opening}
use Rattle.row_drawing.proofs.RowForms.{keeps-opening}
use Rattle.row_drawing.proofs.LocalColumns.{IsMarked, each-marks}

-- no column is pending after it
pub opening-marked : (j : RowChange) (p : Pen) → p.erase ≡ None → IsMarked j (opening j p).pen.erase
opening-marked j p none = ((keeps-opening _ _ _ j (each-marks j)).at p (subst (IsMarked j) (sym none) tt)).1
