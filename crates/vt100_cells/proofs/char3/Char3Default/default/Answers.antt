use Rattle.std.proofs.Common.{◌∷◌, [], refl, arith}
use Rattle.vt100_cells.proofs.CellTextLemmas.{IsText-ascii, text_of-ascii}
use Rattle.vt100_cells.proofs.Char3Lemmas.{char3-fields_of}
use Rattle.vt100_cells.proofs.char3.Char3Default.default.Goals as goal

pub invariant_of-result : goal.invariant_of-result
invariant_of-result c =
    (char3-fields_of (record { len = 1; bytes = 32 ∷ 0 ∷ 0 ∷ [] }) 32 (omega arith) refl refl
    (IsText-ascii 32 (omega arith), text_of-ascii 32 (omega arith))).0

pub returns : goal.returns
returns c =
    (char3-fields_of (record { len = 1; bytes = 32 ∷ 0 ∷ 0 ∷ [] }) 32 (omega arith) refl refl
    (IsText-ascii 32 (omega arith), text_of-ascii 32 (omega arith))).1
