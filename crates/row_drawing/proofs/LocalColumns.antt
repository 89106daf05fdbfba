-- The first pending column is one that differs.
use Rattle.std.proofs.Common.{◌≡◌, ℕ, false, Option, Some, None, List, [], ◌∷◌}
use Rattle.row_drawing.specs.declared.pen.Erase.{Erase}
use Rattle.row_drawing.specs.declared.pen.Pen.{Pen}
use Rattle.row_drawing.specs.Writer.{goto, turn, color, print, space, back, erasing, clearing, marking}
use Rattle.row_drawing.specs.RowWriter.{RowChange, is_same, columns}
use Rattle.row_drawing.proofs.RowForms.{EachKeeps, keeps-columns}
use Rattle.std.specs.List.{AllByRecursion}
use Rattle.vt100_forms.specs.Form.{Form}

abbrev pub IsMarked : RowChange → Option Erase → Type 0
IsMarked j None = Unit {0}
IsMarked j (Some e) = is_same j e.from ≡ false

all-any : (fs : List Form) → AllByRecursion (λ _. Unit {0}) fs
all-any [] = tt
all-any (f ∷ fs) = (tt, all-any fs)

pub each-marks : (j : RowChange) → EachKeeps (λ _. Unit {0}) (λ p. IsMarked j p.erase) (λ _. Unit {0}) j
unfolding goto turn color print space back erasing clearing marking
each-marks j = record {
  goes = λ c _. record { at = λ p m. (all-any (goto j.row c p).forms, m) };
  turns = record { at = λ p m. (tt, m) };
  colors = λ k. record { at = λ p m. (all-any (color (j.new k).attrs p).forms, m) };
  waits = λ _ e _ _. (tt, record { at = λ p m. (all-any (color e.attrs p).forms, m) });
  prints = λ k b _. record { at = λ p m. ((tt, tt), m) };
  spaces = record { at = λ p m. ((tt, tt), m) };
  backs = record { at = λ p m. ((tt, tt), m) };
  erases = λ _ _ b _. record { at = λ p _. ((tt, tt), tt) };
  erases_one = λ b. record { at = λ p _. ((tt, tt), tt) };
  clears = record { at = λ p _. ((tt, tt), tt) };
  marks = λ c _ differs. record { at = λ p _. (tt, differs) };
  last = tt;
}

pub columns-marked : (j : RowChange) (n : ℕ) (p : Pen) → IsMarked j p.erase → IsMarked j (columns j n p).pen.erase
columns-marked j n p h = ((keeps-columns _ _ _ j (each-marks j) n (λ _ _. tt)).at p h).1
