-- What is true of each single form that draws a row, and of the pen after it, is true of the whole row.
use Rattle.std.proofs.Common.{◌≡◌, ℕ, zero, suc, ◌+◌, ◌-◌, ◌<◌, ◌==◌, Bool, true, false, cond, not, ◌&&◌, Option, Some}
use Rattle.std.proofs.Common.{None, refl, arith, nat_lt, List, [], ◌∷◌}
use Rattle.std.specs.List.{AllByRecursion}
use Rattle.std.proofs.lemmas.Bool.{cond_both, and_parts, eqb-true}
use Rattle.vt100_forms.specs.declared.attrs.Attrs.{Attrs}
use Rattle.vt100_forms.specs.declared.position.Pos.{Pos}
use Rattle.vt100_forms.specs.Attrs.{attrs_eq, default_attrs}
use Rattle.vt100_forms.specs.Form.{Form, MoveTo, MoveRight, ClearAttrs, Crlf, Sgr, changed_attrs, change, moves}
use Rattle.terminal_model.proofs.PlainText.{all-append}
use Rattle.vt100_cells.specs.Cell.{has_text}
use Rattle.vt100_cells.specs.Line.{span_of}
use Rattle.row_drawing.specs.declared.pen.Erase.{Erase}
use Rattle.row_drawing.specs.declared.pen.Pen.{Pen}
use Rattle.row_drawing.specs.Writer.{Drawn, Writer, ◌>>◌, skip, goto, turn, color, print, space, back, erasing}
use Rattle.row_drawing.specs.Writer.{clearing, marking}
use Rattle.row_drawing.specs.RowWriter.{RowChange, is_same, wraps, owes_flag, reprint, opening, to_erase, is_end}
use Rattle.row_drawing.specs.RowWriter.{flush_of}
use Rattle.row_drawing.specs.RowWriter.{flush, finish_of, finish, arrive, mark_of, mark, draw, column, columns}
use Rattle.row_drawing.specs.RowWriter.{last_col_of, unflag, print_last, mend, owes_end, closing}
use Rattle.row_drawing.specs.RowWriter.{row_redraw, row_difference}

-- ---- the forms of a move and of a change

pub moves-cases : (P : List Form → Type 0) (p q : Pos) → (q.row ≡ p.row + 1 → P (Crlf ∷ [])) → P []
    → P (MoveRight (q.col - p.col) ∷ []) → P (MoveTo q.row q.col ∷ []) → P (moves p q)
moves-cases P p q below none right anywhere =
    cond_both ((q.row == p.row + 1) && (q.col == 0)) (Crlf ∷ []) _ P
    (λ e. below (eqb-true q.row (p.row + 1) (and_parts (q.row == p.row + 1) (q.col == 0) e).0))
    (λ _. cond_both ((p.row == q.row) && (p.col == q.col)) [] _ P (λ _. none)
    (λ _. cond_both ((p.row == q.row) && nat_lt p.col q.col) (MoveRight (q.col - p.col) ∷ []) (MoveTo q.row q.col ∷ [])
    P (λ _. right) (λ _. anywhere)))

pub change-cases : (P : List Form → Type 0) (old new : Attrs) → P [] → P (ClearAttrs ∷ [])
    → P (Sgr (changed_attrs old new) ∷ []) → P (change old new)
change-cases P old new none clears some =
    cond_both (attrs_eq new old) [] _ P (λ _. none)
    (λ _. cond_both (attrs_eq new default_attrs) (ClearAttrs ∷ []) (Sgr (changed_attrs old new) ∷ []) P (λ _. clears)
    (λ _. some))

-- ---- a row's forms

abbrev pub AreKept : (Form → Type 0) → (Pen → Type 0) → Drawn → Type 0
AreKept Q I d = AllByRecursion Q d.forms × I d.pen

-- for a pen with I, the writer appends forms with Q, and the pen keeps I
pub record Keeps (Q : Form → Type 0) (I : Pen → Type 0) (f : Writer) : Type 0 where
  pub at : (p : Pen) → I p → AreKept Q I (f p)

keeps-then : {Q : Form → Type 0} {I : Pen → Type 0} {f g : Writer} → Keeps Q I f → Keeps Q I g → Keeps Q I (f >> g)
unfolding ◌>>◌
keeps-then {Q = Q} {f = f} {g = g} a b = record {
  at = λ p s.
      let x = a.at p s in
      let y = b.at (f p).pen x.1 in
      (all-append Q (f p).forms (g (f p).pen).forms x.0 y.0, y.1);
}

keeps-skip : {Q : Form → Type 0} {I : Pen → Type 0} → Keeps Q I skip
unfolding skip
keeps-skip = record { at = λ p s. (tt, s) }

keeps-either : {Q : Form → Type 0} {I : Pen → Type 0} (b : Bool) {f g : Writer} → (b ≡ true → Keeps Q I f)
    → (b ≡ false → Keeps Q I g) → Keeps Q I (cond b f g)
keeps-either {Q = Q} {I = I} b {f = f} {g = g} h k = cond_both b f g (Keeps Q I) h k

-- where the test asks for the pen
kept-here : {Q : Form → Type 0} {I : Pen → Type 0} (b : Bool) (p : Pen) {f g : Writer} → Keeps Q I f → Keeps Q I g
    → I p → AreKept Q I (cond b (f p) (g p))
kept-here {Q = Q} {I = I} b p {f = f} {g = g} h k s =
    cond_both b (f p) (g p) (AreKept Q I) (λ _. h.at p s) (λ _. k.at p s)

-- the single writers of a row keep Q and I; the columns that they name fulfil B
pub record EachKeeps (Q : Form → Type 0) (I : Pen → Type 0) (B : ℕ → Type 0) (j : RowChange) : Type 0 where
  pub goes : (c : ℕ) → B c → Keeps Q I (goto j.row c)
  pub turns : Keeps Q I (turn j.row)
  pub colors : (k : ℕ) → Keeps Q I (color (j.new k).attrs)
  pub waits : (p : Pen) (e : Erase) → p.erase ≡ Some e → I p → B e.from × Keeps Q I (color e.attrs)
  pub prints : (k : ℕ) (b : Bool) → has_text (j.new k) ≡ true → Keeps Q I (print (j.new k) b)
  pub spaces : Keeps Q I space
  pub backs : Keeps Q I back
  pub erases : (c m : ℕ) (b : Bool) → B c → Keeps Q I (erasing (c - m) b)
  pub erases_one : (b : Bool) → Keeps Q I (erasing 1 b)
  pub clears : Keeps Q I clearing
  pub marks : (c : ℕ) → B c → is_same j c ≡ false → Keeps Q I (marking c (j.new c).attrs)
  pub last : B (last_col_of j)

module _ (Q : Form → Type 0) (I : Pen → Type 0) (B : ℕ → Type 0) (j : RowChange) (each : EachKeeps Q I B j) where
  keeps-reprint : (k : ℕ) → Keeps Q I (reprint j (j.new k))
  unfolding reprint
  keeps-reprint k =
      keeps-either (has_text (j.new k))
      (λ some. keeps-then (each.prints k false some) (keeps-either (j.new k).wide
      (λ _. keeps-then each.backs each.backs)
      (λ _. each.backs)))
      (λ _. keeps-then (keeps-then each.spaces each.backs) (each.erases_one _))

  pub keeps-opening : Keeps Q I (opening j)
  unfolding opening
  keeps-opening = record {
    at = λ p s. kept-here (owes_flag j p) p
        (keeps-then (keeps-then each.turns (each.colors j.start)) (keeps-reprint j.start)) keeps-skip s;
  }

  keeps-to_erase : (e : Erase) → B e.from × Keeps Q I (color e.attrs) → Keeps Q I (to_erase j e)
  unfolding to_erase
  keeps-to_erase e w = record {
    at = λ p s. kept-here (wraps j 1 p && (e.from == 0)) p
        (keeps-then (keeps-then (keeps-then each.turns each.spaces) each.backs) w.1)
        (keeps-then (each.goes e.from w.0) w.1) s;
  }

  keeps-flush_of : (c : ℕ) (o : Option Erase) → B c
      → ((e : Erase) → o ≡ Some e → B e.from × Keeps Q I (color e.attrs)) → Keeps Q I (flush_of j c o)
  unfolding flush_of
  keeps-flush_of c None b w = keeps-skip
  keeps-flush_of c (Some e) b w =
      keeps-either (is_end (j.new c) e.attrs)
      (λ _. keeps-then (keeps-to_erase e (w e refl)) (each.erases c e.from _ b)) (λ _. keeps-skip)

  keeps-flush : (c : ℕ) → B c → Keeps Q I (flush j c)
  unfolding flush
  keeps-flush c b = record { at = λ p s. (keeps-flush_of c p.erase b (λ e is. each.waits p e is s)).at p s }

  keeps-finish_of : (o : Option Erase) → ((e : Erase) → o ≡ Some e → B e.from × Keeps Q I (color e.attrs))
      → Keeps Q I (finish_of j o)
  unfolding finish_of
  keeps-finish_of None w = keeps-skip
  keeps-finish_of (Some e) w = keeps-then (keeps-to_erase e (w e refl)) each.clears

  keeps-finish : Keeps Q I (finish j)
  unfolding finish
  keeps-finish = record { at = λ p s. (keeps-finish_of p.erase (λ e is. each.waits p e is s)).at p s }

  keeps-arrive : (c n : ℕ) → B c → Keeps Q I (arrive j c n)
  unfolding arrive
  keeps-arrive c n b = record { at = λ p s. kept-here (wraps j n p && (c == 0)) p each.turns (each.goes c b) s }

  keeps-mark_of : (c : ℕ) (o : Option Erase) → B c → is_same j c ≡ false → Keeps Q I (mark_of j c o)
  unfolding mark_of
  keeps-mark_of c None b differs = each.marks c b differs
  keeps-mark_of c (Some e) b differs = keeps-skip

  keeps-mark : (c : ℕ) → B c → is_same j c ≡ false → Keeps Q I (mark j c)
  unfolding mark
  keeps-mark c b differs = record { at = λ p s. (keeps-mark_of c p.erase b differs).at p s }

  keeps-draw : (c : ℕ) → B c → Keeps Q I (draw j c)
  unfolding draw
  keeps-draw c b =
      keeps-either (is_same j c) (λ _. keeps-skip)
      (λ differs. keeps-either (has_text (j.new c))
      (λ some. keeps-then (keeps-then (keeps-arrive c (span_of (j.new c)) b) (each.colors c)) (each.prints c _ some))
      (λ _. keeps-mark c b differs))

  keeps-column : (c : ℕ) → B c → Keeps Q I (column j c)
  unfolding column
  keeps-column c b =
      keeps-either ((j.new c).continuation && not (c == j.start)) (λ _. keeps-skip)
      (λ _. keeps-then (keeps-flush c b) (keeps-draw c b))

  pub keeps-columns : (n : ℕ) → ((c : ℕ) → c < j.start + n → B c) → Keeps Q I (columns j n)
  unfolding columns
  keeps-columns zero b = keeps-skip
  keeps-columns (suc n) b =
      keeps-then (keeps-columns n (λ c low. b c (omega arith))) (keeps-column (j.start + n) (b _ (omega arith)))

  keeps-print_last : (k : ℕ) → Keeps Q I (print_last (j.new k))
  unfolding print_last
  keeps-print_last k =
      keeps-either (has_text (j.new k)) (λ some. keeps-then (each.colors k) (each.prints k false some))
      (λ _. keeps-skip)

  keeps-unflag : (k : ℕ) → Keeps Q I (unflag (j.new k))
  unfolding unflag
  keeps-unflag k =
      keeps-either (has_text (j.new k)) (λ _. each.erases_one true)
      (λ _. keeps-then (each.colors k) (each.erases_one true))

  keeps-mend : (k : ℕ) → Keeps Q I (mend j (j.new k))
  unfolding mend
  keeps-mend k =
      keeps-either j.wrapped (λ _. keeps-print_last k) (λ _. keeps-then (keeps-unflag k) (keeps-print_last k))

  keeps-closing : Keeps Q I (closing j)
  unfolding closing
  keeps-closing = record {
    at = λ p s. kept-here (owes_end j p) p
        (keeps-then (each.goes (last_col_of j) each.last) (keeps-mend (last_col_of j))) keeps-skip s;
  }

  pub keeps-redraw : (n : ℕ) → ((c : ℕ) → c < j.start + n → B c) → Keeps Q I (row_redraw j n)
  unfolding row_redraw
  keeps-redraw n b = keeps-then (keeps-then keeps-opening (keeps-columns n b)) keeps-finish

  pub keeps-difference : (n : ℕ) → ((c : ℕ) → c < j.start + n → B c) → Keeps Q I (row_difference j n)
  unfolding row_difference
  keeps-difference n b = keeps-then (keeps-redraw n b) keeps-closing
