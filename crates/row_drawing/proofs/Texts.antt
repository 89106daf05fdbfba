-- A row is drawn by forms that set no mode, and the texts among them are spaces and texts of its cells.
use Rattle.std.proofs.Common.{◌≡◌, ℕ, true, List, [], ◌∷◌, refl, inl, inr, ◌++◌}
use Rattle.vt100_forms.specs.declared.attrs.Attrs.{Attrs}
use Rattle.vt100_forms.specs.declared.position.Pos.{Pos}
use Rattle.vt100_forms.specs.Form.{change, moves}
use Rattle.std.specs.List.{AllByRecursion}
use Rattle.terminal_model.proofs.PlainText.{all-append}
use Rattle.vt100_cells.specs.Cell.{CellView, has_text}
use Rattle.row_drawing.specs.declared.pen.Pen.{Pen}
use Rattle.row_drawing.specs.Writer.{Writer, skip, goto, turn, color, print, space, back, erasing, clearing, marking}
use Rattle.row_drawing.specs.RowWriter.{RowChange, row_redraw, row_difference}
use Rattle.row_drawing.specs.Texts.{IsDrawing, AllDrawing, IsTextOf}
use Rattle.row_drawing.specs.Laws.{EachTextIsDrawn}
use Rattle.row_drawing.proofs.RowForms.{moves-cases, change-cases, EachKeeps, keeps-redraw, keeps-difference}

-- ---- lists and writers

pub all-join : {X : Type 0} (Q : X → Type 0) (xs ys : List X) → AllByRecursion Q xs → AllByRecursion Q ys
    → AllByRecursion Q (xs ++ ys)
all-join Q xs ys h g = all-append Q xs ys h g

abbrev pub Draws : (List ℕ → Type 0) → Writer → Type 0
Draws P f = (p : Pen) → AllDrawing P (f p).forms

-- ---- single forms

pub moves-drawing : (P : List ℕ → Type 0) (p q : Pos) → AllDrawing P (moves p q)
moves-drawing P p q = moves-cases (AllDrawing P) p q (λ _. (tt, tt)) tt (tt, tt) (tt, tt)

pub change-drawing : (P : List ℕ → Type 0) (old new : Attrs) → AllDrawing P (change old new)
change-drawing P old new = change-cases (AllDrawing P) old new tt (tt, tt) (tt, tt)

pub draws-skip : (P : List ℕ → Type 0) → Draws P skip
unfolding skip
draws-skip P p = tt

-- ---- a row

-- P is true of a space and of each text of a row's cells
pub record AreTexts (P : List ℕ → Type 0) (f : ℕ → CellView) : Type 0 where
  pub space : P (32 ∷ [])
  pub cells : (k : ℕ) → has_text (f k) ≡ true → P (f k).text

each-draws : (P : List ℕ → Type 0) (j : RowChange) → AreTexts P j.new
    → EachKeeps (IsDrawing P) (λ _. Unit {0}) (λ _. Unit {0}) j
unfolding goto turn color print space back erasing clearing marking
each-draws P j h = record {
  goes = λ c _. record { at = λ p _. (moves-drawing P p.pos (record { row = j.row; col = c }), tt) };
  turns = record { at = λ _ _. (tt, tt) };
  colors = λ k. record { at = λ p _. (change-drawing P p.attrs (j.new k).attrs, tt) };
  waits = λ _ e _ _. (tt, record { at = λ p _. (change-drawing P p.attrs e.attrs, tt) });
  prints = λ k _ some. record { at = λ _ _. ((h.cells k some, tt), tt) };
  spaces = record { at = λ _ _. ((h.space, tt), tt) };
  backs = record { at = λ _ _. ((tt, tt), tt) };
  erases = λ _ _ _ _. record { at = λ _ _. ((tt, tt), tt) };
  erases_one = λ _. record { at = λ _ _. ((tt, tt), tt) };
  clears = record { at = λ _ _. ((tt, tt), tt) };
  marks = λ _ _ _. record { at = λ _ _. (tt, tt) };
  last = tt;
}

pub draws-row_redraw : (P : List ℕ → Type 0) (j : RowChange) (n : ℕ) → AreTexts P j.new → Draws P (row_redraw j n)
draws-row_redraw P j n h p = ((keeps-redraw _ _ _ j (each-draws P j h) n (λ _ _. tt)).at p tt).0

pub draws-row_difference : (P : List ℕ → Type 0) (j : RowChange) (n : ℕ) → AreTexts P j.new
    → Draws P (row_difference j n)
draws-row_difference P j n h p = ((keeps-difference _ _ _ j (each-draws P j h) n (λ _ _. tt)).at p tt).0

row-texts : (f : ℕ → CellView) → AreTexts (IsTextOf f) f
row-texts f = record { space = inl refl; cells = λ k some. inr (k, some, refl) }

pub texts-drawn : EachTextIsDrawn
texts-drawn j n p =
    let texts = row-texts j.new in
    (draws-row_redraw (IsTextOf j.new) j n texts p, draws-row_difference (IsTextOf j.new) j n texts p)
