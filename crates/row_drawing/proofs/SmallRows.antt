-- The numbers of the forms that draw a row fit in the code's types.
use Rattle.std.proofs.Common.{ℕ, ◌+◌, ◌-◌, ◌<◌, ◌≤◌, Some, None, arith, subst}
use Rattle.std.specs.Prelude.{◌^◌}
use Rattle.std.proofs.lemmas.Bool.{cond_both}
use Rattle.vt100_forms.specs.declared.attrs.Attrs.{Attrs}
use Rattle.vt100_forms.specs.declared.attrs.Color.{Color}
use Rattle.vt100_forms.specs.declared.position.Pos.{Pos}
use Rattle.vt100_forms.specs.Attrs.{color_eq, IsByteColor, HasByteColors}
use Rattle.vt100_forms.specs.Form.{changed_color, change, moves}
use Rattle.vt100_forms.specs.Length.{IsByteOption, HasSmallNumbers}
use Rattle.row_drawing.specs.declared.pen.Pen.{Pen}
use Rattle.row_drawing.specs.Writer.{Writer, skip, goto, turn, color, print, space, back, erasing, clearing, marking}
use Rattle.row_drawing.specs.RowWriter.{RowChange, last_col_of, row_redraw, row_difference}
use Rattle.row_drawing.proofs.RowForms.{moves-cases, change-cases, EachKeeps, keeps-redraw, keeps-difference}
use Rattle.row_drawing.specs.Small.{AreSmall, SmallErase, IsSmallPen, IsSmallJob, IsSmallDrawn, EachNumberIsSmall}

pub moves-small : (p q : Pos) → q.row < 2 ^ 16 → q.col < 2 ^ 16 → AreSmall (moves p q)
moves-small p q hr hc = moves-cases AreSmall p q (λ _. (tt, tt)) tt (omega (arith, hc), tt) ((hr, hc), tt)

changed-small : (old new : Color) → IsByteColor new → IsByteOption (changed_color old new)
changed-small old new h = cond_both (color_eq new old) None (Some new) IsByteOption (λ _. tt) (λ _. h)

pub change-small : (old new : Attrs) → HasByteColors new → AreSmall (change old new)
change-small old new h =
    change-cases AreSmall old new tt (tt, tt)
    ((changed-small old.fgcolor new.fgcolor h.0, changed-small old.bgcolor new.bgcolor h.1), tt)

-- ---- writers

abbrev pub Small : Writer → Type 0
Small f = (p : Pen) → IsSmallPen p → IsSmallDrawn (f p)

pub small-skip : Small skip
unfolding skip
small-skip p s = record { forms = tt; pen = s }

-- ---- a row

last-within : (j : RowChange) → IsSmallJob j → last_col_of j < 2 ^ 16
last-within j h =
    cond_both (j.new (j.cols - 1)).continuation (j.cols - 2) (j.cols - 1) (λ c. c < 2 ^ 16)
    (λ _. omega (arith, h.cols)) (λ _. omega (arith, h.cols))

each-small : (j : RowChange) → IsSmallJob j → EachKeeps HasSmallNumbers IsSmallPen (λ c. c < 2 ^ 16) j
unfolding goto turn color print space back erasing clearing marking IsSmallPen SmallErase
each-small j h = record {
  goes = λ c l. record { at = λ p s. (moves-small p.pos (record { row = j.row; col = c }) h.row l, s) };
  turns = record { at = λ _ s. (tt, s) };
  colors = λ k. record { at = λ p s. (change-small p.attrs (j.new k).attrs (h.colors k), (h.colors k, s.1)) };
  waits = λ p e is s.
      let w = subst SmallErase is s.1 in
      (w.0, record { at = λ q t. (change-small q.attrs e.attrs w.1, (w.1, t.1)) });
  prints = λ _ _ _. record { at = λ _ s. ((tt, tt), s) };
  spaces = record { at = λ _ s. ((tt, tt), s) };
  backs = record { at = λ _ s. ((tt, tt), s) };
  erases = λ _ _ _ l. record { at = λ _ s. ((omega (arith, l), tt), (s.0, tt)) };
  erases_one = λ _. record { at = λ _ s. ((omega arith, tt), (s.0, tt)) };
  clears = record { at = λ _ s. ((tt, tt), (s.0, tt)) };
  marks = λ c l _. record { at = λ _ s. (tt, (s.0, (l, h.colors c))) };
  last = last-within j h;
}

pub small-row_redraw : (j : RowChange) (n : ℕ) → IsSmallJob j → j.start + n ≤ j.cols → Small (row_redraw j n)
small-row_redraw j n h l p s =
    let cols = h.cols in
    let kept = (keeps-redraw _ _ _ j (each-small j h) n (λ c low. omega (arith, low, l, cols))).at p s in
    record { forms = kept.0; pen = kept.1 }

pub small-row_difference : (j : RowChange) (n : ℕ) → IsSmallJob j → j.start + n ≤ j.cols → Small (row_difference j n)
small-row_difference j n h l p s =
    let cols = h.cols in
    let kept = (keeps-difference _ _ _ j (each-small j h) n (λ c low. omega (arith, low, l, cols))).at p s in
    record { forms = kept.0; pen = kept.1 }

pub numbers-small : EachNumberIsSmall
numbers-small j n p h l s = (small-row_redraw j n h l p s, small-row_difference j n h l p s)
