-- Redraws and differences of screens have numbers that fit in the code's types, and a limited number of bytes.
use Rattle.std.proofs.Common.{ℕ, ◌+◌, ◌*◌, ◌<◌, Bool, false, not, ◌&&◌, List}
use Rattle.std.proofs.Common.{Option, Some, None, refl, arith}
use Rattle.std.specs.Prelude.{◌^◌}
use Rattle.std.specs.List.{AllByRecursion}
use Rattle.vt100_forms.specs.declared.position.Pos.{Pos}
use Rattle.vt100_forms.specs.Attrs.{HasByteColors}
use Rattle.vt100_forms.specs.Form.{Text, MoveTo, ClearScreen, ClearAttrs, Lf}
use Rattle.vt100_forms.specs.Form.{HideCursor, Keypad, CursorKeys, Paste, Mouse, Encoding, Style}
use Rattle.vt100_forms.specs.Length.{HasSmallNumbers}
use Rattle.vt100_cells.proofs.CellTexts.{text-short}
use Rattle.terminal_model.specs.Term.{Size, Shown, blank_shown}
use Rattle.vt100_forms.specs.Form.{HasText}
use Rattle.terminal_model.specs.FormText.{IsSentText, IsFormText, AllTexts}
use Rattle.terminal_model.proofs.FormTexts.{all-both}
use Rattle.row_drawing.specs.Small.{SmallErase, IsSmallPen}
use Rattle.screen_drawing.specs.Rows.{afresh, is_continued, row_job, next_row}
use Rattle.screen_drawing.specs.Cursor.{place, arriving}
use Rattle.screen_drawing.specs.Length.{IsSmallScreen}
use Rattle.screen_drawing.specs.Laws.{IsTrueOfLists, IsTrueOfEach, EachListIsSent, EachListIsOfForms}
use Rattle.screen_drawing.proofs.Costs.{IsSmallList, small-measure, form-small, moves-small, changes-small}
use Rattle.screen_drawing.proofs.Costs.{space-small, IsRowJob, costs-row_redraw, costs-row_difference}
use Rattle.screen_drawing.proofs.Lists.{Rules, ModeRules, every-list}
use Rattle.screen_drawing.proofs.Texts.{each-both, texts-sent, texts-forms}

-- ---- the parts

row-row_change : (z : Size) (old s : Shown) (i : ℕ) (flagged : Bool) → IsSmallScreen z s → i < z.rows
    → IsRowJob (row_job z old s i flagged)
row-row_change z old s i flagged h l = record {
  start = refl;
  cells = h.cells i;
  small = record { cols = h.cols; row = omega (arith, l, h.rows); colors = h.colors i };
}

arriving-small : (p : Option Pos) (row col : ℕ) → row < 2 ^ 16 → col < 2 ^ 16
    → IsSmallList 14 (arriving p (place row col))
arriving-small None row col hr hc = form-small (MoveTo row col) 14 (hr, hc) (omega arith)
arriving-small (Some p) row col hr hc = moves-small p (place row col) hr hc

pub small-rules : (z : Size) (s : Shown) → IsSmallScreen z s → Rules IsSmallList HasByteColors IsSmallPen z s
unfolding next_row IsSmallPen SmallErase
small-rules z s h = record {
  space = space-small;
  text = λ r k _. form-small (Text (s.cell r k).text) 21 tt (text-short (s.cell r k) (h.cells r k));
  feed = form-small Lf 1 tt (omega arith);
  wipes = ((tt, (tt, (omega arith, (tt, tt)))), omega arith);
  clears_attrs = form-small ClearAttrs 3 tt (omega arith);
  clears = form-small ClearScreen 6 tt (omega arith);
  hides = λ b. form-small (HideCursor b) 6 tt (omega arith);
  arrives = λ p r c up left.
      arriving-small p r c (omega (arith, up, h.shown.in_rows, h.rows)) (omega (arith, left, h.cols));
  changes = changes-small;
  plain = (tt, tt);
  colors = h.colors;
  attrs = h.attrs;
  begun = λ row col a k. (k, tt);
  held = λ p k. k.0;
  moved = λ p q k. k;
  redraw = λ i l p k.
      costs-row_redraw _ (row-row_change z blank_shown s i false h l) z.cols h.shown.some_col (omega arith) (afresh p)
      k;
  difference = λ old i l p k.
      costs-row_difference _ (row-row_change z old s i (is_continued old.wrapped i && not p.lost) h l) z.cols
      h.shown.some_col
      (omega arith) (afresh p) k;
}

pub small-modes : ModeRules IsSmallList
small-modes = record {
  keypad = λ b. form-small (Keypad b) 2 tt (omega arith);
  keys = λ b. form-small (CursorKeys b) 5 tt (omega arith);
  paste = λ b. form-small (Paste b) 8 tt (omega arith);
  mouse = λ to from. form-small (Mouse to from) 8 tt (omega arith);
  encoding = λ to from. form-small (Encoding to from) 8 tt (omega arith);
  style = λ to from. form-small (Style to from) 5 tt (omega arith);
}

-- ---- all of them

pub each-small : (z : Size) (old new : Shown) → HasByteColors old.attrs → IsSmallScreen z new
    → IsTrueOfLists (IsSmallList (428 * (z.rows * z.cols) + new.row + 230)) HasByteColors z old new
each-small z old new ha h =
    every-list IsSmallList small-measure HasByteColors IsSmallPen z new (small-rules z new h)
    small-modes old ha

-- lists of forms whose texts fulfil P
with-numbers : (P : List ℕ → Type 0) (z : Size) (old new : Shown) → HasByteColors old.attrs → IsSmallScreen z new
    → IsTrueOfEach (AllTexts P) z old new
    → IsTrueOfLists (AllByRecursion (λ f. HasText P f × HasSmallNumbers f)) HasByteColors z old new
with-numbers P z old new ha h t =
    each-both (AllTexts P) (IsSmallList (428 * (z.rows * z.cols) + new.row + 230)) _ HasByteColors z old new
    (λ fs a b. all-both (HasText P) HasSmallNumbers fs a b.0) t (each-small z old new ha h)

pub lists-sent : EachListIsSent
lists-sent z old new ha h known = with-numbers IsSentText z old new ha h (texts-sent z old new known)

pub lists-forms : EachListIsOfForms
lists-forms z old new ha h known plain = with-numbers IsFormText z old new ha h (texts-forms z old new known plain)
