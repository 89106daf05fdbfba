-- The texts among the forms of a row.
use Rattle.std.proofs.Common.{ℕ, ◌+◌, ◌-◌, ◌<◌, ◌≤◌, Bool, nat_lt, List, length, min, arith}
use Rattle.std.specs.Prelude.{◌^◌}
use Rattle.std.specs.List.{AllByRecursion}
use Rattle.std.proofs.lemmas.Bool.{cond_both, ltb-true}
use Rattle.vt100_forms.specs.Form.{Form}
use Rattle.vt100_forms.specs.Length.{HasSmallNumbers}
use Rattle.vt100_forms.specs.Mark.{HasPlainText, HasNoMark}
use Rattle.vt100_forms.proofs.Marks.{no_mark}
use Rattle.vt100_cells.specs.Cells.{cell_at}
use Rattle.vt100_forms.specs.Form.{HasText}
use Rattle.terminal_model.specs.FormText.{IsSentText, IsFormText}
use Rattle.terminal_model.proofs.PlainText.{cell-sent}
use Rattle.terminal_model.proofs.FormTexts.{all-each, all-both, space-sent, space-form, some-text, text-is_plain}
use Rattle.row_drawing.specs.Writer.{Writer, skip}
use Rattle.row_drawing.specs.RowWriter.{row_redraw, row_difference}
use Rattle.row_drawing.specs.Small.{AreSmall, IsSmallJob}
use Rattle.row_drawing.specs.Texts.{AllDrawing}
use Rattle.row_drawing.proofs.Texts.{AreTexts, draws-skip, draws-row_redraw, draws-row_difference}
use Rattle.row_drawing.proofs.DrawnTexts.{texts}
use Rattle.row_drawing.proofs.SmallRows.{small-skip, small-row_redraw, small-row_difference}
use Rattle.vt100_rows.specs.Row.{RowView, IsRow}
use Rattle.vt100_rows.specs.Forms.{redraw_job, redraw, difference_job, difference}
use Rattle.vt100_rows.specs.Laws.{IsKnownRow, IsTrueOfForms, EachTextIsSent, EachTextIsAForm, EachHasNoMark, IsSmallRow}
use Rattle.vt100_rows.specs.Laws.{IsTrueOfSmallForms, EachListIsSent, EachListIsOfForms}

-- ---- any part of a row

-- what is true where something is drawn, and where nothing is, is true of both writers
both-writers : (Q : Writer → Type 0) (v earlier : RowView) (start width row : ℕ) (above was_above : Bool) → Q skip
    → ((n : ℕ) → start + n ≤ length v.cells → Q (row_redraw (redraw_job v start row above) n))
    → ((n : ℕ) → start + n ≤ length v.cells → Q (row_difference (difference_job v earlier start row above was_above) n))
    → Q (redraw v start width row above) × Q (difference v earlier start width row above was_above)
both-writers Q v earlier start width row above was_above none drawn changed =
    let cols = min (length v.cells) (length earlier.cells) in (
      cond_both (nat_lt start (length v.cells)) _ skip Q
          (λ e. drawn (min width (length v.cells - start)) (omega (arith, ltb-true start (length v.cells) e)))
          (λ _. none),
      cond_both (nat_lt start cols) _ skip Q
          (λ e. changed (min width (cols - start)) (omega (arith, ltb-true start cols e))) (λ _. none),
    )

forms-drawing : (P : List ℕ → Type 0) (v : RowView) → AreTexts P (cell_at v.cells) → IsTrueOfForms (AllDrawing P) v
forms-drawing P v h earlier start width row above was_above p =
    both-writers (λ f. AllDrawing P (f p).forms) v earlier start width row above was_above (draws-skip P p)
    (λ n _. draws-row_redraw P _ n h p) (λ n _. draws-row_difference P _ n h p)

forms-map : (Q R : List Form → Type 0) (v : RowView) → ((fs : List Form) → Q fs → R fs) → IsTrueOfForms Q v
    → IsTrueOfForms R v
forms-map Q R v f h earlier start width row above was_above p =
    let both = h earlier start width row above was_above p in (
      f (redraw v start width row above p).forms both.0,
      f (difference v earlier start width row above was_above p).forms both.1,
    )

-- ---- the texts of cells

row-sent : (v : RowView) → IsRow v → IsKnownRow v → AreTexts IsSentText (cell_at v.cells)
row-sent v h known = record {
  space = space-sent;
  cells = λ k some. cell-sent (cell_at v.cells k) (h.cells k) (some-text (cell_at v.cells k) some) (known k);
}

pub texts-sent : EachTextIsSent
texts-sent v h known = forms-drawing IsSentText v (row-sent v h known)

pub texts-forms : EachTextIsAForm
texts-forms v h known plain =
    let sent = row-sent v h known in
    forms-drawing IsFormText v (record {
      space = space-form;
      cells = λ k some. record { sent = sent.cells k some; plain = plain k };
    })

-- ---- marks

all-plain : (fs : List Form) → AllDrawing IsSentText fs → AllByRecursion HasPlainText fs
all-plain fs h = all-each (HasText IsSentText) HasPlainText text-is_plain fs (texts IsSentText fs h)

pub marks-absent : EachHasNoMark
marks-absent v h known =
    forms-map (AllDrawing IsSentText) HasNoMark v (λ fs all. no_mark fs (all-plain fs all)) (texts-sent v h known)

-- ---- numbers

small-redraw : (v : RowView) (start row : ℕ) (above : Bool) → IsSmallRow v → row < 2 ^ 16
    → IsSmallJob (redraw_job v start row above)
small-redraw v start row above h l = record { cols = h.cols; row = l; colors = h.colors }

small-difference : (v earlier : RowView) (start row : ℕ) (above was_above : Bool) → IsSmallRow v → row < 2 ^ 16
    → IsSmallJob (difference_job v earlier start row above was_above)
small-difference v earlier start row above was_above h l = record { cols = h.cols; row = l; colors = h.colors }

forms-small : (v : RowView) → IsSmallRow v → IsTrueOfSmallForms AreSmall v
forms-small v h earlier start width row above was_above p l s =
    both-writers (λ f. AreSmall (f p).forms) v earlier start width row above was_above (small-skip p s).forms
    (λ n m. (small-row_redraw _ n (small-redraw v start row above h l) m p s).forms)
    (λ n m. (small-row_difference _ n (small-difference v earlier start row above was_above h l) m p s).forms)

-- forms whose texts are as P says
with-numbers : (P : List ℕ → Type 0) (v : RowView) → IsSmallRow v → IsTrueOfForms (AllDrawing P) v
    → IsTrueOfSmallForms (AllByRecursion (λ f. HasText P f × HasSmallNumbers f)) v
with-numbers P v h t earlier start width row above was_above p l s =
    let drawn = t earlier start width row above was_above p in
    let small = forms-small v h earlier start width row above was_above p l s in
    let both : (fs : List Form) → AllDrawing P fs → AreSmall fs
    → AllByRecursion (λ f. HasText P f × HasSmallNumbers f) fs =
    λ fs a b. all-both (HasText P) HasSmallNumbers fs (texts P fs a) b in (
      both (redraw v start width row above p).forms drawn.0 small.0,
      both (difference v earlier start width row above was_above p).forms drawn.1 small.1,
    )

pub lists-sent : EachListIsSent
lists-sent v h small known = with-numbers IsSentText v small (texts-sent v h known)

pub lists-forms : EachListIsOfForms
lists-forms v h small known plain = with-numbers IsFormText v small (texts-forms v h known plain)
