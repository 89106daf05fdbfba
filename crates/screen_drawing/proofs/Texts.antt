-- The texts that are written, and the modes that stay.
use Rattle.std.proofs.Common.{◌≡◌, ℕ, ◌+◌, ◌-◌, ◌==◌, true, nat_lt, nat_le, List, []}
use Rattle.std.proofs.Common.{◌∷◌, min, Option, Some, None, refl, ap, ◌∙◌}
use Rattle.std.specs.List.{AllByRecursion}
use Rattle.std.proofs.lemmas.Bool.{cond_both}
use Rattle.vt100_forms.specs.declared.attrs.Attrs.{Attrs}
use Rattle.vt100_forms.specs.declared.position.Pos.{Pos}
use Rattle.vt100_forms.specs.Form.{Form, Text, MoveRight, EraseChar, ClearRowForward, ClearScreen, ClearAttrs}
use Rattle.vt100_forms.specs.Form.{Crlf, Lf, Backspace, SaveCursor, RestoreCursor, HideCursor, Keypad, CursorKeys}
use Rattle.vt100_forms.specs.Form.{Paste, Mouse, Encoding, Style}
use Rattle.vt100_forms.specs.Mark.{HasPlainText, HasNoMark}
use Rattle.vt100_forms.proofs.Marks.{no_mark}
use Rattle.vt100_cells.specs.Cell.{has_text, cell_of, columns_of}
use Rattle.terminal_model.specs.Term.{Size, Modes, Shown, Term}
use Rattle.terminal_model.specs.Apply.{with_line, erase, print, join, down, wrap, made_to_fit, is_dropped, input}
use Rattle.terminal_model.specs.Apply.{inputs}
use Rattle.terminal_model.specs.Apply.{apply, run}
use Rattle.vt100_forms.specs.Form.{HasText}
use Rattle.terminal_model.specs.FormText.{IsSentText, IsFormText, AllTexts}
use Rattle.terminal_model.proofs.FormLemmas.{run-joined}
use Rattle.terminal_model.proofs.PlainText.{cell-sent}
use Rattle.terminal_model.proofs.FormTexts.{all-each, space-sent, space-form, some-text, text-is_plain}
use Rattle.row_drawing.specs.Texts.{IsDrawing, AllDrawing}
use Rattle.row_drawing.proofs.Texts.{AreTexts, moves-drawing, change-drawing, draws-row_redraw, draws-row_difference}
use Rattle.row_drawing.proofs.DrawnTexts.{drawing-text}
use Rattle.screen_drawing.specs.Rows.{afresh, next_row}
use Rattle.screen_drawing.specs.Cursor.{place, arriving, cursor_position_formatted}
use Rattle.screen_drawing.specs.Modes.{input_mode_formatted, input_mode_diff, attributes_formatted}
use Rattle.screen_drawing.specs.Screen.{grid_contents_formatted, grid_difference, contents_formatted, state_formatted}
use Rattle.screen_drawing.specs.Screen.{contents_diff, state_diff, cursor_state_formatted}
use Rattle.screen_drawing.specs.Laws.{IsKnown, IsTrueOfLists, IsTrueOfEach, EachTextIsSent, EachIsPlain, EachHasNoMark}
use Rattle.screen_drawing.specs.Laws.{EachTextIsAForm, EachModeComesOut}
use Rattle.screen_drawing.proofs.Modes.{modes-run, modes-run_changed}
use Rattle.screen_drawing.proofs.Lists.{all-measure, Rules, ModeRules, every-list, contents, contents_changed}
use Rattle.screen_drawing.proofs.Lists.{cursor_state}

-- ---- texts

-- P is true of a space and of each text of a cell
record TextsAre (P : List ℕ → Type 0) (s : Shown) : Type 0 where
  space : P (32 ∷ [])
  cells : (r k : ℕ) → has_text (s.cell r k) ≡ true → P (s.cell r k).text

arriving-drawing : (P : List ℕ → Type 0) (p : Option Pos) (q : Pos) → AllDrawing P (arriving p q)
arriving-drawing P None q = (tt, tt)
arriving-drawing P (Some p) q = moves-drawing P p q

-- rows and the cursor are drawn by forms that set no mode, and whose texts fulfil P
drawing-rules : (P : List ℕ → Type 0) (Q : Form → Type 0) (z : Size) (s : Shown)
    → ((f : Form) → IsDrawing P f → Q f)
    → TextsAre P s → Rules (λ n fs. AllByRecursion Q fs) (λ a. Unit {0}) (λ p. Unit {0}) z s
unfolding next_row
drawing-rules P Q z s h t =
    let all : (fs : List Form) → AllDrawing P fs → AllByRecursion Q fs = all-each (IsDrawing P) Q h in
    let row : (i : ℕ) → AreTexts P (s.cell i) = λ i. record { space = t.space; cells = t.cells i } in
    record {
      space = (h _ t.space, tt);
      text = λ r k some. (h (Text (s.cell r k).text) (t.cells r k some), tt);
      feed = (h Lf tt, tt);
      wipes = (h SaveCursor tt, (h Backspace tt, (h (EraseChar 1) tt, (h RestoreCursor tt, tt))));
      clears_attrs = (h ClearAttrs tt, tt);
      clears = (h ClearScreen tt, tt);
      hides = λ b. (h (HideCursor b) tt, tt);
      arrives = λ p r c _ _. all _ (arriving-drawing P p (place r c));
      changes = λ a b _. all _ (change-drawing P a b);
      plain = tt;
      colors = λ r k. tt;
      attrs = tt;
      begun = λ row col a _. tt;
      held = λ p _. tt;
      moved = λ p q _. tt;
      redraw = λ i l p _. record { forms = all _ (draws-row_redraw P _ z.cols (row i) (afresh p)); pen = tt };
      difference = λ old i l p _. record {
        forms = all _ (draws-row_difference P _ z.cols (row i) (afresh p));
        pen = tt;
      };
    }

text-modes : (P : List ℕ → Type 0) → ModeRules (λ n fs. AllTexts P fs)
text-modes P = record {
  keypad = λ b. (tt, tt);
  keys = λ b. (tt, tt);
  paste = λ b. (tt, tt);
  mouse = λ to from. (tt, tt);
  encoding = λ to from. (tt, tt);
  style = λ to from. (tt, tt);
}

each-text : (P : List ℕ → Type 0) (z : Size) (old new : Shown) → TextsAre P new
    → IsTrueOfEach (AllTexts P) z old new
each-text P z old new h =
    every-list (λ n fs. AllTexts P fs) (all-measure (HasText P)) (λ a. Unit {0}) (λ p. Unit {0}) z new
    (drawing-rules P (HasText P) z new (drawing-text P) h) (text-modes P) old tt

pub each-both : (Q R S : List Form → Type 0) (A : Attrs → Type 0) (z : Size) (old new : Shown)
    → ((fs : List Form) → Q fs → R fs → S fs) → IsTrueOfEach Q z old new → IsTrueOfLists R A z old new
    → IsTrueOfLists S A z old new
each-both Q R S A z old new f h k = record {
  state_formatted = f (state_formatted z new) h.state_formatted k.state_formatted;
  contents_formatted = f (contents_formatted z new) h.contents_formatted k.contents_formatted;
  state_diff = f (state_diff z old new) h.state_diff k.state_diff;
  contents_diff = f (contents_diff z old new) h.contents_diff k.contents_diff;
  cursor_state_formatted = f (cursor_state_formatted z new) h.cursor_state_formatted k.cursor_state_formatted;
  input_mode_formatted = f (input_mode_formatted new) h.input_mode_formatted k.input_mode_formatted;
  input_mode_diff = f (input_mode_diff old new) h.input_mode_diff k.input_mode_diff;
  attributes_formatted = f (attributes_formatted new) h.attributes_formatted k.attributes_formatted;
  grid_formatted = f (grid_contents_formatted z new) h.grid_formatted k.grid_formatted;
  grid_diff = f (grid_difference z old new).forms h.grid_diff k.grid_diff;
  cursor = λ p a c. f (cursor_position_formatted z new p a) (h.cursor p a tt) (k.cursor p a c);
}

-- ---- the texts of cells

sent-texts : (s : Shown) → IsKnown s → TextsAre IsSentText s
sent-texts s h = record {
  space = space-sent;
  cells = λ r k some. cell-sent (s.cell r k) (h.cells r k) (some-text (s.cell r k) some) (h.known r k);
}

pub texts-sent : EachTextIsSent
texts-sent z old new h = each-text IsSentText z old new (sent-texts new h)

pub texts-forms : EachTextIsAForm
texts-forms z old new h plain =
    let sent = sent-texts new h in
    each-text IsFormText z old new (record {
      space = space-form;
      cells = λ r k some. record { sent = sent.cells r k some; plain = plain r k };
    })

pub texts-plain : EachIsPlain
texts-plain z old new h =
    let sent = texts-sent z old new h in
    each-both (AllTexts IsSentText) (AllTexts IsSentText) (AllByRecursion HasPlainText) (λ a. Unit {0})
    z old new
    (λ fs t _. all-each (HasText IsSentText) HasPlainText text-is_plain fs t) sent sent

pub texts-unmarked : EachHasNoMark
texts-unmarked z old new h =
    let plain = texts-plain z old new h in
    each-both (AllByRecursion HasPlainText) (AllByRecursion HasPlainText) HasNoMark (λ a. Unit {0}) z old new
    (λ fs t _. no_mark fs t) plain plain

-- ---- forms that draw leave the modes and the style

record Keeps (t u : Term) : Type 0 where
  modes : u.modes ≡ t.modes
  style : u.style ≡ t.style

keeps : (t : Term) → Keeps t t
keeps t = record { modes = refl; style = refl }

keeps-then : (t u v : Term) → Keeps t u → Keeps u v → Keeps t v
keeps-then t u v a b = record { modes = b.modes ∙ a.modes; style = b.style ∙ a.style }

down-keeps : (z : Size) (t : Term) → Keeps t (down z t)
unfolding down
down-keeps z t = cond_both (nat_lt (t.row + 1) z.rows) _ _ (Keeps t) (λ _. record { modes = refl; style = refl })
    (λ _. record { modes = refl; style = refl })

wrap-keeps : (z : Size) (t : Term) → Keeps t (wrap z t)
unfolding wrap
wrap-keeps z t = keeps-then t _ _ (record { modes = refl; style = refl }) (down-keeps z _)

fit-keeps : (z : Size) (n : ℕ) (t : Term) → Keeps t (made_to_fit z n t)
unfolding made_to_fit
fit-keeps z n t = cond_both (nat_le (t.col + n) z.cols) t (wrap z t) (Keeps t) (λ _. keeps t) (λ _. wrap-keeps z t)

erase-keeps : (z : Size) (e : ℕ) (t : Term) → Keeps t (erase z e t)
unfolding erase with_line
erase-keeps z e t = record { modes = refl; style = refl }

input-keeps : (z : Size) (c : ℕ) (t : Term) → Keeps t (input z c t)
unfolding input print join with_line
input-keeps z c t =
    let u = made_to_fit z (columns_of c) t in
    cond_both (is_dropped z.cols t.col c) t _ (Keeps t) (λ _. keeps t)
    (λ _. cond_both (columns_of c == 0) (join c t) (print z (cell_of c t.attrs) u) (Keeps t)
    (λ _. record { modes = refl; style = refl })
    (λ _. keeps-then t u (print z (cell_of c t.attrs) u) (fit-keeps z (columns_of c) t)
    (record { modes = refl; style = refl })))

inputs-keep : (z : Size) (cs : List ℕ) (t : Term) → Keeps t (inputs z cs t)
inputs-keep z [] t = keeps t
inputs-keep z (c ∷ cs) t =
    keeps-then t (input z c t) (inputs z cs (input z c t)) (input-keeps z c t) (inputs-keep z cs (input z c t))

abbrev Any : List ℕ → Type 0
Any cs = Unit {0}

form-keeps : (z : Size) (f : Form) (t : Term) → IsDrawing Any f → Keeps t (apply z f t)
unfolding apply
form-keeps z (Text cs) t h = inputs-keep z cs t
form-keeps z (MoveRight n) t h =
    cond_both (n == 0) t (record t { col = min (t.col + n) (z.cols - 1) }) (Keeps t) (λ _. keeps t)
    (λ _. record { modes = refl; style = refl })
form-keeps z (EraseChar n) t h = erase-keeps z (min (t.col + n) z.cols) t
form-keeps z ClearRowForward t h = erase-keeps z z.cols t
form-keeps z Crlf t h = keeps-then t _ _ (record { modes = refl; style = refl }) (down-keeps z _)
form-keeps z Lf t h = down-keeps z t
form-keeps z (Keypad b) t h = absurd h
form-keeps z (CursorKeys b) t h = absurd h
form-keeps z (Paste b) t h = absurd h
form-keeps z (Mouse to from) t h = absurd h
form-keeps z (Encoding to from) t h = absurd h
form-keeps z (Style to from) t h = absurd h
form-keeps z f t h = record { modes = refl; style = refl }

run-keeps : (z : Size) (fs : List Form) (t : Term) → AllDrawing Any fs → Keeps t (run z fs t)
run-keeps z [] t h = keeps t
run-keeps z (f ∷ fs) t h =
    keeps-then t (apply z f t) (run z fs (apply z f t)) (form-keeps z f t h.0) (run-keeps z fs (apply z f t) h.1)

any-rules : (z : Size) (s : Shown)
    → Rules (λ n fs. AllDrawing Any fs) (λ a. Unit {0}) (λ p. Unit {0}) z s
any-rules z s =
    drawing-rules Any (IsDrawing Any) z s (λ f h. h) (record { space = tt; cells = λ r k some. tt })

pub modes-come_out : EachModeComesOut
unfolding state_formatted state_diff
modes-come_out z old new t =
    let fs = contents_formatted z new in
    let gs = contents_diff z old new in
    let W : ℕ → List Form → Type 0 = λ n fs. AllDrawing Any fs in
    let measure = all-measure (IsDrawing Any) in
    let rules = any-rules z new in
    let a = run-keeps z fs t (contents W measure _ _ z new rules) in
    let b = run-keeps z gs t (contents_changed W measure _ _ z new rules old tt) in
    let c = run-keeps z (cursor_state_formatted z new) t (cursor_state W measure _ _ z new rules) in
    record {
      redrawn = λ em ee es.
          let is = run-joined z fs (input_mode_formatted new) t ∙ modes-run z (run z fs t) new
          (ap (λ (m : Modes). m.mouse) a.modes ∙ em) (ap (λ (m : Modes). m.encoding) a.modes ∙ ee) (a.style ∙ es) in
          (ap (λ (u : Term). u.modes) is, ap (λ (u : Term). u.style) is);
      changed = λ em es.
          let is = run-joined z gs (input_mode_diff old new) t ∙ modes-run_changed z (run z gs t) old new
          (b.modes ∙ em) (b.style ∙ es) in
          (ap (λ (u : Term). u.modes) is, ap (λ (u : Term). u.style) is);
      contents_redrawn = (a.modes, a.style);
      contents_changed = (b.modes, b.style);
      cursor_set = (c.modes, c.style);
    }
