-- The effect of forms on a terminal that carries out their calls.
use Rattle.std.proofs.Common.{◌≡◌, ℕ, suc, pos, ◌+◌, ◌-◌, ◌^◌, ◌<◌, ◌==◌, Bool, true, false, cond, not, ◌&&◌, min}
use Rattle.std.proofs.Common.{List, [], ◌∷◌, ◌++◌, map, Option, None, Some, refl, sym, ap, ◌∙◌, arith}
use Rattle.std.specs.Prelude.{Contains}
use Rattle.std.specs.List.{AllByRecursion}
use Rattle.std.proofs.lemmas.Bool.{false≢true, eqb-true, eq-eqb, cond_both}
use Rattle.vte_types.specs.Call as call
use Rattle.vte_types.specs.Call.{Call}
use Rattle.vte_types.specs.declared.attr.Attr.{Attr}
use Rattle.vte_types.specs.declared.attr.Attr.TheVariants as a
use Rattle.vt100_forms.specs.declared.attrs.Attrs.{Attrs}
use Rattle.vt100_forms.specs.declared.attrs.Color.{Color}
use Rattle.vt100_forms.specs.declared.term.Intensity.{Intensity}
use Rattle.vt100_forms.specs.declared.term.Intensity.TheVariants.{Normal, Bold, Dim}
use Rattle.vt100_forms.specs.declared.modes.MouseProtocolMode.{MouseProtocolMode}
use Rattle.vt100_forms.specs.declared.modes.MouseProtocolMode.TheVariants as mouse
use Rattle.vt100_forms.specs.declared.modes.MouseProtocolEncoding.{MouseProtocolEncoding}
use Rattle.vt100_forms.specs.declared.modes.MouseProtocolEncoding.TheVariants as encoding
use Rattle.vt100_forms.specs.declared.modes.CursorStyle.{CursorStyle}
use Rattle.vt100_forms.specs.Attrs.{with_mode}
use Rattle.vt100_forms.specs.Form.{Form, Text, MoveTo, MoveRight, EraseChar, ClearRowForward, ClearScreen, ClearAttrs}
use Rattle.vt100_forms.specs.Form.{Crlf, Lf, Backspace, SaveCursor, RestoreCursor, HideCursor, Keypad, CursorKeys}
use Rattle.vt100_forms.specs.Form.{Paste, Mouse, Encoding, Style, Sgr, Change, mouse_number, encoding_number}
use Rattle.vt100_forms.specs.Form.{style_number, with_change, intensity_set, flag_set}
use Rattle.std.specs.Prelude.{unwrap_or}
use Rattle.vt100_forms.specs.Length.{IsByteOption}
use Rattle.terminal_model.specs.Term.{Size, Term, IsTerm}
use Rattle.terminal_model.specs.Apply.{erase, input, inputs, switched, apply, run}
use Rattle.terminal_model.proofs.FormLemmas.{erase-none}
use Rattle.terminal_model.proofs.TermLemmas.{IsTerm-moved, IsTerm-apply}
use Rattle.forms_read.specs.Events.{kept_number}
use Rattle.terminal_model.specs.FormText.{IsSentForm}
use Rattle.forms_read.proofs.SentTexts.{forms-readable}
use Rattle.forms_read.specs.Calls.{place_reported, foreground_reported, background_reported, intensity_reported}
use Rattle.forms_read.specs.Calls.{flag_reported}
use Rattle.forms_read.specs.Calls.{change_reported, mode_calls, style_reported, set_call, reset_call, form_calls}
use Rattle.forms_read.specs.Calls.{form_calls_all}
use Rattle.forms_read.specs.Terminals.{stepped, ReadsAttributes, ReadsCalls, IsSmall, EachFormIsStepped}
use Rattle.forms_read.specs.Terminals.{EachListIsStepped, EachWrittenFormIsStepped}
use Rattle.forms_read.proofs.ReadForms.{cond-two}
use Rattle.forms_read.proofs.Calling.{written_form-called}

stepped-joined : (step : Size → Call → Term → Term) (z : Size) (xs ys : List Call) (t : Term)
    → stepped step z (xs ++ ys) t ≡ stepped step z ys (stepped step z xs t)
stepped-joined step z [] ys t = refl
stepped-joined step z (x ∷ xs) ys t = stepped-joined step z xs ys (step z x t)

-- ---- attributes

-- the effect of calls, one list after another
abbrev all_read : (Attr → Attrs → Attrs) → List Attr → Attrs → Attrs
all_read attribute [] x = x
all_read attribute (y ∷ ys) x = all_read attribute ys (attribute y x)

read-joined : (f : Attr → Attrs → Attrs) (xs ys : List Attr) (x : Attrs)
    → all_read f (xs ++ ys) x ≡ all_read f ys (all_read f xs x)
read-joined f [] ys x = refl
read-joined f (y ∷ xs) ys x = read-joined f xs ys (f y x)

-- these changes of attributes have the effect of g
abbrev IsReadAs : (Attr → Attrs → Attrs) → List Attr → (Attrs → Attrs) → Type 0
IsReadAs f xs g = (x : Attrs) → all_read f xs x ≡ g x

read-both : (f : Attr → Attrs → Attrs) (xs ys : List Attr) (g h : Attrs → Attrs) → IsReadAs f xs g → IsReadAs f ys h
    → IsReadAs f (xs ++ ys) (λ x. h (g x))
read-both f xs ys g h p q x = read-joined f xs ys x ∙ ap (all_read f ys) (p x) ∙ q (g x)

module _ (f : Attr → Attrs → Attrs) (r : ReadsAttributes f) where
  fore-read : (o : Option Color) → IsByteOption o
      → IsReadAs f (foreground_reported o) (λ x. record x { fgcolor = unwrap_or o x.fgcolor })
  fore-read None h = λ x. refl
  fore-read (Some c) h = λ x. r.foreground c x h

  back-read : (o : Option Color) → IsByteOption o
      → IsReadAs f (background_reported o) (λ x. record x { bgcolor = unwrap_or o x.bgcolor })
  back-read None h = λ x. refl
  back-read (Some c) h = λ x. r.background c x h

  intensity-read : (o : Option Intensity)
      → IsReadAs f (intensity_reported o) (λ x. with_mode x (intensity_set o x.mode))
  intensity-read None = λ x. refl
  intensity-read (Some Normal) = λ x. r.normal x
  intensity-read (Some Bold) = λ x. r.bold x
  intensity-read (Some Dim) = λ x. r.dim x

  flag-read : (on off : Attr) (bit : ℕ) → ((x : Attrs) → f on x ≡ with_mode x (flag_set bit (Some true) x.mode))
      → ((x : Attrs) → f off x ≡ with_mode x (flag_set bit (Some false) x.mode)) → (o : Option Bool)
      → IsReadAs f (flag_reported on off o) (λ x. with_mode x (flag_set bit o x.mode))
  flag-read on off bit h k None = λ x. refl
  flag-read on off bit h k (Some true) = h
  flag-read on off bit h k (Some false) = k

  change-read : (c : Change) → IsByteOption c.fgcolor → IsByteOption c.bgcolor
      → IsReadAs f (change_reported c) (λ x. with_change c x)
  change-read c hf hb =
      let fg = foreground_reported c.fgcolor in
      let bg = background_reported c.bgcolor in
      let it = flag_reported a.Italic a.CancelItalic c.italic in
      let ul = flag_reported a.Underline a.CancelUnderline c.underline in
      let one = read-both f fg bg _ _ (fore-read c.fgcolor hf) (back-read c.bgcolor hb) in
      let two = read-both f (fg ++ bg) (intensity_reported c.intensity) _ _ one (intensity-read c.intensity) in
      let three = read-both f (fg ++ bg ++ intensity_reported c.intensity) it _ _ two
      (flag-read _ _ 4 r.italic r.upright c.italic) in
      let four = read-both f (fg ++ bg ++ intensity_reported c.intensity ++ it) ul _ _ three
      (flag-read _ _ 8 r.underline r.no_line c.underline) in
      read-both f (fg ++ bg ++ intensity_reported c.intensity ++ it ++ ul)
      (flag_reported a.Reverse a.CancelReverse c.inverse) _ _ four (flag-read _ _ 16 r.inverse r.positive c.inverse)

-- ---- modes

pub mouse-zero : (m : MouseProtocolMode) → (mouse_number m == 0) ≡ true → m ≡ mouse.None
mouse-zero mouse.None h = refl
mouse-zero m h = absurd (false≢true h)

pub encoding-zero : (m : MouseProtocolEncoding) → (encoding_number m == 0) ≡ true → m ≡ encoding.Default
encoding-zero encoding.Default h = refl
encoding-zero m h = absurd (false≢true h)

-- A mode, where `with` is what has each of them, and `done` what some calls or events make of what has `now`: it is
-- set, or reset.
pub mode-led : {A X Y : Type 0} (number : A → ℕ) (none to from now : A) (with : A → Y) (done : List X → Y)
    (reset set : X) → ((m : A) → (number m == 0) ≡ true → m ≡ none) → done [] ≡ with now
    → ((number none == number from) ≡ false
    → done (reset ∷ []) ≡ with (cond (not (number now == number from)) now none))
    → ((number to == 0) ≡ false → done (set ∷ []) ≡ with to)
    → done (cond (number to == number from) [] (cond (number to == 0) (reset ∷ []) (set ∷ [])))
    ≡ with (switched number to from now)
mode-led number none to from now with done reset set zero stays resets sets =
    (elim (number to == number from) as (λ b. (number to == number from) ≡ b
    → done (cond b [] (cond (number to == 0) (reset ∷ []) (set ∷ [])))
    ≡ with (cond b now (cond ((number to == 0) && not (number now == number from)) now to))) [
      | true ↦ λ _. stays
      | false ↦ λ e.
          (elim (number to == 0) as (λ b. (number to == 0) ≡ b → done (cond b (reset ∷ []) (set ∷ []))
          ≡ with (cond (b && not (number now == number from)) now to)) [
            | true ↦ λ q.
                let is = sym (zero to q) in
                resets (ap (λ m. number m == number from) is ∙ e)
                ∙ ap (λ m. with (cond (not (number now == number from)) now m)) is
            | false ↦ λ q. sets q
          ]) refl
    ]) refl

-- ---- forms

module _ (step : Size → Call → Term → Term) (f : Attr → Attrs → Attrs) (z : Size) (s : ReadsCalls step f z)
    (r : ReadsAttributes f) (small : IsSmall z) where
  step-attributes : (xs : List Attr) (t : Term)
      → stepped step z (map call.terminal_attribute xs) t ≡ record t { attrs = all_read f xs t.attrs }
  step-attributes [] t = refl
  step-attributes (x ∷ xs) t =
      ap (stepped step z (map call.terminal_attribute xs)) (s.attributes x t)
      ∙ step-attributes xs (record t { attrs = f x t.attrs })

  step-text : (cs : List ℕ) (t : Term) → (Contains cs 0xFFFD → ⊥) → stepped step z (map call.input cs) t ≡ inputs z cs t
  step-text [] t h = refl
  step-text (c ∷ cs) t h =
      ap (stepped step z (map call.input cs)) (s.prints c t (λ e. h (0, omega arith, e)))
      ∙ step-text cs (input z c t) (λ q. h (suc q.0, (let l = q.1 in omega arith), q.2))

  place : (r m : ℕ) → m < 2 ^ 16 → min (place_reported r) (m - 1) ≡ min r (m - 1)
  place r m h = omega (arith, h)

  step-MoveTo : (i j : ℕ) (t : Term) → stepped step z (form_calls (MoveTo i j)) t ≡ apply z (MoveTo i j) t
  unfolding apply
  step-MoveTo i j t =
      let row = place i z.rows small.0 in
      let col = place j z.cols small.1 in
      s.goto (place_reported i) (place_reported j) t ∙ (λ k. record t { row = row k; col = col k })

  step-MoveRight : (k : ℕ) (t : Term) → stepped step z (form_calls (MoveRight k)) t ≡ apply z (MoveRight k) t
  unfolding apply
  step-MoveRight k t =
      cond-two (λ cs u. stepped step z cs t ≡ u) (k == 0) [] (call.move_forward (kept_number k) ∷ []) t
      (record t { col = min (t.col + k) (z.cols - 1) }) (λ _. refl)
      (λ _. let col : min (t.col + kept_number k) (z.cols - 1) ≡ min (t.col + k) (z.cols - 1) =
      omega (arith, small.1) in
      s.forward (kept_number k) t ∙ (λ i. record t { col = col i }))

  step-EraseChar : (k : ℕ) (t : Term) → stepped step z (form_calls (EraseChar k)) t ≡ apply z (EraseChar k) t
  unfolding apply
  step-EraseChar k t =
      cond_both (k == 0) [] (call.erase_chars (kept_number k) ∷ [])
      (λ cs. stepped step z cs t ≡ erase z (min (t.col + k) z.cols) t)
      (λ e. let none = eqb-true k 0 e in sym (erase-none z (min (t.col + k) z.cols) t (omega (arith, none))))
      (λ _. let col : min (t.col + kept_number k) z.cols ≡ min (t.col + k) z.cols = omega (arith, small.1) in
      s.erase_chars (kept_number k) t ∙ ap (λ c. erase z c t) col)

  step-ClearScreen : (t : Term) → IsTerm z t → stepped step z (form_calls ClearScreen) t ≡ apply z ClearScreen t
  unfolding apply
  step-ClearScreen t h =
      let home = record t { row = 0; col = 0 } in
      let row : min 0 (z.rows - 1) ≡ 0 = omega arith in
      let col : min 0 (z.cols - 1) ≡ 0 = omega arith in
      let at : step z (call.goto (pos 0) 0) t ≡ home = s.goto 0 0 t ∙ (λ k. record t { row = row k; col = col k }) in
      ap (step z _) at ∙ s.clear_screen home (IsTerm-moved z t 0 0 h h.some_row (omega arith)) refl refl

  -- a mode of a terminal, where `with` is the terminal with each of them
  step-mode : {A : Type 0} (number : A → ℕ) (none to from now : A) (with : A → Term) → number none ≡ 0
      → ((m : A) → (number m == 0) ≡ true → m ≡ none)
      → ((from ≡ none → ⊥) → step z (reset_call (number from)) (with now) ≡ with (switched number none from now))
      → ((to ≡ none → ⊥) → step z (set_call (number to)) (with now) ≡ with to)
      → stepped step z (mode_calls (number to) (number from)) (with now) ≡ with (switched number to from now)
  step-mode number none to from now with is_zero zero resets sets =
      mode-led number none to from now with (λ cs. stepped step z cs (with now)) (reset_call (number from))
      (set_call (number to)) zero refl
      (λ other. resets (λ w. false≢true (sym other ∙ eq-eqb (number none) (number from) (ap number (sym w))))
      ∙ ap (λ b. with (cond b now (cond ((number none == 0) && not (number now == number from)) now none))) other
      ∙ ap (λ b. with (cond (b && not (number now == number from)) now none)) (eq-eqb (number none) 0 is_zero))
      (λ q. sets (λ w. false≢true (sym q ∙ eq-eqb (number to) 0 (ap number w ∙ is_zero))))

  step-Mouse : (to from : MouseProtocolMode) (t : Term)
      → stepped step z (form_calls (Mouse to from)) t ≡ apply z (Mouse to from) t
  unfolding apply
  step-Mouse to from t =
      step-mode mouse_number mouse.None to from t.modes.mouse (λ m. record t { modes = record (t.modes) { mouse = m } })
      refl mouse-zero (s.mouse_reset from t) (s.mouse_set to t)

  step-Encoding : (to from : MouseProtocolEncoding) (t : Term)
      → stepped step z (form_calls (Encoding to from)) t ≡ apply z (Encoding to from) t
  unfolding apply
  step-Encoding to from t =
      step-mode encoding_number encoding.Default to from t.modes.encoding
      (λ m. record t { modes = record (t.modes) { encoding = m } }) refl encoding-zero (s.encoding_reset from t)
      (s.encoding_set to t)

  step-Style : (to from : CursorStyle) (t : Term)
      → stepped step z (form_calls (Style to from)) t ≡ apply z (Style to from) t
  unfolding apply
  step-Style to from t =
      cond-two (λ cs m. stepped step z cs t ≡ record t { style = m }) (style_number to == style_number from) []
      (call.set_cursor_style (style_reported to) ∷ []) t.style to (λ _. refl) (λ _. s.style to t)

  form-stepped : (x : Form) (t : Term) → IsTerm z t → IsSentForm x → stepped step z (form_calls x) t ≡ apply z x t
  unfolding apply
  form-stepped (Text cs) t h k = step-text cs t k.0.known
  form-stepped (MoveTo i j) t h k = step-MoveTo i j t
  form-stepped (MoveRight i) t h k = step-MoveRight i t
  form-stepped (EraseChar i) t h k = step-EraseChar i t
  form-stepped ClearRowForward t h k = s.clear_line t
  form-stepped ClearScreen t h k = step-ClearScreen t h
  form-stepped ClearAttrs t h k = step-attributes (a.Reset ∷ []) t ∙ (λ i. record t { attrs = r.reset t.attrs i })
  form-stepped Crlf t h k = ap (step z call.linefeed) (s.carriage_return t) ∙ s.linefeed (record t { col = 0 })
  form-stepped Lf t h k = s.linefeed t
  form-stepped Backspace t h k = s.backspace t
  form-stepped SaveCursor t h k = s.saves t
  form-stepped RestoreCursor t h k = s.restores t
  form-stepped (HideCursor true) t h k = s.hides t
  form-stepped (HideCursor false) t h k = s.reveals t
  form-stepped (Keypad true) t h k = s.keypad t
  form-stepped (Keypad false) t h k = s.no_keypad t
  form-stepped (CursorKeys true) t h k = s.keys t
  form-stepped (CursorKeys false) t h k = s.no_keys t
  form-stepped (Paste true) t h k = s.paste t
  form-stepped (Paste false) t h k = s.no_paste t
  form-stepped (Mouse to from) t h k = step-Mouse to from t
  form-stepped (Encoding to from) t h k = step-Encoding to from t
  form-stepped (Style to from) t h k = step-Style to from t
  form-stepped (Sgr c) t h k = step-attributes (change_reported c) t
      ∙ (λ i. record t { attrs = change-read f r c k.1.0 k.1.1 t.attrs i })

  list-stepped : (fs : List Form) (t : Term) → IsTerm z t → AllByRecursion IsSentForm fs
      → stepped step z (form_calls_all fs) t ≡ run z fs t
  list-stepped [] t h k = refl
  list-stepped (x ∷ fs) t h k =
      stepped-joined step z (form_calls x) (form_calls_all fs) t
      ∙ ap (stepped step z (form_calls_all fs)) (form-stepped x t h k.0)
      ∙ list-stepped fs (apply z x t) (IsTerm-apply z x t h) k.1

pub form_is_stepped : EachFormIsStepped
form_is_stepped step f z s r small x t h k = form-stepped step f z s r small x t h k

pub list_is_stepped : EachListIsStepped
list_is_stepped step f z s r small fs t h k = list-stepped step f z s r small fs t h k

pub written_form_is_stepped : EachWrittenFormIsStepped
written_form_is_stepped step f z s r small n past last fs t g h k =
    ap (λ cs. stepped step z cs t) (written_form-called n past last fs g (forms-readable fs k))
    ∙ list-stepped step f z s r small fs t h k
