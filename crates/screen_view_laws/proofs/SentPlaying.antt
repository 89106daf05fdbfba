-- The modes after lists of forms whose texts may have U+FE0F, and after their bytes.
use Rattle.std.proofs.Common.{◌≡◌, ℕ, ◌+◌, ◌-◌, ◌==◌, cond, nat_le, nat_lt, List, [], ◌∷◌, refl}
use Rattle.std.proofs.Common.{sym, ap, ◌∙◌, suc, subst, arith, min}
use Rattle.std.specs.Prelude.{All}
use Rattle.std.specs.Char.{IsScalar}
use Rattle.std.specs.List.{AllByRecursion}
use Rattle.std.proofs.lemmas.Bool.{cond_both}
use Rattle.vte_core.specs.Added.{added}
use Rattle.vt100_forms.specs.declared.modes.CursorStyle.{CursorStyle}
use Rattle.vt100_forms.specs.Form.{Form, Text, MoveRight, Crlf, Lf, Keypad, CursorKeys, Paste, Mouse, Encoding, Style}
use Rattle.vt100_forms.specs.Form.{mouse_number, encoding_number, style_number}
use Rattle.vt100_cells.specs.Cell.{cell_of, columns_of}
use Rattle.terminal_model.specs.FormText.{IsSentText}
use Rattle.terminal_model.specs.Term.{Size, Modes, Term}
use Rattle.terminal_model.specs.Apply.{with_line, erase, print, join, down, wrap, made_to_fit, is_dropped, input}
use Rattle.terminal_model.specs.Apply.{inputs}
use Rattle.terminal_model.specs.Apply.{switched, apply, run}
use Rattle.forms_read.specs.Events.{events_of, events_of_all}
use Rattle.forms_read.proofs.ReadForms.{list-read}
use Rattle.terminal_model.specs.FormText.{IsSentForm}
use Rattle.forms_read.proofs.SentTexts.{forms-readable}
use Rattle.screen_model.specs.State.{State}
use Rattle.screen_model.specs.Made.{played}
use Rattle.screen_view_laws.specs.Plain.{terminal_of, size_shown, IsPlainState}
use Rattle.screen_view_laws.specs.StateLaws.{Shows, HasModes, EachSentListIsPlayed, EachSentWrittenFormIsMade}
use Rattle.screen_view_laws.proofs.Playing.{form-played, played-joined}
use Rattle.screen_view_laws.proofs.SentTexts.{like-text}

-- ---- what forms do to the modes

-- the same modes, and the same style
pub record AreSame (m n : Modes) (x y : CursorStyle) : Type 0 where
  pub modes : n ≡ m
  pub style : y ≡ x

abbrev pub SameModes : Term → Term → Type 0
SameModes t u = AreSame t.modes u.modes t.style u.style

same : (t : Term) → SameModes t t
same t = record { modes = refl; style = refl }

same-down : (z : Size) (t : Term) → SameModes t (down z t)
unfolding down
same-down z t = cond_both (nat_lt (t.row + 1) z.rows) (record t { row = t.row + 1 }) _ (λ u. SameModes t u)
    (λ _. same t) (λ _. same t)

same-right : (z : Size) (n : ℕ) (t : Term) → SameModes t (apply z (MoveRight n) t)
unfolding apply
same-right z n t = cond_both (n == 0) t (record t { col = min (t.col + n) (z.cols - 1) }) (λ u. SameModes t u)
    (λ _. same t) (λ _. same t)

same-wrap : (z : Size) (t : Term) → SameModes t (wrap z t)
unfolding wrap
same-wrap z t = same-down z (record t { wrapped = _; col = 0 })

same-fit : (z : Size) (n : ℕ) (t : Term) → SameModes t (made_to_fit z n t)
unfolding made_to_fit
same-fit z n t = cond_both (nat_le (t.col + n) z.cols) t (wrap z t) (λ u. SameModes t u) (λ _. same t)
    (λ _. same-wrap z t)

same-input : (z : Size) (c : ℕ) (t : Term) → SameModes t (input z c t)
unfolding input join print with_line
same-input z c t =
    cond_both (is_dropped z.cols t.col c) t _ (λ u. SameModes t u) (λ _. same t)
    (λ _. cond_both (columns_of c == 0) (join c t) (print z (cell_of c t.attrs) (made_to_fit z (columns_of c) t))
    (λ u. SameModes t u) (λ _. same t) (λ _. same-fit z (columns_of c) t))

same-inputs : (z : Size) (cs : List ℕ) (t : Term) → SameModes t (inputs z cs t)
same-inputs z [] t = same t
same-inputs z (c ∷ cs) t =
    let one = same-input z c t in
    let rest = same-inputs z cs (input z c t) in
    record { modes = rest.modes ∙ one.modes; style = rest.style ∙ one.style }

alike-after : {m n p q : Modes} {v w x y : CursorStyle} → AreSame m p v x → AreSame n q w y → AreSame m n v w
    → AreSame p q x y
alike-after a b h = record { modes = b.modes ∙ h.modes ∙ sym a.modes; style = b.style ∙ h.style ∙ sym a.style }

-- equal modes stay equal
alike : (z : Size) (f : Form) (t u : Term) → SameModes t u → SameModes (apply z f t) (apply z f u)
unfolding apply erase with_line
alike z (Text cs) t u h = alike-after (same-inputs z cs t) (same-inputs z cs u) h
alike z (MoveRight n) t u h = alike-after (same-right z n t) (same-right z n u) h
alike z Crlf t u h = alike-after (same-down z (record t { col = 0 })) (same-down z (record u { col = 0 })) h
alike z Lf t u h = alike-after (same-down z t) (same-down z u) h
alike z (Keypad b) t u h = record { modes = ap (λ (m : Modes). record m { keypad = b }) h.modes; style = h.style }
alike z (CursorKeys b) t u h =
    record { modes = ap (λ (m : Modes). record m { cursor_keys = b }) h.modes; style = h.style }
alike z (Paste b) t u h = record { modes = ap (λ (m : Modes). record m { paste = b }) h.modes; style = h.style }
alike z (Mouse to from) t u h = record {
  modes = ap (λ (m : Modes). record m { mouse = switched mouse_number to from m.mouse }) h.modes;
  style = h.style;
}
alike z (Encoding to from) t u h = record {
  modes = ap (λ (m : Modes). record m { encoding = switched encoding_number to from m.encoding }) h.modes;
  style = h.style;
}
alike z (Style to from) t u h = record {
  modes = h.modes;
  style = ap (λ x. cond (style_number to == style_number from) x to) h.style;
}
alike z f t u h = h

pub run-alike : (z : Size) (fs : List Form) (t u : Term) → SameModes t u → SameModes (run z fs t) (run z fs u)
run-alike z [] t u h = h
run-alike z (f ∷ fs) t u h = run-alike z fs (apply z f t) (apply z f u) (alike z f t u h)

-- ---- played

by-shows : (s : State) (t : Term) (u : State) → Shows s t u → HasModes s t u
by-shows s t u h = record {
  modes = ap (λ (x : Term). x.modes) h.shows;
  style = ap (λ (x : Term). x.style) h.shows;
  size = h.size;
  plain = h.plain;
}

all-scalars : (cs : List ℕ) → All IsScalar cs → AllByRecursion IsScalar cs
all-scalars [] h = tt
all-scalars (c ∷ cs) h = (h 0 c (omega arith), all-scalars cs (λ k d l. h (suc k) d (omega arith)))

text-modes : (s : State) (cs : List ℕ) → IsPlainState s → IsSentText cs
    → HasModes s (apply (size_shown s) (Text cs) (terminal_of s)) (played (events_of (Text cs)) s)
unfolding apply
text-modes s cs h t =
    let like = like-text cs s h (all-scalars cs t.scalars) in
    let a = same-inputs (size_shown s) cs (terminal_of s) in
    record {
      modes = like.modes ∙ sym a.modes;
      style = like.style ∙ sym a.style;
      size = like.size;
      plain = like.plain;
    }

form-modes : (s : State) (f : Form) → IsPlainState s → IsSentForm f
    → HasModes s (apply (size_shown s) f (terminal_of s)) (played (events_of f) s)
form-modes s (Text cs) h k = text-modes s cs h k.0
form-modes s f h k = by-shows s _ _ (form-played s f h k)

pub sent-list-played : EachSentListIsPlayed
sent-list-played s [] h f = record { modes = refl; style = refl; size = refl; plain = h }
sent-list-played s (x ∷ fs) h f =
    let u = played (events_of x) s in
    let t = apply (size_shown s) x (terminal_of s) in
    let one = form-modes s x h f.0 in
    let rest = sent-list-played u fs one.plain f.1 in
    let v = played (events_of_all fs) u in
    let there = ap (λ z. run z fs (terminal_of u)) one.size in
    let same = run-alike (size_shown s) fs t (terminal_of u) (record { modes = one.modes; style = one.style }) in
    subst (HasModes s (run (size_shown s) fs t)) (sym (played-joined (events_of x) (events_of_all fs) s))
    (record {
      modes = rest.modes ∙ ap (λ (y : Term). y.modes) there ∙ same.modes;
      style = rest.style ∙ ap (λ (y : Term). y.style) there ∙ same.style;
      size = rest.size ∙ one.size;
      plain = rest.plain;
    })

pub sent-written_form-made : EachSentWrittenFormIsMade
unfolding added
sent-written_form-made past s fs g h f =
    let r = list-read 1024 past fs g (forms-readable fs f) in (
      subst (HasModes s (run (size_shown s) fs (terminal_of s))) (sym (ap (λ es. played es s) r.0))
          (sent-list-played s fs h f),
      r.1,
    )
