-- Which body goes with an answer.
use Rattle.std.proofs.Common.{◌≡◌, ℕ, true, List, [], ◌++◌, Option, Some, None, ap, sym, ◌∙◌, append_assoc, arith}
use Rattle.vt100_forms.specs.Form.{bytes_of}
use Rattle.row_drawing.proofs.WritesLemmas.{bytes_of-joined}
use Rattle.terminal_model.specs.Term.{Size, Shown}
use Rattle.screen_drawing.specs.Modes.{input_mode_diff}
use Rattle.screen_drawing.specs.Screen.{contents_formatted, state_formatted, state_diff}
use Rattle.termrelay.specs.Frame.{body_forms}
use Rattle.termrelay.specs.Answers.{due, is_frame}
use Rattle.termrelay.specs.declared.answer.Answer.{Answer}
use Rattle.termrelay.specs.declared.answer.Answer.TheVariants.{Difference}

pub difference-body : (z : Size) (base now : Shown) → due z now (Some base) ≡ Difference
    → body_forms z (Some base) now ≡ state_diff z base now
unfolding body_forms
difference-body z base now e = grind arith

redraw-body : (z : Size) (base now : Shown) → is_frame (due z now (Some base)) ≡ true
    → (due z now (Some base) ≡ Difference → ⊥)
    → body_forms z (Some base) now ≡ contents_formatted z now ++ input_mode_diff base now
unfolding body_forms
redraw-body z base now frame other = grind arith

-- ---- as text

pub full-text : (z : Size) (now : Shown) {last : Option Shown} → last ≡ None
    → bytes_of (body_forms z last now) ≡ bytes_of (state_formatted z now)
unfolding body_forms state_formatted
full-text z now none = ap (λ b. bytes_of (body_forms z b now)) none

pub difference-text : (z : Size) (now : Shown) {base : Shown} {last : Option Shown} {answer : Answer} → last ≡ Some base
    → answer ≡ due z now last → answer ≡ Difference → bytes_of (body_forms z last now)
    ≡ bytes_of (state_diff z base now)
difference-text z now {base = base} is due_is e = rw (is, difference-body z base now (rw is at (sym due_is ∙ e)))

pub redraw-text : (z : Size) (now : Shown) {base : Shown} {last : Option Shown} {answer : Answer} → last ≡ Some base
    → answer ≡ due z now last → is_frame answer ≡ true → (answer ≡ Difference → ⊥)
    → bytes_of (body_forms z last now) ≡ bytes_of (contents_formatted z now) ++ bytes_of (input_mode_diff base now)
redraw-text z now {base = base} {answer = answer} is due_is frame other =
    let due_of : answer ≡ due z now (Some base) = due_is ∙ ap (due z now) is in
    rw (is, redraw-body z base now (rw due_of at frame) (λ e. other (due_of ∙ e)))
    (bytes_of-joined (contents_formatted z now) (input_mode_diff base now))

-- a frame's text is put together from the start mark on
pub text-joined : (none head middle whole start body end : List ℕ) → none ≡ [] → head ≡ none ++ start
    → middle ≡ head ++ body → whole ≡ middle ++ end → whole ≡ start ++ (body ++ end)
text-joined none head middle whole start body end empty h m w = rw (w, m, h, empty) (append_assoc start body end)
