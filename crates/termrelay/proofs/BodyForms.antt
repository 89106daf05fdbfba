-- The body of a frame is a list of forms.
use Rattle.std.proofs.Common.{◌≡◌, ◌||◌, Option, Some, None, refl}
use Rattle.std.specs.List.{AllByRecursion}
use Rattle.std.proofs.lemmas.Bool.{cond_both}
use Rattle.vt100_forms.specs.declared.attrs.Attrs.{Attrs}
use Rattle.vt100_forms.specs.Attrs.{HasByteColors}
use Rattle.vt100_forms.specs.Form.{Form}
use Rattle.terminal_model.specs.FormText.{IsForm, IsSentForm}
use Rattle.terminal_model.specs.Term.{Size, Shown}
use Rattle.row_drawing.proofs.Texts.{all-join}
use Rattle.screen_drawing.specs.Modes.{input_mode_diff}
use Rattle.screen_drawing.specs.Screen.{state_formatted, state_diff}
use Rattle.screen_drawing.specs.Laws.{IsTrueOfLists}
use Rattle.screen_drawing.proofs.SmallScreens.{lists-sent, lists-forms}
use Rattle.termrelay.specs.Frame.{is_unsure, body_forms, EachBodyIsSent, EachBodyIsOfForms}
use Rattle.termrelay.proofs.SureLemmas.{sure-plain}

-- what is true of each form of a screen's lists is true of those of the body
pub body-all : (P : Form → Type 0) (A : Attrs → Type 0) (z : Size) (base : Option Shown) (now : Shown)
    → AllByRecursion P (state_formatted z now)
    → ((old : Shown) → base ≡ Some old → IsTrueOfLists (AllByRecursion P) A z old now)
    → AllByRecursion P (body_forms z base now)
unfolding body_forms
body-all P A z None now first later = first
body-all P A z (Some base) now first later =
    let each = later base refl in
    cond_both (is_unsure z base || is_unsure z now) _ (state_diff z base now) (AllByRecursion P)
    (λ _. all-join P _ (input_mode_diff base now) each.contents_formatted each.input_mode_diff) (λ _. each.state_diff)

pub body-sent : EachBodyIsSent
body-sent z base now h small known =
    let each = λ (old : Shown) (k : HasByteColors old.attrs). lists-sent z old now k small known in
    body-all IsSentForm HasByteColors z base now (each now small.attrs).state_formatted
    (λ old is. each old (rw is at h))

pub body-forms : EachBodyIsOfForms
body-forms z base now h small known sure =
    let plain = sure-plain z now small.shown sure in
    let each = λ (old : Shown) (k : HasByteColors old.attrs). lists-forms z old now k small known plain in
    body-all IsForm HasByteColors z base now (each now small.attrs).state_formatted
    (λ old is. each old (rw is at h))
