-- What a client shows after the body of a frame.
use Rattle.std.proofs.Common.{◌≡◌, Bool, true, false, ◌||◌, ◌++◌, Some, None, ap, ◌∙◌, refl}
use Rattle.std.proofs.lemmas.Bool.{cond_both, or_parts}
use Rattle.terminal_model.specs.Term.{Size, Shown, Term, shown_of, blank_shown}
use Rattle.terminal_model.specs.Apply.{run}
use Rattle.terminal_model.specs.Leads.{Leads}
use Rattle.terminal_model.proofs.FormLemmas.{run-joined}
use Rattle.screen_drawing.specs.Modes.{input_mode_diff}
use Rattle.screen_drawing.specs.Screen.{contents_formatted, state_diff}
use Rattle.screen_drawing.proofs.Modes.{modes-run_changed}
use Rattle.screen_drawing.proofs.Screens.{state-redraw_leads, state-difference_leads, later-redraw_leads}
use Rattle.screen_drawing.proofs.Texts.{modes-come_out}
use Rattle.termrelay.specs.Frame.{is_unsure, body_forms, HasModesOf, ShowsUnless, EachFrameLeads}
use Rattle.termrelay.specs.Frame.{EachFrameSetsModes}

modes-agree : (a : Bool) (base t : Shown) → ShowsUnless a base t → HasModesOf base t
modes-agree true base t h = h
modes-agree false base t h = (ap (λ (s : Shown). s.modes) h, ap (λ (s : Shown). s.style) h)

pub frame-leads : EachFrameLeads
unfolding body_forms
frame-leads z None now from i s h = rw h (state-redraw_leads z now blank_shown s refl refl refl)
frame-leads z (Some base) now from i s h =
    let modes = modes-agree (is_unsure z base) base from h in
    cond_both (is_unsure z base || is_unsure z now) _ (state_diff z base now) (λ fs. Leads z fs from now)
    (λ _. later-redraw_leads z base now from s modes.0 modes.1)
    (λ e. let same : from ≡ base = rw (or_parts (is_unsure z base) _ e).0 at h in
    rw same (state-difference_leads z base now i.0 i.1 s))

later-sets_modes : (z : Size) (base now : Shown) (t : Term) → HasModesOf base (shown_of t)
    → HasModesOf now (shown_of (run z (contents_formatted z now ++ input_mode_diff base now) t))
later-sets_modes z base now t h =
    let fs = contents_formatted z now in
    let out = (modes-come_out z base now t).contents_redrawn in
    let is = run-joined z fs (input_mode_diff base now) t
    ∙ modes-run_changed z (run z fs t) base now (out.0 ∙ h.0) (out.1 ∙ h.1) in
    (ap (λ (u : Term). u.modes) is, ap (λ (u : Term). u.style) is)

pub frame-sets_modes : EachFrameSetsModes
unfolding body_forms
frame-sets_modes z None now t h =
    (modes-come_out z now now t).redrawn (ap (λ (s : Shown). s.modes.mouse) h)
    (ap (λ (s : Shown). s.modes.encoding) h) (ap (λ (s : Shown). s.style) h)
frame-sets_modes z (Some base) now t h =
    let modes = modes-agree (is_unsure z base) base (shown_of t) h in
    cond_both (is_unsure z base || is_unsure z now) _ (state_diff z base now)
    (λ fs. HasModesOf now (shown_of (run z fs t))) (λ _. later-sets_modes z base now t modes)
    (λ _. (modes-come_out z base now t).changed modes.0 modes.1)
