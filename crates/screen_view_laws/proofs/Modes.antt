-- Forms that set modes, and the cursor's style.
use Rattle.std.proofs.Common.{◌≡◌, ◌==◌, Bool, true, false, cond, not, [], ◌∷◌, refl, sym, ap, subst, ◌∙◌}
use Rattle.std.proofs.lemmas.Bool.{false≢true}
use Rattle.vt100_forms.specs.declared.modes.MouseProtocolMode.{MouseProtocolMode}
use Rattle.vt100_forms.specs.declared.modes.MouseProtocolMode.TheVariants as mouse
use Rattle.vt100_forms.specs.declared.modes.MouseProtocolEncoding.{MouseProtocolEncoding}
use Rattle.vt100_forms.specs.declared.modes.MouseProtocolEncoding.TheVariants as encoding
use Rattle.vt100_forms.specs.declared.modes.CursorStyle.{CursorStyle}
use Rattle.vt100_forms.specs.declared.modes.CursorStyle.TheVariants as style
use Rattle.vt100_forms.specs.Form.{Mouse, Encoding, Style, mouse_number, encoding_number, style_number}
use Rattle.terminal_model.specs.Apply.{switched, apply}
use Rattle.forms_read.specs.Events.{sequence, set_event, reset_event, mode_events, events_of}
use Rattle.forms_read.proofs.Stepping.{mouse-zero, encoding-zero, mode-led}
use Rattle.screen_model.specs.State.{State}
use Rattle.screen_model.specs.Step.{with_style}
use Rattle.screen_model.specs.PrivateModes.{is_mouse, is_encoding, mouse_set, encoding_set, mouse_reset}
use Rattle.screen_model.specs.PrivateModes.{encoding_reset}
use Rattle.screen_model.specs.Made.{played}
use Rattle.screen_view_laws.specs.Plain.{terminal_of, size_shown, IsPlainState}
use Rattle.screen_view_laws.specs.StateLaws.{Shows}

-- ---- the mouse

is_mouse-number : (m n : MouseProtocolMode) → is_mouse m n ≡ (mouse_number m == mouse_number n)
is_mouse-number mouse.None mouse.None = refl
is_mouse-number mouse.Press mouse.None = refl
is_mouse-number mouse.PressRelease mouse.None = refl
is_mouse-number mouse.ButtonMotion mouse.None = refl
is_mouse-number mouse.AnyMotion mouse.None = refl
is_mouse-number m n = refl

mouse-set_is : (m : MouseProtocolMode) (s : State) → (mouse_number m == 0) ≡ false
    → played (set_event (mouse_number m) ∷ []) s ≡ mouse_set m s
mouse-set_is mouse.None s h = absurd (false≢true (sym h))
mouse-set_is m s h = refl

mouse-reset_is : (m : MouseProtocolMode) (s : State) → (0 == mouse_number m) ≡ false
    → played (reset_event (mouse_number m) ∷ []) s ≡ mouse_reset m s
mouse-reset_is mouse.None s h = absurd (false≢true (sym h))
mouse-reset_is m s h = refl

mouse-kept : (b : Bool) (s : State)
    → cond b (mouse_set mouse.None s) s ≡ mouse_set (cond (not b) s.modes.mouse mouse.None) s
mouse-kept true s = refl
mouse-kept false s = refl

-- the mode that a form sets
mouse-played : (to from : MouseProtocolMode) (s : State)
    → played (mode_events (mouse_number to) (mouse_number from)) s
    ≡ mouse_set (switched mouse_number to from s.modes.mouse) s
mouse-played to from s =
    let now = s.modes.mouse in
    mode-led mouse_number mouse.None to from now (λ m. mouse_set m s) (λ es. played es s)
    (reset_event (mouse_number from)) (set_event (mouse_number to)) mouse-zero refl
    (λ h. mouse-reset_is from s h ∙ mouse-kept (is_mouse now from) s
    ∙ ap (λ b. mouse_set (cond (not b) now mouse.None) s) (is_mouse-number now from))
    (mouse-set_is to s)

pub shows-Mouse : (s : State) (to from : MouseProtocolMode) → IsPlainState s
    → Shows s (apply (size_shown s) (Mouse to from) (terminal_of s)) (played (events_of (Mouse to from)) s)
unfolding apply
shows-Mouse s to from h =
    subst (Shows s _) (sym (mouse-played to from s)) (record { shows = refl; size = refl; plain = h })

is_encoding-number : (m n : MouseProtocolEncoding) → is_encoding m n ≡ (encoding_number m == encoding_number n)
is_encoding-number encoding.Default encoding.Default = refl
is_encoding-number encoding.Utf8 encoding.Default = refl
is_encoding-number encoding.Sgr encoding.Default = refl
is_encoding-number m n = refl

encoding-set_is : (m : MouseProtocolEncoding) (s : State) → (encoding_number m == 0) ≡ false
    → played (set_event (encoding_number m) ∷ []) s ≡ encoding_set m s
encoding-set_is encoding.Default s h = absurd (false≢true (sym h))
encoding-set_is m s h = refl

encoding-reset_is : (m : MouseProtocolEncoding) (s : State) → (0 == encoding_number m) ≡ false
    → played (reset_event (encoding_number m) ∷ []) s ≡ encoding_reset m s
encoding-reset_is encoding.Default s h = absurd (false≢true (sym h))
encoding-reset_is m s h = refl

encoding-kept : (b : Bool) (s : State)
    → cond b (encoding_set encoding.Default s) s ≡ encoding_set (cond (not b) s.modes.encoding encoding.Default) s
encoding-kept true s = refl
encoding-kept false s = refl

-- the mode that a form sets
encoding-played : (to from : MouseProtocolEncoding) (s : State)
    → played (mode_events (encoding_number to) (encoding_number from)) s
    ≡ encoding_set (switched encoding_number to from s.modes.encoding) s
encoding-played to from s =
    let now = s.modes.encoding in
    mode-led encoding_number encoding.Default to from now (λ m. encoding_set m s) (λ es. played es s)
    (reset_event (encoding_number from)) (set_event (encoding_number to)) encoding-zero refl
    (λ h. encoding-reset_is from s h ∙ encoding-kept (is_encoding now from) s
    ∙ ap (λ b. encoding_set (cond (not b) now encoding.Default) s) (is_encoding-number now from))
    (encoding-set_is to s)

pub shows-Encoding : (s : State) (to from : MouseProtocolEncoding) → IsPlainState s
    → Shows s (apply (size_shown s) (Encoding to from) (terminal_of s)) (played (events_of (Encoding to from)) s)
unfolding apply
shows-Encoding s to from h =
    subst (Shows s _) (sym (encoding-played to from s)) (record { shows = refl; size = refl; plain = h })

-- ---- the cursor's style

style-is : (m : CursorStyle) (s : State)
    → played (sequence (0x20 ∷ []) (style_number m ∷ []) 0x71 ∷ []) s ≡ with_style m s
style-is style.Default s = refl
style-is m s = refl

style-played : (to from : CursorStyle) (s : State) → played (events_of (Style to from)) s
    ≡ with_style (cond (style_number to == style_number from) s.style to) s
style-played to from s =
    elim (style_number to == style_number from) as (λ b.
    played (cond b [] (sequence (0x20 ∷ []) (style_number to ∷ []) 0x71 ∷ [])) s ≡ with_style (cond b s.style to) s) [
      | true ↦ refl
      | false ↦ style-is to s
    ]

pub shows-Style : (s : State) (to from : CursorStyle) → IsPlainState s
    → Shows s (apply (size_shown s) (Style to from) (terminal_of s)) (played (events_of (Style to from)) s)
unfolding apply
shows-Style s to from h =
    subst (Shows s _) (sym (style-played to from s)) (record { shows = refl; size = refl; plain = h })
