-- What a terminal shows after the body of a whole frame.
use Rattle.std.proofs.Common.{◌≡◌, ◌∙◌, ℕ, List, [], ◌∷◌, ◌++◌, ap, refl, append_assoc}
use Rattle.std.specs.Fmt.{digits}
use Rattle.vt100_forms.specs.declared.modes.MouseProtocolMode.{MouseProtocolMode}
use Rattle.vt100_forms.specs.declared.modes.MouseProtocolMode.TheVariants as mouse
use Rattle.vt100_forms.specs.declared.modes.MouseProtocolEncoding.{MouseProtocolEncoding}
use Rattle.vt100_forms.specs.declared.modes.MouseProtocolEncoding.TheVariants as encoding
use Rattle.vt100_forms.specs.declared.modes.CursorStyle.TheVariants as style
use Rattle.vt100_forms.specs.Form.{mouse_number, encoding_number, bytes_of}
use Rattle.row_drawing.proofs.WritesLemmas.{bytes_of-joined}
use Rattle.terminal_model.specs.Term.{Size, Shown, Term, shown_of, term_of}
use Rattle.terminal_model.specs.Apply.{apply, run, switched}
use Rattle.terminal_model.specs.FormText.{IsSentForm}
use Rattle.terminal_model.proofs.FormLemmas.{run-joined}
use Rattle.terminal_model.proofs.PlainText.{all-append}
use Rattle.screen_drawing.specs.Screen.{state_formatted}
use Rattle.screen_drawing.proofs.Screens.{state-redraw_leads}
use Rattle.screen_drawing.proofs.Texts.{modes-come_out}
use Rattle.screen_drawing.proofs.SmallScreens.{lists-sent}
use Rattle.termrelay.specs.Whole.{modes_off, EachWholeFrameLeads, EachWholeFrameSetsModes, EachWholeFrameIsSent}

-- ---- what is turned off

mouse-off : (m : MouseProtocolMode)
    → switched mouse_number mouse.None mouse.AnyMotion
    (switched mouse_number mouse.None mouse.ButtonMotion
    (switched mouse_number mouse.None mouse.PressRelease (switched mouse_number mouse.None mouse.Press m)))
    ≡ mouse.None
mouse-off mouse.None = refl
mouse-off mouse.Press = refl
mouse-off mouse.PressRelease = refl
mouse-off mouse.ButtonMotion = refl
mouse-off mouse.AnyMotion = refl

encoding-off : (e : MouseProtocolEncoding)
    → switched encoding_number encoding.Default encoding.Sgr
    (switched encoding_number encoding.Default encoding.Utf8 e) ≡ encoding.Default
encoding-off encoding.Default = refl
encoding-off encoding.Utf8 = refl
encoding-off encoding.Sgr = refl

-- a terminal without any of them
abbrev without : Term → Term
without t = record t {
  modes = record (t.modes) { mouse = mouse.None; encoding = encoding.Default };
  style = style.Default;
}

run-off : (z : Size) (t : Term) → run z modes_off t ≡ without t
unfolding modes_off apply
run-off z t =
    let m = mouse-off t.modes.mouse in
    let e = encoding-off t.modes.encoding in
    λ i. record t { modes = record (t.modes) { mouse = m i; encoding = e i }; style = style.Default }

run-whole : (z : Size) (now : Shown) (t : Term)
    → run z (modes_off ++ state_formatted z now) t ≡ run z (state_formatted z now) (without t)
run-whole z now t =
    run-joined z modes_off (state_formatted z now) t ∙ ap (run z (state_formatted z now)) (run-off z t)

-- ---- as text

abbrev pub off_bytes : List ℕ
off_bytes = 27 ∷ 91 ∷ 63 ∷ 57 ∷ 108 ∷ 27 ∷ 91 ∷ 63 ∷ 49 ∷ 48 ∷ 48 ∷ 48 ∷ 108 ∷ 27 ∷ 91 ∷ 63 ∷ 49 ∷ 48 ∷ 48 ∷ 50 ∷ 108 ∷ 27 ∷ 91 ∷ 63 ∷ 49 ∷ 48 ∷ 48 ∷ 51 ∷ 108 ∷ 27 ∷ 91 ∷ 63 ∷ 49 ∷ 48 ∷ 48 ∷ 53 ∷ 108 ∷ 27 ∷ 91 ∷ 63 ∷ 49 ∷ 48 ∷ 48 ∷ 54 ∷ 108 ∷ 27 ∷ 91 ∷ 48 ∷ 32 ∷ 113 ∷ []

pub off-bytes : bytes_of modes_off ≡ off_bytes
unfolding modes_off digits
off-bytes = refl

-- a whole frame's text is put together from the start mark on
pub whole-joined : (none head off middle whole start modes body end : List ℕ) → none ≡ [] → head ≡ none ++ start
    → off ≡ head ++ modes → middle ≡ off ++ body → whole ≡ middle ++ end → whole ≡ start ++ ((modes ++ body) ++ end)
whole-joined none head off middle whole start modes body end empty h o m w =
    rw (w, m, o, h, empty)
    (ap (λ xs. xs ++ end) (append_assoc start modes body) ∙ append_assoc start (modes ++ body) end)

pub whole-bytes : (z : Size) (now : Shown) → bytes_of (modes_off ++ state_formatted z now)
    ≡ off_bytes ++ bytes_of (state_formatted z now)
whole-bytes z now =
    bytes_of-joined modes_off (state_formatted z now)
    ∙ ap (λ xs. xs ++ bytes_of (state_formatted z now)) off-bytes

-- ---- whole frames

pub whole-leads : EachWholeFrameLeads
whole-leads z now from h v saved =
    let t = term_of from v in
    ap shown_of (run-whole z now t)
    ∙ state-redraw_leads z now (shown_of (without t)) h refl refl refl v saved

pub whole-sets_modes : EachWholeFrameSetsModes
whole-sets_modes z now t =
    let out = (modes-come_out z now now (without t)).redrawn refl refl refl in
    let is = run-whole z now t in
    (ap (λ (u : Term). u.modes) is ∙ out.0, ap (λ (u : Term). u.style) is ∙ out.1)

pub whole-sent : EachWholeFrameIsSent
unfolding modes_off
whole-sent z now small known =
    all-append IsSentForm modes_off (state_formatted z now)
    ((tt, tt), ((tt, tt), ((tt, tt), ((tt, tt), ((tt, tt), ((tt, tt), ((tt, tt), tt)))))))
    (lists-sent z now now small.attrs small known).state_formatted
