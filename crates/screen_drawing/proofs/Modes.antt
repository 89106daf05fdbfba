-- Modes, the style of the cursor, and attributes that are set.
use Rattle.std.proofs.Common.{◌≡◌, Bool, true, false, cond, [], ◌∷◌, ◌++◌, refl, arith, sym, ap, ◌∙◌}
use Rattle.std.proofs.lemmas.Bool.{cond_both, eqb-true, false≢true}
use Rattle.std.proofs.lemmas.Bool.Decides.{nat_tests}
use Rattle.std.specs.Prelude.{ℕ, ◌==◌, ◌&&◌, not}
use Rattle.vt100_forms.specs.declared.modes.MouseProtocolMode.{MouseProtocolMode}
use Rattle.vt100_forms.specs.declared.modes.MouseProtocolMode.TheVariants as mouse
use Rattle.vt100_forms.specs.declared.modes.MouseProtocolEncoding.{MouseProtocolEncoding}
use Rattle.vt100_forms.specs.declared.modes.MouseProtocolEncoding.TheVariants as encoding
use Rattle.vt100_forms.specs.declared.modes.CursorStyle.{CursorStyle}
use Rattle.vt100_forms.specs.declared.modes.CursorStyle.TheVariants as style
use Rattle.vt100_forms.specs.Attrs.{default_attrs}
use Rattle.vt100_forms.specs.Form.{Form, HideCursor, Keypad, CursorKeys, Paste, Mouse, Encoding, Style}
use Rattle.vt100_forms.specs.Form.{mouse_number, encoding_number, style_number}
use Rattle.vt100_cells.specs.Cell.{bool_eq}
use Rattle.terminal_model.specs.Term.{Size, Modes, Shown, Term, shown_of, term_of, default_modes}
use Rattle.terminal_model.specs.Apply.{apply, run, switched}
use Rattle.terminal_model.proofs.FormLemmas.{run-joined, change-read}
use Rattle.vt100_forms.proofs.AttrsLemmas.{default-proper}
use Rattle.screen_drawing.specs.Modes.{switch, input_mode_formatted, input_mode_diff, attributes_formatted}
use Rattle.screen_drawing.specs.Laws.{EachModeIsSet, EachModeIsChanged, EachAttributeIsSet}

-- ---- a mode from what the terminal has to another one

-- each value is determined by its number
same-number : {X : Type 0} (number : X → ℕ) (of : ℕ → X) → ((a : X) → of (number a) ≡ a) → (to from : X)
    → (number to == number from) ≡ true → from ≡ to
same-number number of reported to from e =
    sym (reported from) ∙ sym (ap of (eqb-true (number to) (number from) e)) ∙ reported to

switched-to : {X : Type 0} (number : X → ℕ) (of : ℕ → X) → ((a : X) → of (number a) ≡ a) → (to from : X)
    → switched number to from from ≡ to
switched-to number of reported to from =
    cond_both (number to == number from) from _ (λ x. x ≡ to) (same-number number of reported to from)
    (λ _. cond_both ((number to == 0) && not (number from == number from)) from to (λ x. x ≡ to)
    (λ h. absurd (grind (arith, nat_tests, h))) (λ _. refl))

mouse_of : ℕ → MouseProtocolMode
mouse_of n =
    cond (n == 0) mouse.None
    (cond (n == 9) mouse.Press
    (cond (n == 1000) mouse.PressRelease
    (cond (n == 1002) mouse.ButtonMotion mouse.AnyMotion)))

mouse-number : (a : MouseProtocolMode) → mouse_of (mouse_number a) ≡ a
unfolding mouse_of
mouse-number mouse.None = refl
mouse-number mouse.Press = refl
mouse-number mouse.PressRelease = refl
mouse-number mouse.ButtonMotion = refl
mouse-number mouse.AnyMotion = refl

encoding_of : ℕ → MouseProtocolEncoding
encoding_of n = cond (n == 0) encoding.Default (cond (n == 1005) encoding.Utf8 encoding.Sgr)

encoding-number : (a : MouseProtocolEncoding) → encoding_of (encoding_number a) ≡ a
unfolding encoding_of
encoding-number encoding.Default = refl
encoding-number encoding.Utf8 = refl
encoding-number encoding.Sgr = refl

style_of : ℕ → CursorStyle
style_of n =
    cond (n == 0) style.Default
    (cond (n == 1) style.BlinkBlock
    (cond (n == 2) style.SteadyBlock
    (cond (n == 3) style.BlinkUnderline
    (cond (n == 4) style.SteadyUnderline
    (cond (n == 5) style.BlinkVerticalBar style.SteadyVerticalBar)))))

style-number : (a : CursorStyle) → style_of (style_number a) ≡ a
unfolding style_of
style-number style.Default = refl
style-number style.BlinkBlock = refl
style-number style.SteadyBlock = refl
style-number style.BlinkUnderline = refl
style-number style.SteadyUnderline = refl
style-number style.BlinkVerticalBar = refl
style-number style.SteadyVerticalBar = refl

-- ---- switches

bool_eq-is : (new old : Bool) → bool_eq new old ≡ true → old ≡ new
bool_eq-is true true h = refl
bool_eq-is true false h = absurd (false≢true h)
bool_eq-is false true h = absurd (false≢true h)
bool_eq-is false false h = refl

-- `set b` is the terminal t with the switch at b; it is t itself if b is `has`
form-switched : (z : Size) (t : Term) (f : Bool → Form) (set : Bool → Term) (has old new : Bool)
    → run z (f new ∷ []) t ≡ set new → t ≡ set has → has ≡ old → run z (switch f old new) t ≡ set new
form-switched z t f set has old new sets is e =
    cond_both (bool_eq new old) [] (f new ∷ []) (λ fs. run z fs t ≡ set new)
    (λ h. is ∙ ap set (e ∙ bool_eq-is new old h)) (λ h. sets)

pub hide-switched : (z : Size) (t : Term) (old new : Bool) → t.hidden ≡ old
    → run z (switch HideCursor old new) t ≡ record t { hidden = new }
unfolding apply
hide-switched z t old new e =
    form-switched z t HideCursor (λ b. record t { hidden = b }) t.hidden old new refl refl e

-- ---- all modes

tail-run : (z : Size) (t : Term) (m n : Modes) (x y : CursorStyle) → t.modes.mouse ≡ m.mouse
    → t.modes.encoding ≡ m.encoding → t.style ≡ x
    → run z (Mouse n.mouse m.mouse ∷ Encoding n.encoding m.encoding ∷ Style y x ∷ []) t
    ≡ record t { modes = record (t.modes) { mouse = n.mouse; encoding = n.encoding }; style = y }
unfolding apply
tail-run z t m n x y em ee es =
    let o = ap (switched mouse_number n.mouse m.mouse) em
    ∙ switched-to mouse_number mouse_of mouse-number n.mouse m.mouse in
    let e = ap (switched encoding_number n.encoding m.encoding) ee
    ∙ switched-to encoding_number encoding_of encoding-number n.encoding m.encoding in
    let same = style_number y == style_number x in
    let u = ap (λ (b : CursorStyle). cond same b y) es
    ∙ cond_both same x y (λ b. b ≡ y) (same-number style_number style_of style-number y x) (λ _. refl) in
    λ i. record t { modes = record (t.modes) { mouse = o i; encoding = e i }; style = u i }

pub modes-run : (z : Size) (t : Term) (s : Shown) → t.modes.mouse ≡ mouse.None
    → t.modes.encoding ≡ encoding.Default
    → t.style ≡ style.Default
    → run z (input_mode_formatted s) t ≡ record t { modes = s.modes; style = s.style }
unfolding input_mode_formatted apply
modes-run z t s =
    tail-run z (record t { modes = record (s.modes) { mouse = t.modes.mouse; encoding = t.modes.encoding } })
    default_modes s.modes style.Default s.style

pub modes-run_changed : (z : Size) (t : Term) (old new : Shown) → t.modes ≡ old.modes → t.style ≡ old.style
    → run z (input_mode_diff old new) t ≡ record t { modes = new.modes; style = new.style }
unfolding input_mode_diff apply
modes-run_changed z t old new em es =
    let m = old.modes in
    let n = new.modes in
    let a = switch Keypad m.keypad n.keypad in
    let b = switch CursorKeys m.cursor_keys n.cursor_keys in
    let c = switch Paste m.paste n.paste in
    let d = Mouse n.mouse m.mouse ∷ Encoding n.encoding m.encoding ∷ Style new.style old.style ∷ [] in
    let with : Bool → Bool → Bool → Term = λ x y w.
    record t { modes = record (t.modes) { keypad = x; cursor_keys = y; paste = w } } in
    let h = t.modes in
    let e1 = form-switched z t Keypad (λ x. with x h.cursor_keys h.paste) h.keypad m.keypad n.keypad refl refl
    (ap (λ (x : Modes). x.keypad) em) in
    let e2 = form-switched z _ CursorKeys (λ x. with n.keypad x h.paste) h.cursor_keys m.cursor_keys
    n.cursor_keys refl
    refl (ap (λ (x : Modes). x.cursor_keys) em) in
    let e3 = form-switched z _ Paste (with n.keypad n.cursor_keys) h.paste m.paste n.paste refl refl
    (ap (λ (x : Modes). x.paste) em) in
    let e4 = tail-run z (with n.keypad n.cursor_keys n.paste) m n old.style new.style
    (ap (λ (x : Modes). x.mouse) em) (ap (λ (x : Modes). x.encoding) em) es in
    run-joined z (a ++ b ++ c) d t
    ∙ ap (run z d) (run-joined z (a ++ b) c t ∙ ap (run z c) (run-joined z a b t ∙ ap (run z b) e1 ∙ e2) ∙ e3) ∙ e4

pub modes-set : EachModeIsSet
modes-set z s from em ee es v h = ap shown_of (modes-run z (term_of from v) s em ee es)

pub modes-changed : EachModeIsChanged
modes-changed z old new from em es v h = ap shown_of (modes-run_changed z (term_of from v) old new em es)

-- ---- attributes

pub attributes-set : EachAttributeIsSet
unfolding attributes_formatted apply
attributes-set z s from h v k =
    ap shown_of (change-read z (record (term_of from v) { attrs = default_attrs }) default_attrs s.attrs refl
    default-proper h)
