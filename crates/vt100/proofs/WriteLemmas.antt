-- What a screen's writers append, form by form.
use Rattle.std.proofs.Common.{◌≡◌, ◌+◌, ◌<◌, ℕ, Bool, true, false, cond, List, [], ◌∷◌, ◌++◌, Result, Ok, Err, is_ok}
use Rattle.std.proofs.Common.{OnOk, OnErr, IsOk}
use Rattle.std.proofs.Common.{length, refl, sym, ap, ◌∙◌, arith, length-append}
use Rattle.std.specs.Prelude.{String, string_len, string_capacity}
use Rattle.row_drawing.proofs.WritesLemmas.{bytes_of-joined}
use Rattle.std.proofs.lemmas.Bool.{false≢true}
use Rattle.vt100_forms.specs.declared.modes.MouseProtocolMode.TheVariants as mouse
use Rattle.vt100_forms.specs.declared.modes.MouseProtocolEncoding.TheVariants as encoding
use Rattle.vt100_forms.specs.declared.modes.CursorStyle.TheVariants as style
use Rattle.vt100_forms.specs.Form.{Form, Keypad, CursorKeys, Paste, Mouse, Encoding, Style, bytes_of}
use Rattle.vt100_cells.specs.Cell.{bool_eq}
use Rattle.terminal_model.specs.Term.{Shown}
use Rattle.screen_drawing.specs.Modes.{switch, attributes_formatted, input_mode_formatted, input_mode_diff}
use Rattle.vt100_core.proofs.WriterLemmas.{bytes_then}

-- some forms are appended, and then others unless there is no memory
pub written_then : {T E : Type 0} (r : Result T E) (fs gs : List Form) (s t u : List ℕ) → t ≡ s ++ bytes_of fs
    → u ≡ cond (is_ok r) (t ++ bytes_of gs) t → OnOk r (u ≡ s ++ bytes_of (fs ++ gs))
written_then (Ok x) fs gs s t u a b = bytes_then fs gs s t u a b
written_then (Err x) fs gs s t u a b = tt

-- six times
pub six_written : {T E : Type 0} (r : Result T E) (f1 f2 f3 f4 f5 f6 : List Form) (s t1 t2 t3 t4 t5 u : List ℕ)
    → t1 ≡ s ++ bytes_of f1 → t2 ≡ t1 ++ bytes_of f2 → t3 ≡ t2 ++ bytes_of f3 → t4 ≡ t3 ++ bytes_of f4 → t5 ≡ t4
    ++ bytes_of f5
    → u ≡ cond (is_ok r) (t5 ++ bytes_of f6) t5 → OnOk r (u ≡ s ++ bytes_of (f1 ++ f2 ++ f3 ++ (f4 ++ (f5 ++ f6))))
six_written (Ok x) f1 f2 f3 f4 f5 f6 s t1 t2 t3 t4 t5 u a b c d e f =
    bytes_then (f1 ++ f2 ++ f3) (f4 ++ (f5 ++ f6)) s t3 u
    (bytes_then (f1 ++ f2) f3 s t2 t3 (bytes_then f1 f2 s t1 t2 a b) c)
    (bytes_then f4 (f5 ++ f6) t3 t4 u d (bytes_then f5 f6 t4 t5 u e f))
six_written (Err x) f1 f2 f3 f4 f5 f6 s t1 t2 t3 t4 t5 u a b c d e f = tt

-- a form where a switch changes
abbrev pub where_changed : Bool → Bool → Form → List Form
where_changed old new f = cond (bool_eq new old) [] (f ∷ [])

-- ---- where memory ran out

-- what doesn't fit in a string's room is some bytes
pub some-full : {Z : Type 0} (s : String Z) (bs : List ℕ) → string_capacity s < string_len s + length bs → bs ≡ [] → ⊥
some-full s bs full none = let z = ap length none in let fits = s.bytes.ok.1 in omega (arith, full, z, fits)

-- if there are no such bytes, what a call says of a refusal shows that the call isn't refused
pub fits-ok : {Z T E : Type 0} (r : Result T E) (s : String Z) (bs : List ℕ)
    → OnErr r (string_capacity s < string_len s + length bs) → bs ≡ [] → IsOk r
fits-ok (Ok x) s bs full none = refl
fits-ok (Err e) s bs full none = absurd (some-full s bs full none)

no-length : (bs : List ℕ) → length bs ≡ 0 → bs ≡ []
no-length [] h = refl
no-length (x ∷ xs) h = absurd (omega (arith, h))

-- where two lists of forms have no bytes, neither has
pub none-joined : (fs gs : List Form) → bytes_of (fs ++ gs) ≡ [] → (bytes_of fs ≡ []) × (bytes_of gs ≡ [])
none-joined fs gs h =
    let both = ap length (sym (bytes_of-joined fs gs) ∙ h) in
    let sum = length-append (bytes_of fs) (bytes_of gs) in
    (no-length (bytes_of fs) (omega (arith, both, sum)), no-length (bytes_of gs) (omega (arith, both, sum)))

-- some forms always have bytes
abbrev begins : List ℕ → Bool
begins [] = false
begins (b ∷ bs) = true

pub attributes-some : (s : Shown) → bytes_of (attributes_formatted s) ≡ [] → ⊥
unfolding attributes_formatted
attributes-some s h = false≢true (sym (ap begins h))

keypad-some : (b : Bool) (fs : List Form) → bytes_of (Keypad b ∷ fs) ≡ [] → ⊥
keypad-some true fs h = false≢true (sym (ap begins h))
keypad-some false fs h = false≢true (sym (ap begins h))

pub modes-some : (s : Shown) → bytes_of (input_mode_formatted s) ≡ [] → ⊥
unfolding input_mode_formatted
modes-some s h =
    keypad-some s.modes.keypad (CursorKeys s.modes.cursor_keys ∷ Paste s.modes.paste ∷ Mouse s.modes.mouse mouse.None
    ∷ Encoding s.modes.encoding encoding.Default ∷ Style s.style style.Default ∷ []) h

-- where the modes' changes have no bytes, no form of theirs has
pub record HasNoChanges (old new : Shown) : Type 0 where
  pub keypad : bytes_of (switch Keypad old.modes.keypad new.modes.keypad) ≡ []
  pub cursor_keys : bytes_of (switch CursorKeys old.modes.cursor_keys new.modes.cursor_keys) ≡ []
  pub paste : bytes_of (switch Paste old.modes.paste new.modes.paste) ≡ []
  pub mouse : bytes_of (Mouse new.modes.mouse old.modes.mouse ∷ []) ≡ []
  pub encoding : bytes_of (Encoding new.modes.encoding old.modes.encoding ∷ []) ≡ []
  pub style : bytes_of (Style new.style old.style ∷ []) ≡ []

pub no-changes : (old new : Shown) → bytes_of (input_mode_diff old new) ≡ [] → HasNoChanges old new
unfolding input_mode_diff
no-changes old new h =
    let k = switch Keypad old.modes.keypad new.modes.keypad in
    let c = switch CursorKeys old.modes.cursor_keys new.modes.cursor_keys in
    let p = switch Paste old.modes.paste new.modes.paste in
    let m = Mouse new.modes.mouse old.modes.mouse in
    let e = Encoding new.modes.encoding old.modes.encoding in
    let s = Style new.style old.style in
    let all = none-joined (k ++ c ++ p) (m ∷ e ∷ s ∷ []) h in
    let switches = none-joined (k ++ c) p all.0 in
    let first = none-joined k c switches.0 in
    let last = none-joined (m ∷ []) (e ∷ s ∷ []) all.1 in
    let others = none-joined (e ∷ []) (s ∷ []) last.1 in
    record {
      keypad = first.0;
      cursor_keys = first.1;
      paste = switches.1;
      mouse = last.0;
      encoding = others.0;
      style = others.1;
    }
