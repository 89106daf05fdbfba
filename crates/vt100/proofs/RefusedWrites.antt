-- What is refused of forms that are appended one after the other.
use Rattle.std.proofs.Common.{◌≡◌, ◌+◌, ◌<◌, ◌≤◌, true, cond, List, [], ◌∷◌, ◌++◌, Result, Ok, Err, is_ok, OnErr}
use Rattle.std.proofs.Common.{length, refl, sym, append-nil}
use Rattle.std.specs.Prelude.{String, string_bytes, string_len, string_capacity}
use Rattle.vt100_forms.specs.declared.modes.MouseProtocolMode.TheVariants as mouse
use Rattle.vt100_forms.specs.declared.modes.MouseProtocolEncoding.TheVariants as encoding
use Rattle.vt100_forms.specs.declared.modes.CursorStyle.TheVariants as style
use Rattle.vt100_forms.specs.Form.{Form, Keypad, CursorKeys, Paste, Mouse, Encoding, Style, bytes_of}
use Rattle.terminal_model.specs.Term.{Shown}
use Rattle.screen_drawing.specs.Modes.{switch, input_mode_diff}
use Rattle.vt100_core.specs.Writers.{AppendedForms, RefusedForms}
use Rattle.vt100_core.proofs.WriterLemmas.{appended, appends_rest, begun_none, begun_rest, refused_prefix}

pub on_err : {T E P : Type 0} (r : Result T E) → P → OnErr r P
on_err (Ok x) p = tt
on_err (Err e) p = p

module _ {Z : Type 0} where
  -- the first ones are refused
  pub cut : (fs gs : List Form) (s t : String Z) → RefusedForms fs s t → RefusedForms (fs ++ gs) s t
  cut fs gs s t h = refused_prefix {T = Unit {0}} {E = Unit {0}} (Err tt) fs gs (fs ++ gs) s t refl refl h

  -- some are appended, and then others
  pub both : (fs gs : List Form) (s t u : String Z) → AppendedForms fs s t → AppendedForms gs t u
      → AppendedForms (fs ++ gs) s u
  both fs gs s t u a b = appends_rest fs gs (fs ++ gs) s t true u refl a b

  -- a form is refused, before others
  pub first_refused : (f : Form) (rest : List Form) (s u : String Z) → string_bytes u ≡ string_bytes s
      → string_capacity s < string_len s + length (bytes_of (f ∷ [])) → RefusedForms (f ∷ rest) s u
  first_refused f rest s u same full = begun_none (f ∷ []) rest (f ∷ rest) s u refl same full

  -- a form is appended, and those after it are refused
  pub rest_refused : (f : Form) (rest : List Form) (s t u : String Z)
      → string_bytes t ≡ string_bytes s ++ bytes_of (f ∷ []) → string_capacity s ≤ string_capacity t
      → RefusedForms rest t u → RefusedForms (f ∷ rest) s u
  rest_refused f rest s t u e room h = begun_rest (f ∷ []) rest s t u (appended t e room) h

  -- the last ones, which are appended in one piece, are refused where that is
  pub last_refused : {T E : Type 0} (r : Result T E) (fs : List Form) (s t : String Z)
      → string_bytes t ≡ cond (is_ok r) (string_bytes s ++ bytes_of fs) (string_bytes s)
      → OnErr r (string_capacity s < string_len s + length (bytes_of fs)) → OnErr r (RefusedForms fs s t)
  last_refused (Ok x) fs s t e full = tt
  last_refused (Err x) fs s t e full = begun_none fs [] fs s t (sym (append-nil fs)) e full

  -- some are appended, and those after them refused
  pub then_refused : {T E : Type 0} (r : Result T E) (fs gs : List Form) (s t u : String Z) → AppendedForms fs s t
      → OnErr r (RefusedForms gs t u) → OnErr r (RefusedForms (fs ++ gs) s u)
  then_refused (Ok x) fs gs s t u a h = tt
  then_refused (Err x) fs gs s t u a h = begun_rest fs gs s t u a h

-- ---- the modes

-- the forms of the modes and of the cursor's style from one of them on
abbrev pub from_style : Shown → List Form
from_style s = Style s.style style.Default ∷ []

abbrev pub from_encoding : Shown → List Form
from_encoding s = Encoding s.modes.encoding encoding.Default ∷ from_style s

abbrev pub from_mouse : Shown → List Form
from_mouse s = Mouse s.modes.mouse mouse.None ∷ from_encoding s

abbrev pub from_paste : Shown → List Form
from_paste s = Paste s.modes.paste ∷ from_mouse s

abbrev pub from_cursor_keys : Shown → List Form
from_cursor_keys s = CursorKeys s.modes.cursor_keys ∷ from_paste s

-- the three that are left out where they don't change, and the others
abbrev pub keypad : Shown → Shown → List Form
keypad old new = switch Keypad old.modes.keypad new.modes.keypad

abbrev pub cursor_keys : Shown → Shown → List Form
cursor_keys old new = switch CursorKeys old.modes.cursor_keys new.modes.cursor_keys

abbrev pub paste : Shown → Shown → List Form
paste old new = switch Paste old.modes.paste new.modes.paste

abbrev pub style_change : Shown → Shown → List Form
style_change old new = Style new.style old.style ∷ []

abbrev pub encoding_change : Shown → Shown → List Form
encoding_change old new = Encoding new.modes.encoding old.modes.encoding ∷ style_change old new

abbrev pub others : Shown → Shown → List Form
others old new = Mouse new.modes.mouse old.modes.mouse ∷ encoding_change old new

module _ {Z : Type 0} (old new : Shown) (s : String Z) where
  pub keypad-refused : (u : String Z) → RefusedForms (keypad old new) s u → RefusedForms (input_mode_diff old new) s u
  unfolding input_mode_diff
  keypad-refused u h =
      cut (keypad old new ++ cursor_keys old new ++ paste old new) (others old new) s u
      (cut (keypad old new ++ cursor_keys old new) (paste old new) s u
      (cut (keypad old new) (cursor_keys old new) s u h))

  pub cursor_keys-refused : (t u : String Z) → AppendedForms (keypad old new) s t
      → RefusedForms (cursor_keys old new) t u → RefusedForms (input_mode_diff old new) s u
  unfolding input_mode_diff
  cursor_keys-refused t u a h =
      cut (keypad old new ++ cursor_keys old new ++ paste old new) (others old new) s u
      (cut (keypad old new ++ cursor_keys old new) (paste old new) s u
      (begun_rest (keypad old new) (cursor_keys old new) s t u a h))

  pub paste-refused : (t u v : String Z) → AppendedForms (keypad old new) s t → AppendedForms (cursor_keys old new) t u
      → RefusedForms (paste old new) u v → RefusedForms (input_mode_diff old new) s v
  unfolding input_mode_diff
  paste-refused t u v a b h =
      cut (keypad old new ++ cursor_keys old new ++ paste old new) (others old new) s v
      (begun_rest (keypad old new ++ cursor_keys old new) (paste old new) s u v
      (both (keypad old new) (cursor_keys old new) s t u a b) h)

  pub others-refused : {T E : Type 0} (r : Result T E) (t u v w : String Z) → AppendedForms (keypad old new) s t
      → AppendedForms (cursor_keys old new) t u → AppendedForms (paste old new) u v
      → OnErr r (RefusedForms (others old new) v w) → OnErr r (RefusedForms (input_mode_diff old new) s w)
  unfolding input_mode_diff
  others-refused r t u v w a b d h =
      then_refused r (keypad old new ++ cursor_keys old new ++ paste old new) (others old new) s v w
      (both (keypad old new ++ cursor_keys old new) (paste old new) s u v
      (both (keypad old new) (cursor_keys old new) s t u a b) d) h
