-- The forms that set the modes, the cursor's style and the attributes.
use Rattle.std.specs.Prelude.{List, [], ◌∷◌, ◌++◌, Bool, if◌then◌else◌}
use Rattle.vt100_forms.specs.declared.modes.MouseProtocolMode.TheVariants as mouse
use Rattle.vt100_forms.specs.declared.modes.MouseProtocolEncoding.TheVariants as encoding
use Rattle.vt100_forms.specs.declared.modes.CursorStyle.TheVariants as style
use Rattle.vt100_forms.specs.Attrs.{default_attrs}
use Rattle.vt100_forms.specs.Form.{Form, ClearAttrs, Keypad, CursorKeys, Paste, Mouse, Encoding, Style, change}
use Rattle.vt100_cells.specs.Cell.{bool_eq}
use Rattle.terminal_model.specs.Term.{Shown}

-- the form that sets a switch, if it changes
abbrev pub switch : (Bool → Form) → Bool → Bool → List Form
switch form old new = if bool_eq new old then [] else form new ∷ []

-- The forms of the mouse modes and of the cursor's style have no bytes if nothing changes.
unfoldable pub input_mode_formatted : Shown → List Form
input_mode_formatted s =
    Keypad s.modes.keypad ∷ CursorKeys s.modes.cursor_keys ∷ Paste s.modes.paste ∷ Mouse s.modes.mouse mouse.None
    ∷ Encoding s.modes.encoding encoding.Default ∷ Style s.style style.Default ∷ []

unfoldable pub input_mode_diff : Shown → Shown → List Form
input_mode_diff old new =
    switch Keypad old.modes.keypad new.modes.keypad ++ switch CursorKeys old.modes.cursor_keys new.modes.cursor_keys
    ++ switch Paste old.modes.paste new.modes.paste ++ Mouse new.modes.mouse old.modes.mouse
    ∷ Encoding new.modes.encoding old.modes.encoding ∷ Style new.style old.style ∷ []

unfoldable pub attributes_formatted : Shown → List Form
attributes_formatted s = ClearAttrs ∷ change default_attrs s.attrs
