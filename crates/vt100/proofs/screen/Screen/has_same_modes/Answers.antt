use Rattle.std.proofs.Common.{◌≡◌, ◌∙◌, ◌&&◌, ◌==◌, Bool, arith}
use Rattle.std.proofs.lemmas.Bool.Decides.{nat_tests}
use denote.Enum.Bare.{sameb}
use mathlib.Core.Bool.{beq}
use Rattle.vt100_forms.specs.contracts.modes.MouseProtocolMode as mode
use Rattle.vt100_forms.specs.contracts.modes.MouseProtocolEncoding as coding
use Rattle.vt100_forms.specs.declared.modes.MouseProtocolMode.{MouseProtocolMode}
use Rattle.vt100_forms.specs.declared.modes.MouseProtocolEncoding.{MouseProtocolEncoding}
use Rattle.vt100_forms.specs.Form.{mouse_number, encoding_number}
use Rattle.vt100_cells.specs.Cell.{bool_eq}
use Rattle.vt100.proofs.screen.Screen.has_same_modes.Goals as goal

same-bools : (a b : Bool) → beq a b ≡ bool_eq a b
same-bools a b = grind arith

same-mice : (m n : MouseProtocolMode) → sameb mode.the_type m n ≡ (mouse_number m == mouse_number n)
same-mice m n = grind (arith, nat_tests)

same-codings : (m n : MouseProtocolEncoding) → sameb coding.the_type m n ≡ (encoding_number m == encoding_number n)
same-codings m n = grind (arith, nat_tests)

pub returns : goal.returns
returns c =
    let m = c.self.inside.modes in
    let n = c.other.inside.modes in
    let keypad = same-bools m.application_keypad n.application_keypad in
    let keys = same-bools m.application_cursor n.application_cursor in
    let paste = same-bools m.bracketed_paste n.bracketed_paste in
    let mice = same-mice m.mouse_protocol_mode n.mouse_protocol_mode in
    let codings = same-codings m.mouse_protocol_encoding n.mouse_protocol_encoding in
    rw (← c.self.view_is, ← c.other.view_is)
    (c.eq.ensures ∙ (λ i. keypad i && (keys i && (paste i && (mice i && codings i)))))
