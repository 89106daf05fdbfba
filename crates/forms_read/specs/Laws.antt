-- Laws of the events of forms.
use Rattle.std.specs.Prelude.{ℕ, ◌≡◌, false, ◌||◌, nat_lt, List, ◌++◌}
use Rattle.std.specs.Char.{IsScalar}
use Rattle.std.specs.Int.{is_in_range}
use Rattle.std.specs.List.{AllByRecursion}
use Rattle.vte_core.specs.Event.{Event}
use Rattle.vte_core.specs.Shapes.{events}
use Rattle.vte_core.specs.Added.{added}
use Rattle.vte_core.specs.Ground.{AtGround}
use Rattle.vt100_forms.specs.Form.{Form, Text, HasText, form_bytes, bytes_of}
use Rattle.vt100_forms.specs.Length.{HasSmallNumbers}
use Rattle.terminal_model.specs.FormText.{IsSentText, IsSentForm}
use Rattle.forms_read.specs.Events.{events_of, events_of_all}

-- a parser prints the character: it is a Unicode scalar value, and neither a C0 (below U+0020) nor a C1 control (U+0080
-- to U+009F)
abbrev pub IsPrinted : ℕ → Type 0
IsPrinted c = IsScalar c × ((nat_lt c 0x20 || is_in_range 0x80 0x9F c) ≡ false)

-- a parser prints each character of the form's text, if it is a text
abbrev pub HasPrintedText : Form → Type 0
HasPrintedText = HasText (AllByRecursion IsPrinted)

-- the form's text is printed, and its numbers fit the code's types
abbrev pub IsReadable : Form → Type 0
IsReadable f = HasPrintedText f × HasSmallNumbers f

-- ---- what a parser makes of it

-- A parser that keeps n bytes of an operating system command (OSC) makes these events of these bytes, and is at ground
-- after them.
abbrev pub IsReadAs : ℕ → List ℕ → List Event → Type 0
IsReadAs n bytes es = (events n bytes ≡ es) × AtGround n bytes

-- the bytes of a form are read as the form's events
abbrev pub EachFormIsRead : Type 0
EachFormIsRead = (n : ℕ) (f : Form) → IsReadable f → IsReadAs n (form_bytes f) (events_of f)

-- a list of forms is read after any past that leaves the parser at ground
abbrev pub EachListIsRead : Type 0
EachListIsRead = (n : ℕ) (past : List ℕ) (fs : List Form) → AtGround n past → AllByRecursion IsReadable fs
    → (added n past (bytes_of fs) ≡ events_of_all fs) × AtGround n (past ++ bytes_of fs)

-- the text of a cell that writers send is printed, also if it has U+FE0F
abbrev pub EachSentTextIsPrinted : Type 0
EachSentTextIsPrinted = (cs : List ℕ) → IsSentText cs → HasPrintedText (Text cs)

-- a parser reads each form that writers send
abbrev pub EachSentFormIsReadable : Type 0
EachSentFormIsReadable = (f : Form) → IsSentForm f → IsReadable f
