-- Laws of the calls that forms cause.
use Rattle.std.specs.Prelude.{ℕ, ◌≡◌, List, Option}
use Rattle.std.specs.List.{AllByRecursion}
use Rattle.vte_core.specs.Added.{added}
use Rattle.vte_core.specs.Ground.{AtGround}
use Rattle.vte.specs.Performed.{calls_of_all}
use Rattle.vt100_forms.specs.Form.{Form, bytes_of}
use Rattle.vt100_forms.specs.Length.{HasSmallNumbers}
use Rattle.forms_read.specs.Events.{events_of, events_of_all}
use Rattle.forms_read.specs.Laws.{IsReadable}
use Rattle.forms_read.specs.Calls.{form_calls, form_calls_all}

-- the events of a form cause the form's calls, whatever character was printed last
abbrev pub EachFormCalls : Type 0
EachFormCalls = (last : Option ℕ) (f : Form) → HasSmallNumbers f → calls_of_all last (events_of f) ≡ form_calls f

-- the events of a list of forms cause the calls of each form in turn
abbrev pub EachListCalls : Type 0
EachListCalls = (last : Option ℕ) (fs : List Form) → AllByRecursion HasSmallNumbers fs
    → calls_of_all last (events_of_all fs) ≡ form_calls_all fs

-- The bytes of forms cause the forms' calls, after any past that leaves the parser at ground. The parser keeps n bytes
-- of an operating system command (OSC).
abbrev pub EachWrittenFormCalls : Type 0
EachWrittenFormCalls = (n : ℕ) (past : List ℕ) (last : Option ℕ) (fs : List Form) → AtGround n past
    → AllByRecursion IsReadable fs → calls_of_all last (added n past (bytes_of fs)) ≡ form_calls_all fs
