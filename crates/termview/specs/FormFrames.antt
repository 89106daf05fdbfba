-- Frames made of forms, and forms that arrive in pieces.
use Rattle.std.specs.Prelude.{◌≡◌, ℕ, ◌<◌, false, List, ◌++◌, Option, None}
use Rattle.std.specs.List.{AllByRecursion}
use Rattle.vte_core.specs.Ground.{AtGround}
use Rattle.vte.specs.Timeout.{Ticking}
use Rattle.vte.specs.Marks.{start_mark, end_mark}
use Rattle.vte.specs.Stretch.{opens_in, OpensAt}
use Rattle.vte.specs.Moves.{Move, given}
use Rattle.vte.specs.Frames.{IsFrame, Drives}
use Rattle.vt100_forms.specs.Form.{Form, bytes_of}
use Rattle.terminal_model.specs.Term.{Size}
use Rattle.terminal_model.specs.Apply.{run}
use Rattle.terminal_model.specs.FormText.{IsSentForm}
use Rattle.forms_read.specs.Terminals.{IsSmall}
use Rattle.termview.specs.Seen.{seen}
use Rattle.termview.specs.Standing.{view_size, HoldsAt, Taken}
use Rattle.termview.specs.declared.view.View.{View}

-- the marks of an update around the bytes of forms
abbrev pub framed : List Form → List ℕ
framed fs = start_mark ++ (bytes_of fs ++ end_mark)

-- the bytes of forms between the marks are a frame
abbrev pub FormsMakeFrames : Type 0
FormsMakeFrames = (fs : List Form) → AllByRecursion IsSentForm fs → IsFrame (framed fs)

-- whatever came before, such a frame opens a synchronized update at its eighth byte, and at no other byte
abbrev pub FramesOpenOnce : Type 0
FramesOpenOnce = (past : List ℕ) (fs : List Form) → AllByRecursion IsSentForm fs
    → OpensAt past (framed fs) 8 × (opens_in (past ++ start_mark) (bytes_of fs ++ end_mark) ≡ false)

-- such a frame doesn't end inside a character or an escape sequence
abbrev pub FramesFinish : Type 0
FramesFinish = (past : List ℕ) (fs : List Form) → AtGround 1024 (past ++ framed fs)

-- such a frame has the effect of its forms
abbrev pub FramesShowForms : Type 0
FramesShowForms = (z : Size) (past : List ℕ) (fs : List Form) → 0 < z.rows → 0 < z.cols → IsSmall z
    → AtGround 1024 past → AllByRecursion IsSentForm fs → seen z (past ++ framed fs) ≡ run z fs (seen z past)

-- If no update is open, and the past doesn't end inside a character or a sequence, the bytes of forms are all parsed
-- and none is buffered. This holds for any pieces, and wherever `stop_sync` is called.
abbrev pub WrittenFormsAreParsed : Type 0
WrittenFormsAreParsed = (fs : List Form) (moves : List Move) (past parsed : List ℕ) (hold : Option (List ℕ))
    → AtGround 1024 past → AllByRecursion IsSentForm fs → given moves ≡ bytes_of fs → Drives moves past None parsed hold
    → (parsed ≡ past ++ bytes_of fs) × (hold ≡ None)

-- a view that has buffered nothing parses all bytes of forms at once
abbrev pub WrittenFormsAreTaken : {T : Type 0} → Ticking T → Type 0
WrittenFormsAreTaken {T} ticking = (fs : List Form) (past : List ℕ) (old new : View T)
    → AtGround 1024 past → AllByRecursion IsSentForm fs → Taken ticking old past None (bytes_of fs) new
    → HoldsAt ticking new (past ++ bytes_of fs) None × (view_size new ≡ view_size old)
