-- Which texts of cells, and which numbers, the forms of writers hold.
use Rattle.std.specs.Prelude.{ℕ, ◌<◌, List, length, All, Contains}
use Rattle.std.specs.Char.{IsScalar}
use Rattle.std.specs.List.{AllByRecursion}
use Rattle.vt100_forms.specs.Form.{Form, Text, HasText}
use Rattle.vt100_forms.specs.Length.{HasSmallNumbers}
use Rattle.vt100_forms.specs.Mark.{HasPlainText}
use Rattle.vt100_cells.specs.Cell.{CellView, IsCell, IsCellText, IsShort}

-- ---- texts

-- A drawn character of one or two columns, which isn't U+FFFD, and then zero-width ones, each added while the text had
-- fewer than 18 bytes.
pub record IsSentText (cs : List ℕ) : Type 0 where
  pub some : 0 < length cs
  pub characters : IsCellText cs
  pub short : IsShort cs
  pub scalars : All IsScalar cs
  pub known : Contains cs 0xFFFD → ⊥

-- the same without U+FE0F, which makes a cell wide in some terminals
pub record IsFormText (cs : List ℕ) : Type 0 where
  pub sent : IsSentText cs
  pub plain : Contains cs 0xFE0F → ⊥

-- ---- forms

abbrev pub AllTexts : (List ℕ → Type 0) → List Form → Type 0
AllTexts P fs = AllByRecursion (HasText P) fs

-- what writers send: a text that a cell can show, and numbers that fit in the code's types
abbrev pub IsSentForm : Form → Type 0
IsSentForm f = HasText IsSentText f × HasSmallNumbers f

-- the same without U+FE0F
abbrev pub IsForm : Form → Type 0
IsForm f = HasText IsFormText f × HasSmallNumbers f

abbrev pub AreSentForms : List Form → Type 0
AreSentForms fs = AllByRecursion IsSentForm fs

abbrev pub AreForms : List Form → Type 0
AreForms fs = AllByRecursion IsForm fs

-- ---- what is true of them

-- a text that writers send holds no ESC
abbrev pub EachTextIsPlain : Type 0
EachTextIsPlain = (cs : List ℕ) → IsSentText cs → HasPlainText (Text cs)

-- the text of a cell is one that writers send, unless it holds U+FFFD
abbrev pub EachCellIsSent : Type 0
EachCellIsSent = (x : CellView) → IsCell x → 0 < length x.text → (Contains x.text 0xFFFD → ⊥) → IsSentText x.text

-- a form without U+FE0F is one that writers send, and the texts of those hold no ESC
abbrev pub EachFormIsSent : Type 0
EachFormIsSent = (f : Form) → IsForm f → IsSentForm f

abbrev pub EachSentFormIsPlain : Type 0
EachSentFormIsPlain = (f : Form) → IsSentForm f → HasPlainText f
