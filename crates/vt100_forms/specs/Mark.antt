-- The marks of a synchronized update (private mode 2026). No list of forms holds one.
use Rattle.std.specs.Prelude.{ℕ, ◌≡◌, List, ◌∷◌, ◌++◌, codes, encode_utf8_all}
use Rattle.std.specs.List.{AllByRecursion}
use Rattle.vt100_forms.specs.Form.{Form, HasText, bytes_of}

-- what both marks begin with: the start mark ends in h, the end mark in l
abbrev pub mark_head : List ℕ
mark_head = 27 ∷ codes "[?2026"

-- the text of a cell has no ESC
abbrev pub HasPlainText : Form → Type 0
HasPlainText = HasText (λ cs. AllByRecursion (λ b. b ≡ 27 → ⊥) (encode_utf8_all cs))

-- in forms that are followed by r, each mark begins after the forms
abbrev pub MarksStandBehindForms : Type 0
MarksStandBehindForms = (fs : List Form) → AllByRecursion HasPlainText fs → (r xs ys : List ℕ)
    → bytes_of fs ++ r ≡ xs ++ (mark_head ++ ys) → (zs : List ℕ) × (xs ≡ bytes_of fs ++ zs)

-- the bytes hold no mark
abbrev pub HasNoMark : List Form → Type 0
HasNoMark fs = (xs ys : List ℕ) → bytes_of fs ≡ xs ++ (mark_head ++ ys) → ⊥

abbrev pub NoMarkInForms : Type 0
NoMarkInForms = (fs : List Form) → AllByRecursion HasPlainText fs → HasNoMark fs
