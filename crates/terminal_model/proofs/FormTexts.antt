-- The forms that writers send, and lists of them.
use Rattle.std.proofs.Common.{◌≡◌, ℕ, ◌<◌, true, List, [], ◌∷◌, length, arith, sym, ap, ◌∙◌}
use Rattle.std.specs.Prelude.{Contains, slice_index_or}
use Rattle.std.specs.List.{AllByRecursion}
use Rattle.std.proofs.lemmas.Bool.Decides.{nat_tests}
use Rattle.vt100_forms.specs.Attrs.{default_attrs}
use Rattle.vt100_forms.specs.Form.{Form, Text}
use Rattle.vt100_forms.specs.Mark.{HasPlainText}
use Rattle.vt100_cells.specs.Cell.{CellView, has_text, cell_of}
use Rattle.vt100_cells.proofs.CellLemmas.{IsCell-space}
use Rattle.vt100_forms.specs.Form.{HasText}
use Rattle.terminal_model.specs.FormText.{IsSentText, IsFormText, IsForm, IsSentForm, AreForms}
use Rattle.terminal_model.specs.FormText.{AreSentForms, EachFormIsSent, EachSentFormIsPlain}
use Rattle.terminal_model.proofs.PlainText.{text-plain, cell-sent}

-- ---- lists

pub all-each : {X : Type 0} (Q R : X → Type 0) → ((x : X) → Q x → R x) → (xs : List X) → AllByRecursion Q xs
    → AllByRecursion R xs
all-each Q R f [] h = tt
all-each Q R f (x ∷ xs) h = (f x h.0, all-each Q R f xs h.1)

pub all-both : {X : Type 0} (Q R : X → Type 0) (xs : List X) → AllByRecursion Q xs → AllByRecursion R xs
    → AllByRecursion (λ x. Q x × R x) xs
all-both Q R [] h k = tt
all-both Q R (x ∷ xs) h k = ((h.0, k.0), all-both Q R xs h.1 k.1)

-- ---- a space, and the texts of cells

no-other : (c : ℕ) → (32 ≡ c → ⊥) → Contains {X = ℕ} (32 ∷ []) c → ⊥
no-other c differs h =
    let zero : h.0 ≡ 0 = omega (arith, h.1) in
    differs (ap (λ k. slice_index_or (32 ∷ []) k c) (sym zero) ∙ h.2)

pub space-sent : IsSentText (32 ∷ [])
space-sent = cell-sent (cell_of 32 default_attrs) (IsCell-space default_attrs) (omega arith)
    (λ h. no-other 0xFFFD (λ e. absurd (omega (arith, e))) h)

pub space-form : IsFormText (32 ∷ [])
space-form = record { sent = space-sent; plain = λ e. no-other 0xFE0F (λ q. absurd (omega (arith, q))) e }

pub some-text : (x : CellView) → has_text x ≡ true → 0 < length x.text
some-text x h = grind (arith, nat_tests)

-- ---- forms

pub form-sent : EachFormIsSent
form-sent (Text cs) h = (h.0.sent, h.1)
form-sent f h = h

pub forms-sent : (fs : List Form) → AreForms fs → AreSentForms fs
forms-sent = all-each IsForm IsSentForm form-sent

pub text-is_plain : (f : Form) → HasText IsSentText f → HasPlainText f
text-is_plain (Text cs) h = text-plain cs h
text-is_plain f h = tt

pub form-plain : EachSentFormIsPlain
form-plain f h = text-is_plain f h.0
