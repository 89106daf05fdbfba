-- Which form a change of attributes is.
use Rattle.std.proofs.Common.{◌≡◌, ◌==◌, ℕ, refl, ap, sym, ◌∙◌, false, List, [], ◌∷◌, length}
use Rattle.std.proofs.Common.{Result, Ok, Err, OnOk, IsOk}
use Rattle.std.proofs.lemmas.Bool.{false≢true}
use Rattle.std.specs.Prelude.{if◌then◌else◌}
use Rattle.vt100_forms.specs.declared.attrs.Attrs.{Attrs}
use Rattle.vt100_forms.specs.Attrs.{attrs_eq, default_attrs}
use Rattle.vt100_forms.specs.Form.{Sgr, ClearAttrs, change, changed_attrs}
use Rattle.vt100_forms.specs.Writer.{HandsOver}

pub change_sgr : (old new : Attrs) → attrs_eq new old ≡ false → attrs_eq new default_attrs ≡ false
    → change old new ≡ Sgr (changed_attrs old new) ∷ []
change_sgr old new differs plain =
    ap (λ b. if b then [] else if attrs_eq new default_attrs then ClearAttrs ∷ []
    else Sgr (changed_attrs old new) ∷ []) differs
    ∙ ap (λ b. if b then ClearAttrs ∷ [] else Sgr (changed_attrs old new) ∷ []) plain

-- some bytes are written in one call
pub handed_over : {W : Type 0} (gives : W → List ℕ → W → Type 0) (w : W) (bs : List ℕ) (v : W)
    → (length bs == 0) ≡ false → gives w bs v → HandsOver gives w bs v
handed_over gives w [] v h g = absurd (false≢true (sym h))
handed_over gives w (b ∷ bs) v h g = g

pub on_ok : {A E P : Type 0} (r : Result A E) → (IsOk r → P) → OnOk r P
on_ok (Ok x) h = h refl
on_ok (Err e) h = tt
