-- Calls of a handler, one after another.
use Rattle.std.proofs.Common.{◌≡◌, ◌∙◌, sym, ap, refl, ℕ, List, [], ◌∷◌, ◌++◌, map, subst}
use Rattle.std.proofs.lemmas.List.{map-append}
use Rattle.vte_types.specs.Call.{Call, Calls, input}

pub Calls-append : {S : Type 0} (step : S → Call → S → Type 0) (s m t : S) (a b : List Call) → Calls step s a m
    → Calls step m b t → Calls step s (a ++ b) t
Calls-append {S} step s m t [] b h k = subst (λ (x : S). Calls step x b t) h k
Calls-append {S} step s m t (c ∷ a) b h k = (h.0, h.1, Calls-append step h.0 m t a b h.2 k)

-- one more character is passed to the handler
pub input-more : {H : Type 0} (step : H → Call → H → Type 0) (s m t : H) (cs : List ℕ) (c : ℕ) (ds : List ℕ)
    → ds ≡ cs ++ c ∷ [] → Calls step s (map input cs) m → step m (input c) t → Calls step s (map input ds) t
input-more step s m t cs c ds is before reported =
    subst (λ (xs : List Call). Calls step s xs t) (sym (map-append input cs (c ∷ [])) ∙ ap (map input) (sym is))
    (Calls-append step s m t (map input cs) (input c ∷ []) before (t, reported, refl))
