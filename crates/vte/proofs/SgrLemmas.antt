-- SGR, number by number.
use Rattle.std.proofs.Common.{◌≡◌, ℕ, List, [], ◌∷◌, None, map, sym, ap, subst}
use Rattle.std.proofs.lemmas.List.{map-append}
use Rattle.std.specs.Option.{option_to_list}
use Rattle.vte_types.specs.Call.{Call, Calls, terminal_attribute}
use Rattle.vte_types.specs.Lookup.{lookup}
use Rattle.vte_types.specs.declared.attr.Attr.{Attr}
use Rattle.vte_types.proofs.CallLemmas.{Calls-append}
use Rattle.vte.specs.Sgr.{singles, target_of, attributes, awaits_kind}
use Rattle.vte.specs.SgrSteps.{SetsFirst}

-- a number that begins no colour
pub sets-single : {H : Type 0} (step : H → Call → H → Type 0) (code : ℕ) (h : H) (gs : List (List ℕ)) (h' : H)
    → target_of code ≡ None → Calls step h (map terminal_attribute (option_to_list (lookup code singles))) h'
    → SetsFirst step (code ∷ []) h gs h' gs
sets-single {H} step code h gs h' none single end more =
    let one = option_to_list (lookup code singles) in
    let left = attributes (awaits_kind (target_of code)) gs in
    subst (λ (cs : List Call). Calls step h cs end) (sym (map-append terminal_attribute one left))
    (Calls-append step h h' end (map terminal_attribute one) (map terminal_attribute left) single
    (subst (λ (xs : List Attr). Calls step h' (map terminal_attribute xs) end)
    (sym (ap (λ o. attributes (awaits_kind o) gs) none)) more))
