-- Laws of the hold.
use Rattle.std.proofs.Common.{◌≡◌, ◌<◌, ℕ, Bool, true, false, List, [], ◌++◌, Option, Some, take, drop, length}
use Rattle.std.proofs.Common.{refl, sym, ◌∙◌, ap, append_assoc, arith}
use Rattle.std.proofs.lemmas.List.{append-nil, take-append-drop}
use Rattle.vte_types.specs.Call.{Call}
use Rattle.vte.specs.Marks.{end_mark, NoneFrom, IsLast}
use Rattle.vte.specs.Timeout.{Ticking, Tick}
use Rattle.vte.specs.Advances as any
use Rattle.vte.specs.Advances.{Advances}
use Rattle.vte.specs.Hold.{Settles, keeps, replays, closes, Takes, parses, begins, settles, overflows, held_of, limit}

-- what is parsed of a piece comes before the rest
cut : (parsed piece : List ℕ) (n : ℕ) → parsed ++ piece ≡ (parsed ++ take n piece) ++ drop n piece
cut parsed piece n = ap (λ xs. parsed ++ xs) (sym (take-append-drop n piece))
    ∙ sym (append_assoc parsed (take n piece) (drop n piece))

settle : {parsed held piece parsed' : List ℕ} {hold' : Option (List ℕ)} {calls : List Call} {ticks : List Tick}
    → Settles parsed held piece parsed' hold' calls ticks → parsed ++ (held ++ piece) ≡ parsed' ++ held_of hold'
settle (keeps _ _ _ _ r none) = refl
settle (replays parsed held piece _ r n is) = cut parsed (held ++ piece) n
settle (closes parsed held piece _ r c) = sym (append-nil (parsed ++ (held ++ piece)))

pub conserve : {parsed : List ℕ} {hold : Option (List ℕ)} {piece parsed' : List ℕ} {hold' : Option (List ℕ)}
    {calls : List Call} {ticks : List Tick}
    → Takes parsed hold piece parsed' hold' calls ticks → parsed ++ (held_of hold ++ piece) ≡ parsed' ++ held_of hold'
conserve (parses parsed piece none) = sym (append-nil (parsed ++ piece))
conserve (begins parsed piece n _ _ cs ts at t) = cut parsed piece n ∙ conserve t
conserve (settles _ _ _ _ _ _ _ fits s) = settle s
conserve (overflows parsed held piece _ _ cs ts full t) = sym (append_assoc parsed held piece) ∙ conserve t

pub conserve_any : {T : Type 0} {ticking : Ticking T} {closed : Bool} {t : T} {parsed held piece : List ℕ} {t' : T}
    {parsed' held' : List ℕ} {calls : List Call}
    → Advances ticking closed t parsed held piece t' parsed' held' calls
    → parsed ++ (held ++ piece) ≡ parsed' ++ held'
conserve_any (any.parses _ _ parsed piece free none) = sym (append-nil (parsed ++ piece))
conserve_any (any.begins _ _ parsed piece n u _ _ _ cs free at y f) = cut parsed piece n ∙ conserve_any f
conserve_any (any.settles _ _ _ _ _ _ hold' _ ticks open_ fits s y) = settle s
conserve_any (any.empties _ parsed held piece is_open u _ _ _ cs asked must y f) =
    sym (append_assoc parsed held piece) ∙ conserve_any f

pub contradiction : (text : List ℕ) (e : ℕ) → IsLast end_mark text e → NoneFrom end_mark text 0 → ⊥
contradiction text e last none = let no : true ≡ false = sym last.1 ∙ none e (omega arith) last.0 in cc

untorn : {parsed held piece parsed' : List ℕ} {hold' : Option (List ℕ)} {calls : List Call} {ticks : List Tick}
    → Settles parsed held piece parsed' hold' calls ticks → NoneFrom end_mark (held ++ piece) 0
    → (parsed' ≡ parsed) × (hold' ≡ Some (held ++ piece)) × (calls ≡ [])
untorn (keeps _ _ _ _ r none) absent = (refl, refl, refl)
untorn (replays _ held piece _ r n cut) absent = absurd (contradiction (held ++ piece) cut.0 cut.1 absent)
untorn (closes _ held piece _ r c) absent = absurd (contradiction (held ++ piece) c.0 c.1 absent)

pub not_torn : (parsed held piece parsed' : List ℕ) (hold' : Option (List ℕ)) (calls : List Call) (ticks : List Tick)
    → Takes parsed (Some held) piece parsed' hold' calls ticks → length (held ++ piece) < limit
    → NoneFrom end_mark (held ++ piece) 0
    → (parsed' ≡ parsed) × (hold' ≡ Some (held ++ piece)) × (calls ≡ [])
not_torn parsed held piece parsed' hold' calls ticks (settles _ _ _ _ _ _ _ fits s) room none = untorn s none
not_torn parsed held piece parsed' hold' calls ticks (overflows _ _ _ _ _ cs ts full t) room none = absurd (omega arith)
