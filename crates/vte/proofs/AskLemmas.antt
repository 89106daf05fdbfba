-- Only events of sequences open an update, and after each of them the parser asks.
use Rattle.std.proofs.Common.{◌≡◌, ℕ, zero, suc, ◌+◌, ◌<◌, ◌≤◌, true, false, List, [], ◌∷◌, ◌++◌, ◌||◌}
use Rattle.std.proofs.Common.{take, length, get_or, append_assoc, arith, refl, ap, sym, ◌∙◌, inl, inr}
use Rattle.std.specs.List.{All, list_any}
use Rattle.std.proofs.lemmas.Bool.{cases_Bool}
use Rattle.std.proofs.lemmas.List.Elements.{All-head, All-tail}
use Rattle.std.proofs.Math.Seq.{take-suc}
use Rattle.vte_core.specs.Event.{Event, Print, Execute}
use Rattle.vte_core.specs.GroundText.{ends_in_text}
use Rattle.vte_core.specs.Stopping.{asks_after}
use Rattle.vte_core.specs.Laws.{IsCharacter}
use Rattle.vte_core.proofs.GroundTextLemmas.{text-tells}
use Rattle.vte_core.proofs.AskLemmas.{asks-past_text, sequences-asked}
use Rattle.vte.specs.Table.{opens}
use Rattle.vte.specs.Stretch.{added, opens_in}
use Rattle.vte.proofs.HoldLemmas.{opens_in-none, opens_in-append}

one_none : (e : Event) → IsCharacter e → opens e ≡ false
one_none (Print c) h = refl
one_none (Execute b) h = refl
one_none e h = absurd h

all_none : (es : List Event) → All IsCharacter es → list_any opens es ≡ false
all_none [] h = refl
all_none (e ∷ es) h = rw (one_none e (All-head IsCharacter e es h)) (all_none es (All-tail IsCharacter e es h))

-- ground text opens none
pub text_opens_none : (past : List ℕ) (b : ℕ) → ends_in_text (past ++ b ∷ []) ≡ true → opens_in past (b ∷ []) ≡ false
text_opens_none past b h = all_none (added past (b ∷ [])) (text-tells 1024 past b h)

prefix : (past bs : List ℕ) (m : ℕ) → m < length bs → past ++ take (suc m) bs ≡ (past ++ take m bs)
    ++ get_or bs m 0 ∷ []
prefix past bs m lt = ap (λ xs. past ++ xs) (take-suc bs m 0 lt)
    ∙ sym (append_assoc past (take m bs) (get_or bs m 0 ∷ []))

-- one byte more, of ground text
opens_in-text : (past bs : List ℕ) (m : ℕ) → m < length bs → ends_in_text (past ++ take (suc m) bs) ≡ true
    → opens_in past (take m bs) ≡ false → opens_in past (take (suc m) bs) ≡ false
opens_in-text past bs m lt text before =
    let b = get_or bs m 0 in
    ap (opens_in past) (take-suc bs m 0 lt) ∙ (opens_in-append past (take m bs) (b ∷ [])
    ∙ (ap (λ v. v || opens_in (past ++ take m bs) (b ∷ [])) before
    ∙ text_opens_none (past ++ take m bs) b (ap ends_in_text (sym (prefix past bs m lt)) ∙ text)))

-- if no prefix at which the parser asks opens an update, none does
pub none_before : (past bs : List ℕ) (n : ℕ) → n ≤ length bs
    → ((m : ℕ) → m < n → asks_after past bs m ≡ true → opens_in past (take m bs) ≡ false)
    → (m : ℕ) → m < n → opens_in past (take m bs) ≡ false
none_before past bs n within asked zero lt = opens_in-none past
none_before past bs n within asked (suc m) lt =
    let before : opens_in past (take m bs) ≡ false = none_before past bs n within asked m (omega arith) in
    elim (cases_Bool (ends_in_text (past ++ take (suc m) bs))) [
      | inl text ↦ opens_in-text past bs m (omega arith) text before
      | inr other ↦ asked (suc m) lt (asks-past_text past bs (suc m) other)
    ]

-- after a byte that opens an update the parser asks
pub asks_where_opened : (past bytes : List ℕ) (b : ℕ) (rest : List ℕ)
    → opens_in (past ++ bytes) (b ∷ []) ≡ true → asks_after past (bytes ++ b ∷ rest) (length bytes + 1) ≡ true
asks_where_opened past bytes b rest h = sequences-asked 1024 past bytes b rest
    (λ reported. let no : true ≡ false = sym h ∙ all_none (added (past ++ bytes) (b ∷ [])) reported in cc)
