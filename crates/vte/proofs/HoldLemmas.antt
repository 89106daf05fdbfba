-- Stretches that follow one another.
use Rattle.std.proofs.Common.{◌≡◌, ℕ, false, List, [], ◌∷◌, ◌++◌, Option, None, ◌||◌, refl, ap, sym, ◌∙◌}
use Rattle.std.proofs.Common.{append_assoc}
use Rattle.std.specs.List.{list_any}
use Rattle.std.proofs.lemmas.List.Folds.{list_any-append}
use Rattle.vte_core.specs.Event.{Event}
use Rattle.vte_core.specs.Shapes.{events}
use Rattle.vte_core.proofs.AddedLemmas as core
use Rattle.vte_types.specs.Call.{Call, Calls, unset_private_mode}
use Rattle.vte_types.specs.declared.mode.PrivateMode.TheVariants.{Named}
use Rattle.vte_types.specs.declared.mode.NamedPrivateMode.TheVariants.{SyncUpdate}
use Rattle.vte.specs.Table.{calls_of, last_after, openers, opens}
use Rattle.vte.specs.Timeout.{sets_of}
use Rattle.vte.specs.Performed.{last_after_all, calls_of_all, openers_of_all}
use Rattle.vte.specs.Stretch.{added, last_of, calls_from, ticks_from, opens_in}
use Rattle.vte.specs.Hold.{closing}
use Rattle.vte_types.proofs.CallLemmas.{Calls-append}
use Rattle.vte.proofs.RunLemmas.{sets_of-append}

last_after_all-append : (last : Option ℕ) (a b : List Event)
    → last_after_all last (a ++ b) ≡ last_after_all (last_after_all last a) b
last_after_all-append last [] b = refl
last_after_all-append last (e ∷ a) b = last_after_all-append (last_after last e) a b

pub last_of-append : (a b : List ℕ) → last_of (a ++ b) ≡ last_after_all (last_of a) (added a b)
last_of-append a b = ap (last_after_all None) (core.events-added 1024 a b)
    ∙ last_after_all-append None (events 1024 a) (added a b)

calls_of_all-append : (last : Option ℕ) (a b : List Event)
    → calls_of_all last (a ++ b) ≡ calls_of_all last a ++ calls_of_all (last_after_all last a) b
calls_of_all-append last [] b = refl
calls_of_all-append last (e ∷ a) b =
    ap (λ cs. calls_of last e ++ cs) (calls_of_all-append (last_after last e) a b)
    ∙ sym (append_assoc (calls_of last e) (calls_of_all (last_after last e) a)
    (calls_of_all (last_after_all (last_after last e) a) b))

pub calls_from-append : (past a b : List ℕ) → calls_from past (a ++ b) ≡ calls_from past a ++ calls_from (past ++ a) b
calls_from-append past a b =
    ap (calls_of_all (last_of past)) (core.added-append 1024 past a b)
    ∙ (calls_of_all-append (last_of past) (added past a) (added (past ++ a) b)
    ∙ ap (λ l. calls_from past a ++ calls_of_all l (added (past ++ a) b)) (sym (last_of-append past a)))

pub opens_in-none : (past : List ℕ) → opens_in past [] ≡ false
opens_in-none past = ap (list_any opens) (core.added-none 1024 past)

pub opens_in-append : (past a b : List ℕ) → opens_in past (a ++ b) ≡ (opens_in past a || opens_in (past ++ a) b)
opens_in-append past a b = ap (list_any opens) (core.added-append 1024 past a b)
    ∙ list_any-append opens (added past a) (added (past ++ a) b)

openers-append : (a b : List Event) → openers_of_all (a ++ b) ≡ openers_of_all a ++ openers_of_all b
openers-append [] b = refl
openers-append (e ∷ a) b = ap (λ gs. openers e ++ gs) (openers-append a b)
    ∙ sym (append_assoc (openers e) (openers_of_all a) (openers_of_all b))

pub ticks_from-append : (past a b : List ℕ) → ticks_from past (a ++ b) ≡ ticks_from past a ++ ticks_from (past ++ a) b
ticks_from-append past a b =
    ap (λ es. sets_of (openers_of_all es)) (core.added-append 1024 past a b)
    ∙ (ap sets_of (openers-append (added past a) (added (past ++ a) b))
    ∙ sets_of-append (openers_of_all (added past a)) (openers_of_all (added (past ++ a) b)))

-- what was printed last, after more bytes
pub printed_after : {last last' : Option ℕ} (parsed bytes : List ℕ) → last ≡ last_of parsed
    → last' ≡ last_after_all last (added parsed bytes) → last' ≡ last_of (parsed ++ bytes)
printed_after parsed bytes le e = e ∙ (ap (λ l. last_after_all l (added parsed bytes)) le
    ∙ sym (last_of-append parsed bytes))

-- the calls of the held bytes, and the one that says that the update was closed
pub closed_calls : {H : Type 0} (step : H → Call → H → Type 0) (h h' h'' : H) (parsed bytes : List ℕ)
    → Calls step h (calls_from parsed bytes) h' → step h' (unset_private_mode (Named SyncUpdate)) h''
    → Calls step h (calls_from parsed bytes ++ closing) h''
closed_calls step h h' h'' parsed bytes g u =
    Calls-append step h h' h'' (calls_from parsed bytes) closing g (h'', u, refl)
