-- How runs set a timeout.
use Rattle.std.proofs.Common.{◌≡◌, ℕ, ◌+◌, ◌<◌, true, false, List, [], ◌∷◌, ◌++◌, ◌||◌, refl, ap, sym, ◌∙◌, subst}
use Rattle.std.proofs.Common.{inl, inr, length, arith}
use Rattle.std.specs.List.{list_any}
use Rattle.std.proofs.lemmas.Bool.{cases_Bool, or_parts}
use Rattle.std.proofs.lemmas.List.Folds.{list_any-append}
use Rattle.vte_core.specs.Event.{Event}
use Rattle.vte.specs.Csi.{opens_group}
use Rattle.vte.specs.Table.{openers, opens}
use Rattle.vte.specs.Timeout.{Ticking, Tick, Sets, Clears, Ticked, sets_of, Awaits, IsExact}
use Rattle.vte.specs.Performed.{openers_of_all}
use Rattle.vte.specs.Stretch.{added, ticks_from}
use Rattle.vte.specs.Hold.{Renews, again, quiet}
use Rattle.vte.specs.Closings.{clearings}

pub any_openers : (es : List Event) → list_any opens_group (openers_of_all es) ≡ list_any opens es
any_openers [] = refl
any_openers (e ∷ es) = list_any-append opens_group (openers e) (openers_of_all es)
    ∙ ap (λ v. opens e || v) (any_openers es)

-- if no group opens an update, nothing is set
pub sets_none : (gs : List (List ℕ)) → list_any opens_group gs ≡ false → sets_of gs ≡ []
sets_none [] h = refl
sets_none (g ∷ gs) h = let both = or_parts (opens_group g) (list_any opens_group gs) h in rw both.0
    (sets_none gs both.1)

-- how often the timeout was cleared

pub clearings-append : (a b : List Tick) → clearings (a ++ b) ≡ clearings a + clearings b
clearings-append [] b = omega arith
clearings-append (Sets ∷ a) b = clearings-append a b
clearings-append (Clears ∷ a) b = let more = clearings-append a b in omega (arith, more)

sets_clear_none : (gs : List (List ℕ)) → clearings (sets_of gs) ≡ 0
sets_clear_none [] = refl
sets_clear_none (g ∷ gs) = elim (cases_Bool (opens_group g))
    [ inl e ↦ rw e (sets_clear_none gs) | inr e ↦ rw e (sets_clear_none gs) ]

pub from_clears_none : (p b : List ℕ) → clearings (ticks_from p b) ≡ 0
from_clears_none p b = sets_clear_none (openers_of_all (added p b))

pub renewed : (text : List ℕ) (from : ℕ) (ticks more : List Tick) → Renews text from ticks
    → clearings more ≡ clearings (ticks ++ more)
renewed text from ticks more (again k low at) = refl
renewed text from ticks more (quiet _) = refl

-- if a group opens an update, something is set
pub sets_some : (gs : List (List ℕ)) → list_any opens_group gs ≡ true → 0 < length (sets_of gs)
sets_some [] h = absurd (let no : false ≡ true = h in cc)
sets_some (g ∷ gs) h = elim (cases_Bool (opens_group g)) [
  | inl e ↦ rw e (omega arith)
  | inr e ↦ rw e (sets_some gs (let more : list_any opens_group gs ≡ true = rw e at h in more))
]

module _ {T : Type 0} (ticking : Ticking T) (exact : IsExact ticking) where
  -- settings keep it pending
  pub sets_keep : (t : T) (ts : List Tick) (u : T) → clearings ts ≡ 0 → Ticked ticking t ts u → Awaits ticking t true
      → Awaits ticking u true
  sets_keep t [] u none e a = subst (λ (x : T). Awaits ticking x true) (sym e) a
  sets_keep t (Sets ∷ ts) u none y a = sets_keep y.0 ts u none y.2 (exact.set t 150_000_000 y.0 y.1)
  sets_keep t (Clears ∷ ts) u none y a = absurd (omega (arith, none))

  pub some_set : (t : T) (ts : List Tick) (u : T) → 0 < length ts → clearings ts ≡ 0 → Ticked ticking t ts u
      → Awaits ticking u true
  some_set t [] u some none y = absurd (omega arith)
  some_set t (Sets ∷ ts) u some none y = sets_keep y.0 ts u none y.2 (exact.set t 150_000_000 y.0 y.1)
  some_set t (Clears ∷ ts) u some none y = absurd (omega (arith, none))

  -- after a clearing at the end it isn't
  pub cleared_last : (t : T) (ts : List Tick) (u : T) → Ticked ticking t (ts ++ Clears ∷ []) u
      → Awaits ticking u false
  cleared_last t [] u y = subst (λ (x : T). Awaits ticking x false) (sym y.2) (exact.cleared t y.0 y.1)
  cleared_last t (Sets ∷ ts) u y = cleared_last y.0 ts u y.2
  cleared_last t (Clears ∷ ts) u y = cleared_last y.0 ts u y.2
