-- The calls that say that an update was closed (`unset_private_mode` of `SyncUpdate`), among other calls.
use Rattle.std.specs.Prelude.{ℕ, zero, suc, Bool, true, false, not, List, [], ◌∷◌, ◌++◌, ◌≡◌}
use Rattle.std.specs.List.{filter}
use Rattle.vte_types.specs.Call.{Call, unset_private_mode}
use Rattle.vte_types.specs.declared.mode.PrivateMode.TheVariants.{Named}
use Rattle.vte_types.specs.declared.mode.NamedPrivateMode.TheVariants.{SyncUpdate}
use Rattle.vte.specs.Timeout.{Tick, Sets, Clears}
use Rattle.vte.specs.Stretch.{calls_from}

abbrev pub is_closing : Call → Bool
is_closing (unset_private_mode (Named SyncUpdate)) = true
is_closing _ = false

-- the calls that are no closings
abbrev pub without_closings : List Call → List Call
without_closings = filter (λ c. not (is_closing c))

-- the second list is the first with n closings put among its calls
pub data WithClosings : List Call → ℕ → List Call → Type 0 where
  none : WithClosings [] zero []
  call : (c : Call) (cs : List Call) (n : ℕ) (calls : List Call) → WithClosings cs n calls
      → WithClosings (c ∷ cs) n (c ∷ calls)
  closing : (cs : List Call) (n : ℕ) (calls : List Call) → WithClosings cs n calls
      → WithClosings cs (suc n) (unset_private_mode (Named SyncUpdate) ∷ calls)

-- how often the timeout is cleared: once each time all held bytes are parsed
abbrev pub clearings : List Tick → ℕ
clearings [] = zero
clearings (Sets ∷ ticks) = clearings ticks
clearings (Clears ∷ ticks) = suc (clearings ticks)

-- more bytes were parsed, and the calls are those of the table for them, with n closings put among them
pub record Parses (parsed parsed' : List ℕ) (n : ℕ) (calls : List Call) : Type 0 where
  pub bytes : List ℕ
  pub more : parsed' ≡ parsed ++ bytes
  pub made : WithClosings (calls_from parsed bytes) n calls
