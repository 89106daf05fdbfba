-- How far a header has come, and what is kept of it.
use Rattle.std.specs.Prelude.{◌≡◌, ℕ, Bool, true, false, List, [], ◌∷◌, if◌then◌else◌}
use Rattle.std.specs.List.{filter}
use Rattle.vte_core.specs.Bytes.{each, is_numeric}
use Rattle.vte_core.specs.Header.{unmarked, in_order, intermediates}
use Rattle.vte_core.specs.Reading.{ReadsNumbers, KeepsTwo}
use Rattle.vte_core.specs.declared.header.Header.{Header}
use Rattle.vte_core.specs.declared.header.Phase.{Phase}
use Rattle.vte_core.specs.declared.header.Phase.TheVariants.{Start, InNumbers, InIntermediates, Ignored}

-- how far the header has come
abbrev pub phase_of : List ℕ → Phase
phase_of [] = Start
phase_of (a ∷ t) =
    if each is_numeric (unmarked (a ∷ t)) then InNumbers
    else (if in_order (unmarked (a ∷ t)) then InIntermediates else Ignored)

-- how far it has come after one more byte, which is numeric or an intermediate or neither
abbrev pub next_by : Bool → Bool → Phase → Phase
next_by numeric inter Start = if inter then InIntermediates else InNumbers
next_by numeric inter InNumbers = if numeric then InNumbers else (if inter then InIntermediates else Ignored)
next_by numeric inter InIntermediates = if inter then InIntermediates else Ignored
next_by numeric inter Ignored = Ignored

-- what is kept represents the header
pub record ReadsHeader (x : Header) (h : List ℕ) : Type 0 where
  pub phase : x.phase ≡ phase_of h
  pub numbers : ReadsNumbers x.numbers (filter is_numeric h)
  pub kept : KeepsTwo x.intermediates (intermediates h)

-- a header that is reported
abbrev pub is_kept : Phase → Bool
is_kept Start = true
is_kept InNumbers = true
is_kept InIntermediates = true
is_kept Ignored = false
