-- Runs in which no set can change, and without bytes behind their events.
use Rattle.std.specs.Prelude.{◌≡◌, ℕ, Bool, not, ◌&&◌, ◌||◌, ◌==◌, List, [], ◌∷◌, None, if◌then◌else◌}
use Rattle.std.specs.Int.{is_in_range}
use Rattle.vte_core.specs.Bytes.{is_esc, is_header}
use Rattle.vte_types.specs.declared.charset.StandardCharset.TheVariants.{Ascii}
use Rattle.charset_filter.specs.Sets.{locked_set}
use Rattle.charset_filter.specs.declared.sets.CharacterSets.{CharacterSets}
use Rattle.charset_filter.specs.declared.steady.Place.{Place}
use Rattle.charset_filter.specs.declared.steady.Place.TheVariants.{Outside, BehindEsc, InHeader, Broken}

-- no single shift is pending, and the sets in use and all saved ones draw ASCII
pub record IsSteady (s : CharacterSets) : Type 0 where
  pub single : s.single ≡ None
  pub current : locked_set s.current ≡ Ascii
  pub main : locked_set s.main_saved ≡ Ascii
  pub alternate : locked_set s.alternate_saved ≡ Ascii

-- the final byte of a control sequence that has no bytes behind it if it has no `:`; others are h, l, p, r, s and u
abbrev pub is_quiet_final : ℕ → Bool
is_quiet_final b = is_in_range 0x40 0x7E b
    && not (b == 0x68 || (b == 0x6C || (b == 0x70 || (b == 0x72 || (b == 0x73 || b == 0x75)))))

-- Where a run is after a byte. SO, SI, other escape sequences, `:` in a header and other final bytes break it off.
abbrev pub place_after : Place → ℕ → Place
place_after Outside b = if is_esc b then BehindEsc else (if b == 0x0E || b == 0x0F then Broken else Outside)
place_after BehindEsc b = if b == 0x5B then InHeader else (if b == 0x5D then Outside else Broken)
place_after InHeader b = if is_header b then (if b == 0x3A then Broken else InHeader)
    else (if is_quiet_final b then Outside else Broken)
place_after Broken b = Broken

abbrev pub place_at : Place → List ℕ → Place
place_at p [] = p
place_at p (b ∷ bs) = place_at (place_after p b) bs

-- it begins and ends outside of sequences
abbrev pub IsSteadyRun : List ℕ → Type 0
IsSteadyRun bs = place_at Outside bs ≡ Outside
