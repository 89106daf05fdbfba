-- The state of a filter.
use Rattle.std.specs.Prelude.{◌≡◌, ℕ, ◌≤◌, Bool, true, false, ◌||◌, List, ◌++◌, length, take}
use Rattle.std.specs.Int.{is_in_range}
use Rattle.vte_core.specs.Bytes.{is_abort}
use Rattle.vte_core.specs.Pending.{Pending, InText, InEscape, InCsi, InOsc, InHook, InDevice, InSwallowed, pending}
use Rattle.vte_core.specs.Standing.{IsAfter}
use Rattle.charset_filter.specs.Given.{given_after, sets_of}
use Rattle.charset_filter.specs.declared.filter.CharsetFilter.{CharsetFilter}

-- an escape sequence or a control sequence is pending
abbrev pub is_sequence : Pending → Bool
is_sequence (InEscape is) = true
is_sequence (InCsi h) = true
is_sequence (InText u) = false
is_sequence (InOsc s) = false
is_sequence (InHook h) = false
is_sequence InDevice = false
is_sequence InSwallowed = false

-- a byte that ends an escape sequence and a control sequence: `[` may begin one
abbrev pub ends_both : ℕ → Bool
ends_both b = is_abort b || (is_in_range 0x40 0x5A b || is_in_range 0x5C 0x7E b)

-- the filter has read these bytes
pub record HasRead (filter : CharsetFilter) (past : List ℕ) : Type 0 where
  pub state_after : IsAfter 0 filter.parser past
  pub sets : filter.listener.sets ≡ sets_of past
  pub outside : filter.in_sequence ≡ false → is_sequence (pending past) ≡ false

-- it has read the first k of the bytes, and what they give is appended to the output
pub record Gives (old : CharsetFilter) (bytes : List ℕ) (k : ℕ) (new : CharsetFilter) (before after : List ℕ)
    : Type 0 where
  pub within : k ≤ length bytes
  pub reads : (past : List ℕ) → HasRead old past → HasRead new (past ++ take k bytes)
  pub given : (past : List ℕ) → HasRead old past → after ≡ before ++ given_after past (take k bytes)
