-- Characters that are taken from a text, to be printed at once.
use Rattle.std.specs.Prelude.{ℕ, ◌≢◌, ◌⊎◌, ◌<◌, ◌≤◌}

-- a character that is shown: neither a control of C1 nor U+FFFD
abbrev pub IsShown : ℕ → Type 0
IsShown c = ((c < 0x80) ⊎ (0xA0 ≤ c)) × (c ≢ 0xFFFD)
