-- Printable ASCII.
use Rattle.std.specs.Prelude.{ℕ, ◌≤◌, ◌<◌}

-- the characters from the space to the tilde
abbrev pub IsPrintable : ℕ → Type 0
IsPrintable c = (32 ≤ c) × (c < 127)
