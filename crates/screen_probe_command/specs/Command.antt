-- What the command understands, and what it reads.
use Rattle.std.specs.Prelude.{ℕ, ◌^◌, Bool, false, ◌&&◌, List, [], ◌∷◌, codes, Ok, Result}
use Rattle.std.specs.Str.{bytes_eq}
use Rattle.std.specs.declared.io.Error.{Error}
use Rattle.command_line.specs.Input.{Drains}
use Rattle.command_line.specs.Numbers.{is_count, is_size}

-- `run` or `ROWS COLS [CAPACITY [TIMES]]`
abbrev pub is_invocation : List (List ℕ) → Bool
is_invocation (word ∷ []) = bytes_eq word (codes "run")
is_invocation (rows ∷ cols ∷ []) = is_size rows && is_size cols
is_invocation (rows ∷ cols ∷ capacity ∷ []) = is_size rows && (is_size cols && is_count capacity)
is_invocation (rows ∷ cols ∷ capacity ∷ times ∷ []) = is_size rows &&
    (is_size cols && (is_count capacity && is_count times))
is_invocation _ = false

-- an input was read to its end
abbrev pub IsReadToItsEnd : {S : Type 0} → (S → ℕ → Result (List ℕ) Error → S → Type 0) → S → S → Type 0
IsReadToItsEnd gives s t = (bytes : List ℕ) × Drains gives 65536 s (2 ^ 40) bytes (Ok tt) t
