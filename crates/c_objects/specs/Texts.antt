-- Texts that are copied into the caller's memory.
use Rattle.std.specs.Prelude.{◌≡◌, ◌≢◌, ◌⊎◌, ℕ, ℤ, List, [], ◌++◌, length, min, take, drop, map, Ok, Err, Result}
use Rattle.std.specs.Prelude.{String}
use Rattle.std.specs.Prelude.{string_bytes}
use Rattle.std.specs.List.{concat}
use Rattle.vt100.specs.declared.error.ScreenError.{ScreenError}
use Rattle.c_objects.specs.Codes.{ok, memory, screen_refusal}

-- `to`, with as long a prefix of `from` as fits written over its start
abbrev pub with_prefix : {A : Type 0} → List A → List A → List A
with_prefix from to = let n = min (length from) (length to) in take n from ++ drop n to

-- as long a prefix of the text as fits is copied, and all its bytes are counted
abbrev pub IsCopied : List ℕ → List ℕ → List ℕ → ℕ → Type 0
IsCopied text old new count = (new ≡ with_prefix text old) × (count ≡ length text)

-- the text is copied, or an allocation failed; an empty text needs none
abbrev pub CopiesText : List ℕ → List ℕ → List ℕ → ℕ → ℤ → Type 0
CopiesText text old new count code =
    ((code ≡ ok) × IsCopied text old new count) ⊎ ((text ≢ []) × (code ≡ memory))

-- the text that the library's call returns is copied
abbrev pub Copies : {Z : Type 0} → Result (String Z) ScreenError → List ℕ → List ℕ → ℕ → ℤ → Type 0
Copies (Ok text) old new count code = (code ≡ ok) × IsCopied (string_bytes text) old new count
Copies (Err e) old new count code = code ≡ screen_refusal e

-- the texts of rows are copied, one after the other, and so are their lengths, or an allocation failed
abbrev pub CopiesRows : List (List ℕ) → List ℕ → List ℕ → ℕ → List ℕ → List ℕ → ℕ → ℤ → Type 0
CopiesRows rows old new count old_lengths new_lengths rows_count code =
    ((code ≡ ok) × IsCopied (concat rows) old new count × IsCopied (map length rows) old_lengths new_lengths rows_count)
    ⊎ (code ≡ memory)
