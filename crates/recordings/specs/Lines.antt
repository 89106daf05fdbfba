-- The lines of a file.
use Rattle.std.specs.Prelude.{ℕ, List, [], ◌∷◌, ◌==◌, take, drop, if◌then◌else◌}
use Rattle.std.specs.List.{before_first, slice_split}
use Rattle.std.specs.Str.{bytes_eq}

-- the parts between the newlines
abbrev pub lines_in : List ℕ → List (List ℕ)
lines_in text = slice_split (λ b. b == 10) text

abbrev pub first_line : List ℕ → List ℕ
first_line text = before_first (λ b. b == 10) text

-- the byte order mark that some editors put before a text
abbrev pub mark : List ℕ
mark = 0xEF ∷ 0xBB ∷ 0xBF ∷ []

-- a text without its mark, if it has one
abbrev pub unmarked : List ℕ → List ℕ
unmarked text = if bytes_eq (take 3 text) mark then drop 3 text else text
