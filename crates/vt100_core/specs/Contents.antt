-- The text that a grid shows.
use Rattle.std.specs.Prelude.{ℕ, zero, suc, ◌-◌, ◌==◌, Bool, ◌&&◌, nat_lt, List, [], ◌∷◌, ◌++◌, length, take}
use Rattle.std.specs.Prelude.{if◌then◌else◌}
use Rattle.std.specs.List.{suffix_len}
use Rattle.vt100_rows.specs.Text.{written_text}
use Rattle.vt100_core.specs.Grid.{GridView, visible_at}

-- whether the row that is shown at r is below one that goes on in it
abbrev pub is_below_wrapped : GridView → ℕ → Bool
is_below_wrapped g r = nat_lt 0 r && (visible_at g (r - 1)).wrapped

-- the text of the row that is shown at r, in the screen's columns, and a newline unless it goes on in the next. A row
-- without text in which another goes on has a newline in the text's place.
abbrev pub text_line : GridView → ℕ → List ℕ
text_line g r = written_text (visible_at g r) 0 g.width (is_below_wrapped g r)
    ++ (if (visible_at g r).wrapped then [] else 10 ∷ [])

-- the first n of these
abbrev pub text_lines : GridView → ℕ → List ℕ
text_lines g zero = []
text_lines g (suc n) = text_lines g n ++ text_line g n

-- a text without the newlines at its end
abbrev pub newlines_cut : List ℕ → List ℕ
newlines_cut cs = take (length cs - suffix_len (λ c. c == 10) cs) cs
