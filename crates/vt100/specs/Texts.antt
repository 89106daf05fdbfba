-- The texts that a screen shows: of each row, and between two places.
use Rattle.std.specs.Prelude.{ℕ, zero, suc, ◌+◌, ◌-◌, ◌≡◌, ◌≢◌, ◌==◌, nat_lt, min, List, [], ◌∷◌, ◌++◌, length, map}
use Rattle.std.specs.Prelude.{encode_utf8_all, Option, Result, IfOk, OnErr, IsOk, Err, MatchOption, MatchResult}
use Rattle.std.specs.Prelude.{String, string_bytes, if◌then◌else◌}
use Rattle.vt100_rows.specs.Row.{RowView}
use Rattle.vt100_rows.specs.Text.{row_text}
use Rattle.vt100_core.specs.Grid.{GridView, visible_at}
use Rattle.vt100.specs.declared.error.ScreenError.{ScreenError}
use Rattle.vt100.specs.declared.error.ScreenError.TheVariants.{Memory}

-- the texts of rows in n columns from column s on, in UTF-8
abbrev pub row_texts : ℕ → ℕ → List RowView → List (List ℕ)
row_texts s n rows = map (λ v. encode_utf8_all (row_text v s (s + n))) rows

-- a text, unless there is no memory for it; an empty one takes none
pub record Gives {Z : Type 0} (bytes : List ℕ) (result : Result (String Z) ScreenError) : Type 0 where
  pub text : IfOk result (λ string. string_bytes string ≡ bytes)
  pub memory : OnErr result (result ≡ Err Memory)
  pub empty : bytes ≡ [] → IsOk result

-- an iterator over texts: the first of those that are left comes, or there was no memory for it, and it isn't empty;
-- the others are left
abbrev pub YieldsText : {S : Type 0} → (S → List ℕ) → List (List ℕ) → Option (Result S ScreenError) → List (List ℕ)
    → Type 0
YieldsText bytes left item others =
    MatchOption item ((left ≡ []) × (others ≡ [])) (λ result. (text : List ℕ) × (left ≡ text ∷ others)
    × MatchResult result (λ string. bytes string ≡ text) (λ error. (error ≡ Memory) × (text ≢ [])))

-- the text of a row from column s on, in a screen of w columns, and a newline unless it goes on in the next
abbrev pub rest_of_row : RowView → ℕ → ℕ → List ℕ
rest_of_row v s w = row_text v s w ++ (if v.wrapped then [] else 10 ∷ [])

-- n rows from the one that is shown at r on, of which the first begins at column s
abbrev pub rows_from : GridView → ℕ → ℕ → ℕ → List ℕ
rows_from g r s zero = []
rows_from g r s (suc n) = rows_from g r s n ++ rest_of_row (visible_at g (r + n)) (if n == 0 then s else 0) g.width

-- what is shown from column s of row r up to column e of row q: the rest of row r, the whole rows below it, and the
-- beginning of row q. Rows below the screen show nothing. If the end doesn't come after the start, the text is empty.
abbrev pub text_between : GridView → ℕ → ℕ → ℕ → ℕ → List ℕ
text_between g r s q e =
    if nat_lt q r then []
    else rows_from g r s (min q (length g.rows) - r)
    ++ (if nat_lt q (length g.rows) then row_text (visible_at g q) (if r == q then s else 0) e else [])
