-- The size of a screen, also in JSON.
use Rattle.std.specs.Prelude.{ℕ, ◌&&◌, nat_le, List, Option, Some, None, option_and_then, if◌then◌else◌}
use Rattle.std.specs.Option.{option_map}
use Rattle.serde_json.specs.Data.{Data}
use Rattle.serde_json.specs.Find.{as_number, as_u64, get}

-- rows and columns, if both are there
abbrev pub both : Option ℕ → Option ℕ → Option (ℕ × ℕ)
both rows cols = option_and_then (λ r. option_map (λ c. (r, c)) cols) rows

-- rows or columns
abbrev pub side_in : List ℕ → Data → Option ℕ
side_in name json =
    option_and_then (λ n. if nat_le 1 n && nat_le n 65535 then Some n else None)
    (option_and_then as_u64 (option_and_then as_number (get name json)))

abbrev pub sides_in : List ℕ → List ℕ → Data → Option (ℕ × ℕ)
sides_in rows cols json = both (side_in rows json) (side_in cols json)
