-- Titles.
use Rattle.std.specs.Prelude.{ℕ, ◌==◌, ◌||◌, List, encode_utf8, if◌then◌else◌}
use Rattle.std.specs.Char.{is_control}
use Rattle.std.specs.List.{flat_map}
use Rattle.std.specs.Str.{chars}

-- control characters, and U+FFFE and U+FFFF, which no XML may have, come as U+FFFD
abbrev pub title_character : ℕ → ℕ
title_character c = if is_control c || (c == 0xFFFE || c == 0xFFFF) then 0xFFFD else c

abbrev pub title_characters : List ℕ → List ℕ
title_characters cs = flat_map (λ c. encode_utf8 (title_character c)) cs

-- a title as pages have it, before it is escaped
abbrev pub title_text : List ℕ → List ℕ
title_text title = title_characters (chars title)
