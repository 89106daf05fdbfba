-- Which bytes of a stream are ground text: those before the first ESC, and those after the shape that each ESC begins.
use Rattle.std.specs.Prelude.{ℕ, Bool, true, false, ◌&&◌, ◌||◌, List, [], ◌∷◌, drop, length, ◌==◌, if◌then◌else◌}
use Rattle.std.specs.List.{filter}
use Rattle.vte_core.specs.Bytes.{is_abort, is_intermediate, is_header, ends_header, ends_escape, ends_osc, ends_device}
use Rattle.vte_core.specs.Header.{is_well_formed}
use Rattle.vte_core.specs.Shapes.{before, from, cut_at_esc}

-- what follows the first byte that passes the test
abbrev pub past : (ℕ → Bool) → List ℕ → List ℕ
past p s = drop 1 (from p s)

-- what follows a device string with the header h, of which this is left
abbrev pub past_device : List ℕ → List ℕ → List ℕ
past_device h [] = []
past_device h (b ∷ rest) = if is_abort b then rest
    else (if is_well_formed h then past ends_device rest else past is_abort rest)

-- what follows the shape that the final byte of an escape with these intermediates begins
abbrev pub past_introduced : List ℕ → ℕ → List ℕ → List ℕ
past_introduced is b rest =
    if length is == 0 && b == 0x5B then past ends_header rest
    else (if length is == 0 && b == 0x5D then past ends_osc rest
    else (if length is == 0 && b == 0x50 then past_device (filter is_header (before ends_header rest))
    (from ends_header rest)
    else (if length is == 0 && (b == 0x58 || (b == 0x5E || b == 0x5F)) then past is_abort rest
    else rest)))

abbrev pub past_final : List ℕ → List ℕ → List ℕ
past_final is [] = []
past_final is (b ∷ rest) = if is_abort b then rest else past_introduced is b rest

-- of what follows an ESC, the ground text after the shape
abbrev pub text_of : List ℕ → List ℕ
text_of s = past_final (filter is_intermediate (before ends_escape s)) (from ends_escape s)

-- the ground text of the last segment; this is that of the one before the others
abbrev pub last_text_of : List ℕ → List (List ℕ) → List ℕ
last_text_of text [] = text
last_text_of text (s ∷ ss) = last_text_of (text_of s) ss

-- the ground text that has come since the last ESC
abbrev pub last_text : List ℕ → List ℕ
last_text bs = last_text_of (cut_at_esc bs).0 (cut_at_esc bs).1

abbrev pub has_bytes : List ℕ → Bool
has_bytes [] = false
has_bytes (b ∷ bs) = true

-- the last byte is ground text
abbrev pub ends_in_text : List ℕ → Bool
ends_in_text bs = has_bytes (last_text bs)
