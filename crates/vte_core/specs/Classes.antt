-- The bytes of each class.
use Rattle.std.specs.Prelude.{ℕ, Bool, not, ◌&&◌, ◌||◌, ◌==◌, nat_lt}
use Rattle.std.specs.Int.{is_in_range}
use Rattle.vte_core.specs.declared.table.Class.{Class}
use Rattle.vte_core.specs.declared.table.Class.TheVariants.{Control, Bell, Cancel, Escape, Intermediate, Digit, Colon}
use Rattle.vte_core.specs.declared.table.Class.TheVariants.{Semicolon, Private, Final, Delete, StringEnd, High}

abbrev pub is_in : Class → ℕ → Bool
is_in Control b = nat_lt b 0x20 && not (b == 0x07 || (b == 0x18 || (b == 0x1A || b == 0x1B)))
is_in Bell b = b == 0x07
is_in Cancel b = b == 0x18 || b == 0x1A
is_in Escape b = b == 0x1B
is_in Intermediate b = is_in_range 0x20 0x2F b
is_in Digit b = is_in_range 0x30 0x39 b
is_in Colon b = b == 0x3A
is_in Semicolon b = b == 0x3B
is_in Private b = is_in_range 0x3C 0x3F b
is_in Final b = is_in_range 0x40 0x7E b
is_in Delete b = b == 0x7F
is_in StringEnd b = b == 0x9C
is_in High b = is_in_range 0x80 0xFF b && not (b == 0x9C)
