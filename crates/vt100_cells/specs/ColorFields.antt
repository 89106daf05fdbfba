-- The fields of a cell's colour, and what a contract sees of them.
use Rattle.std.specs.Prelude.{ℕ, ◌≡◌}
use Rattle.vt100_forms.specs.declared.attrs.Color.{Color}
use Rattle.vt100_forms.specs.declared.attrs.Color.TheVariants.{Default, Idx, Rgb}
use Rattle.vt100_cells.specs.declared.cell_color.CellColor.TheInside.{Inside}
use Rattle.vt100_cells.specs.declared.cell_color.ColorKind.{ColorKind}
use Rattle.vt100_cells.specs.declared.cell_color.ColorKind.TheVariants as kind

abbrev pub color_from : ColorKind → ℕ → ℕ → ℕ → Color
color_from kind.Default r g b = Default
color_from kind.Idx r g b = Idx r
color_from kind.Rgb r g b = Rgb r g b

abbrev pub color_of : Inside → Color
color_of c = color_from c.kind c.first c.green c.blue

abbrev pub parts_of : Color → Inside
parts_of Default = record { kind = kind.Default; first = 0; green = 0; blue = 0 }
parts_of (Idx i) = record { kind = kind.Idx; first = i; green = 0; blue = 0 }
parts_of (Rgb r g b) = record { kind = kind.Rgb; first = r; green = g; blue = b }

-- what a kind doesn't have is 0
abbrev pub IsColor : Inside → Type 0
IsColor c = parts_of (color_of c) ≡ c

pub parts_of-color_of : (c : Inside) → IsColor c → parts_of (color_of c) ≡ c
parts_of-color_of c h = h
