-- Bright and dim colours.
use Rattle.std.specs.Prelude.{◌≡◌, Bool, true, false}
use Rattle.vte_types.specs.declared.color.NamedColor.{NamedColor}
use Rattle.vte_types.specs.declared.color.NamedColor.TheVariants as c

-- bright for normal, normal for dim; others stay
abbrev pub bright_of : NamedColor → NamedColor
bright_of c.Black = c.BrightBlack
bright_of c.Red = c.BrightRed
bright_of c.Green = c.BrightGreen
bright_of c.Yellow = c.BrightYellow
bright_of c.Blue = c.BrightBlue
bright_of c.Magenta = c.BrightMagenta
bright_of c.Cyan = c.BrightCyan
bright_of c.White = c.BrightWhite
bright_of c.DimBlack = c.Black
bright_of c.DimRed = c.Red
bright_of c.DimGreen = c.Green
bright_of c.DimYellow = c.Yellow
bright_of c.DimBlue = c.Blue
bright_of c.DimMagenta = c.Magenta
bright_of c.DimCyan = c.Cyan
bright_of c.DimWhite = c.White
bright_of c.Foreground = c.BrightForeground
bright_of c.DimForeground = c.Foreground
bright_of x = x

-- dim for normal, normal for bright; others stay
abbrev pub dim_of : NamedColor → NamedColor
dim_of c.BrightBlack = c.Black
dim_of c.BrightRed = c.Red
dim_of c.BrightGreen = c.Green
dim_of c.BrightYellow = c.Yellow
dim_of c.BrightBlue = c.Blue
dim_of c.BrightMagenta = c.Magenta
dim_of c.BrightCyan = c.Cyan
dim_of c.BrightWhite = c.White
dim_of c.Black = c.DimBlack
dim_of c.Red = c.DimRed
dim_of c.Green = c.DimGreen
dim_of c.Yellow = c.DimYellow
dim_of c.Blue = c.DimBlue
dim_of c.Magenta = c.DimMagenta
dim_of c.Cyan = c.DimCyan
dim_of c.White = c.DimWhite
dim_of c.BrightForeground = c.Foreground
dim_of c.Foreground = c.DimForeground
dim_of x = x

abbrev pub is_bright : NamedColor → Bool
is_bright c.BrightBlack = true
is_bright c.BrightRed = true
is_bright c.BrightGreen = true
is_bright c.BrightYellow = true
is_bright c.BrightBlue = true
is_bright c.BrightMagenta = true
is_bright c.BrightCyan = true
is_bright c.BrightWhite = true
is_bright c.BrightForeground = true
is_bright x = false

abbrev pub is_dim : NamedColor → Bool
is_dim c.DimBlack = true
is_dim c.DimRed = true
is_dim c.DimGreen = true
is_dim c.DimYellow = true
is_dim c.DimBlue = true
is_dim c.DimMagenta = true
is_dim c.DimCyan = true
is_dim c.DimWhite = true
is_dim c.DimForeground = true
is_dim x = false

abbrev pub DimUndoesBright : Type 0
DimUndoesBright = (x : NamedColor) → is_bright x ≡ false → dim_of (bright_of x) ≡ x

abbrev pub BrightUndoesDim : Type 0
BrightUndoesDim = (x : NamedColor) → is_dim x ≡ false → bright_of (dim_of x) ≡ x
