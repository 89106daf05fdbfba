-- The themes: their names, and the colours that each has.
use Rattle.std.specs.Prelude.{ℕ, ◌/◌, ◌%◌, Bool, true, false, List, [], ◌∷◌, Option, Some, None, codes, drop, map, slice_index}
use Rattle.std.specs.Prelude.{if◌then◌else◌}
use Rattle.std.specs.List.{list_any}
use Rattle.std.specs.Str.{bytes_eq}
use Rattle.picture_page.specs.declared.page.Rgb.{Rgb}
use Rattle.row_pictures.specs.declared.theme.Theme.{Theme}

-- red, green and blue of a number that has eight bits for each
abbrev pub rgb_of : ℕ → Rgb
rgb_of c = record { red = c / 0x10000 % 0x100; green = c / 0x100 % 0x100; blue = c % 0x100 }

-- the colour of texts by default, that of backgrounds, and then the first sixteen; bold texts keep theirs
unfoldable pub theme_of : List ℕ → Theme
theme_of c = record {
  fgcolor = rgb_of (slice_index c 0);
  bgcolor = rgb_of (slice_index c 1);
  colors = map rgb_of
      (drop 2 c);
  bold_is_bright = false;
}

-- such a theme in which bold texts in the first eight colours have the bright ones
abbrev pub bright_theme_of : List ℕ → Theme
bright_theme_of c = record (theme_of c) { bold_is_bright = true }

abbrev pub xterm : List ℕ
xterm =
    0xe5e5e5 ∷ 0x000000 ∷ 0x000000 ∷ 0xcd0000 ∷ 0x00cd00 ∷ 0xcdcd00 ∷ 0x0000ee ∷ 0xcd00cd ∷ 0x00cdcd
    ∷ 0xe5e5e5 ∷ 0x7f7f7f ∷ 0xff0000 ∷ 0x00ff00 ∷ 0xffff00 ∷ 0x5c5cff ∷ 0xff00ff ∷ 0x00ffff ∷ 0xffffff ∷ []

abbrev pub light : List ℕ
light =
    0x24292f ∷ 0xffffff ∷ 0x24292f ∷ 0xcf222e ∷ 0x116329 ∷ 0x4d2d00 ∷ 0x0969da ∷ 0x8250df ∷ 0x1b7c83
    ∷ 0x6e7781 ∷ 0x57606a ∷ 0xa40e26 ∷ 0x1a7f37 ∷ 0x633c01 ∷ 0x218bff ∷ 0xa475f9 ∷ 0x3192aa ∷ 0x8c959f ∷ []

abbrev pub asciinema : List ℕ
asciinema =
    0xcccccc ∷ 0x121314 ∷ 0x000000 ∷ 0xdd3c69 ∷ 0x4ebf22 ∷ 0xddaf3c ∷ 0x26b0d7 ∷ 0xb954e1 ∷ 0x54e1b9
    ∷ 0xd9d9d9 ∷ 0x4d4d4d ∷ 0xdd3c69 ∷ 0x4ebf22 ∷ 0xddaf3c ∷ 0x26b0d7 ∷ 0xb954e1 ∷ 0x54e1b9 ∷ 0xffffff ∷ []

abbrev pub dracula : List ℕ
dracula =
    0xf8f8f2 ∷ 0x282a36 ∷ 0x21222c ∷ 0xff5555 ∷ 0x50fa7b ∷ 0xf1fa8c ∷ 0xbd93f9 ∷ 0xff79c6 ∷ 0x8be9fd
    ∷ 0xf8f8f2 ∷ 0x6272a4 ∷ 0xff6e6e ∷ 0x69ff94 ∷ 0xffffa5 ∷ 0xd6acff ∷ 0xff92df ∷ 0xa4ffff ∷ 0xffffff ∷ []

abbrev pub gruvbox_dark : List ℕ
gruvbox_dark =
    0xfbf1c7 ∷ 0x282828 ∷ 0x282828 ∷ 0xcc241d ∷ 0x98971a ∷ 0xd79921 ∷ 0x458588 ∷ 0xb16286 ∷ 0x689d6a
    ∷ 0xa89984 ∷ 0x7c6f65 ∷ 0xfb4934 ∷ 0xb8bb26 ∷ 0xfabd2f ∷ 0x83a598 ∷ 0xd3869b ∷ 0x8ec07c ∷ 0xfbf1c7 ∷ []

abbrev pub monokai : List ℕ
monokai =
    0xf8f8f2 ∷ 0x272822 ∷ 0x272822 ∷ 0xf92672 ∷ 0xa6e22e ∷ 0xf4bf75 ∷ 0x66d9ef ∷ 0xae81ff ∷ 0xa1efe4
    ∷ 0xf8f8f2 ∷ 0x75715e ∷ 0xf92672 ∷ 0xa6e22e ∷ 0xf4bf75 ∷ 0x66d9ef ∷ 0xae81ff ∷ 0xa1efe4 ∷ 0xf9f8f5 ∷ []

abbrev pub nord : List ℕ
nord =
    0xeceff4 ∷ 0x2e3440 ∷ 0x3b4252 ∷ 0xbf616a ∷ 0xa3be8c ∷ 0xebcb8b ∷ 0x81a1c1 ∷ 0xb48ead ∷ 0x88c0d0
    ∷ 0xeceff4 ∷ 0x4c566a ∷ 0xbf616a ∷ 0xa3be8c ∷ 0xebcb8b ∷ 0x81a1c1 ∷ 0xb48ead ∷ 0x8fbcbb ∷ 0xeceff4 ∷ []

abbrev pub solarized_dark : List ℕ
solarized_dark =
    0x839496 ∷ 0x002b36 ∷ 0x073642 ∷ 0xdc322f ∷ 0x859900 ∷ 0xb58900 ∷ 0x268bd2 ∷ 0xd33682 ∷ 0x2aa198
    ∷ 0xeee8d5 ∷ 0x475b62 ∷ 0xcb4b16 ∷ 0x586e75 ∷ 0x657b83 ∷ 0x839496 ∷ 0x6c71c4 ∷ 0x93a1a1 ∷ 0xfdf6e3 ∷ []

abbrev pub solarized_light : List ℕ
solarized_light =
    0x657b83 ∷ 0xfdf6e3 ∷ 0x073642 ∷ 0xdc322f ∷ 0x859900 ∷ 0xb58900 ∷ 0x268bd2 ∷ 0xd33682 ∷ 0x2aa198
    ∷ 0xeee8d5 ∷ 0x002b36 ∷ 0xcb4b16 ∷ 0x586e75 ∷ 0x657b83 ∷ 0x839496 ∷ 0x6c71c4 ∷ 0x93a1a1 ∷ 0xfdf6e3 ∷ []

abbrev pub tango : List ℕ
tango =
    0xcccccc ∷ 0x121314 ∷ 0x000000 ∷ 0xcc0000 ∷ 0x4e9a06 ∷ 0xc4a000 ∷ 0x3465a4 ∷ 0x75507b ∷ 0x06989a
    ∷ 0xd3d7cf ∷ 0x555753 ∷ 0xef2929 ∷ 0x8ae234 ∷ 0xfce94f ∷ 0x729fcf ∷ 0xad7fa8 ∷ 0x34e2e2 ∷ 0xeeeeec ∷ []

-- what xterm shows, with light texts on black
abbrev pub xterm_theme : Theme
xterm_theme = bright_theme_of xterm

-- the theme of the first of these names that is this one
abbrev pub first_named : List ℕ → List (List ℕ × Theme) → Option Theme
first_named name [] = None
first_named name (t ∷ ts) = if bytes_eq name t.0 then Some t.1 else first_named name ts

abbrev pub themes : List (List ℕ × Theme)
themes =
    (codes "xterm", xterm_theme) ∷ (codes "light", theme_of light) ∷ (codes "asciinema", theme_of asciinema)
    ∷ (codes "dracula", theme_of dracula) ∷ (codes "gruvbox-dark", theme_of gruvbox_dark)
    ∷ (codes "monokai", theme_of monokai) ∷ (codes "nord", theme_of nord)
    ∷ (codes "solarized-dark", theme_of solarized_dark) ∷ (codes "solarized-light", theme_of solarized_light)
    ∷ (codes "tango", theme_of tango) ∷ []

-- the theme of this name
unfoldable pub theme_named : List ℕ → Option Theme
theme_named name = first_named name themes

abbrev pub theme_names : List (List ℕ)
theme_names = map (λ t. t.0) themes

abbrev pub is_theme : List ℕ → Bool
is_theme name = list_any (bytes_eq name) theme_names
