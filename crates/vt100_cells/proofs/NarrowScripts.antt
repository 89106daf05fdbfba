-- The scripts and symbols whose characters take one column each.
use Rattle.std.proofs.Common.{◌≡◌, ℕ, ◌≤◌, Bool, true, false, not, ◌||◌, List, [], ◌∷◌, Some, refl, sym, ap, ◌∙◌, arith}
use Rattle.std.proofs.lemmas.Bool.Decides.{nat_tests}
use Rattle.ucd_table.specs.Rows.{Range, in_ranges}
use Rattle.ucd_table.proofs.Computing.{tables}
use Rattle.ucd_table.proofs.Stepped.{of_ranges, zip_stepped}
use Rattle.ucd_table.proofs.Facts.{Stepped-always}
use Rattle.unicode_width.specs.declared.kind.Kind.{Kind}
use Rattle.unicode_width.specs.declared.kind.Kind.TheVariants as kinds
use Rattle.unicode_width.specs.Kind.{kind}
use Rattle.unicode_width.specs.Width.{of_kind, alone, char_width}
use Rattle.unicode_width.proofs.KindLemmas.{kind_stepped}
use Rattle.vt100_cells.specs.Cell.{drawn_columns}

abbrev is_narrow_kind : Kind → Bool
is_narrow_kind kinds.Narrow = true
is_narrow_kind kinds.Ambiguous = true
is_narrow_kind _ = false

-- Latin, Greek, Cyrillic and Armenian; punctuation, arrows and operators; boxes and blocks, Braille; private use
abbrev pub narrow_scripts : List Range
narrow_scripts =
    (0xA0, 0xAC) ∷ (0xAE, 0x2FF) ∷ (0x370, 0x482) ∷ (0x48A, 0x590) ∷ (0x1E00, 0x1FFF) ∷ (0x2010, 0x2027)
    ∷ (0x2190, 0x2319) ∷ (0x2500, 0x25FC) ∷ (0x2800, 0x28FF) ∷ (0xE000, 0xF8FF) ∷ []

-- where c is in such a script, its kind is narrow
abbrev is_narrow_there : ℕ → Bool
is_narrow_there c = not (in_ranges narrow_scripts c) || is_narrow_kind (kind c)

scripts-narrow : (c : ℕ) → c ≤ 0x10_FFFF → is_narrow_there c ≡ true
unfolding tables kind_stepped
scripts-narrow =
    Stepped-always is_narrow_there
    (zip_stepped (λ inside k. not inside || is_narrow_kind k) (in_ranges narrow_scripts) kind
    (of_ranges narrow_scripts refl) kind_stepped)
    refl

of_narrow : (c : ℕ) (k : Kind) → is_narrow_kind k ≡ true → (of_kind false c k).0 ≡ 1
of_narrow c kinds.Narrow h = refl
of_narrow c kinds.Ambiguous h = refl
of_narrow c kinds.Zero h = cc
of_narrow c kinds.Wide h = cc
of_narrow c kinds.Alef h = cc
of_narrow c kinds.KhmerLetter h = cc
of_narrow c kinds.TifinaghConsonant h = cc
of_narrow c kinds.LisuTone h = cc
of_narrow c kinds.RegionalIndicator h = cc
of_narrow c kinds.EmojiModifier h = cc
of_narrow c kinds.Emoji h = cc
of_narrow c kinds.Single h = cc

width-narrow : (c : ℕ) → 0xA0 ≤ c → is_narrow_kind (kind c) ≡ true → char_width false c ≡ Some 1
unfolding char_width alone
width-narrow c l h = let one = of_narrow c (kind c) h in grind (arith, nat_tests)

or-second : (b : Bool) (d : Bool) → b ≡ true → (not b || d) ≡ true → d ≡ true
or-second b d e h = ap (λ x. not x || d) (sym e) ∙ h

pub drawn-narrow : (c : ℕ) → c ≤ 0xF8FF → in_ranges narrow_scripts c ≡ true → 0xA0 ≤ c → Some 1 ≡ drawn_columns c
drawn-narrow c l i h =
    let w = width-narrow c h (or-second (in_ranges narrow_scripts c) (is_narrow_kind (kind c)) i
    (scripts-narrow c (omega arith))) in
    rw w refl
