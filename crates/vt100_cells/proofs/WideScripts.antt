-- The scripts whose characters take two columns each.
use Rattle.std.proofs.Common.{◌≡◌, ℕ, ◌≤◌, Bool, true, false, not, ◌||◌, List, [], ◌∷◌, Some, refl, sym, ap, ◌∙◌, arith}
use Rattle.std.proofs.lemmas.Bool.Decides.{nat_tests}
use Rattle.ucd_table.specs.Rows.{Range, in_ranges}
use Rattle.ucd_table.proofs.Computing.{tables}
use Rattle.ucd_table.proofs.Stepped.{of_ranges, zip_stepped}
use Rattle.ucd_table.proofs.Facts.{Stepped-always}
use Rattle.unicode_width.specs.declared.kind.Kind.{Kind}
use Rattle.unicode_width.specs.declared.kind.Kind.TheVariants as kinds
use Rattle.unicode_width.specs.Kind.{kind}
use Rattle.unicode_width.specs.Width.{of_kind, alone, char_width}
use Rattle.unicode_width.proofs.KindLemmas.{kind_stepped}
use Rattle.vt100_cells.specs.Cell.{drawn_columns}

abbrev is_wide_kind : Kind → Bool
is_wide_kind kinds.Wide = true
is_wide_kind _ = false

-- kana, ideographs, Hangul and full forms, with their punctuation
abbrev pub wide_scripts : List Range
wide_scripts =
    (0x3000, 0x3029) ∷ (0x3030, 0x303E) ∷ (0x3041, 0x3096) ∷ (0x309B, 0x30FF) ∷ (0x3250, 0x9FFF) ∷ (0xAC00, 0xD7A3)
    ∷ (0xFF01, 0xFF60) ∷ []

-- where c is in such a script, its kind is wide
abbrev is_wide_there : ℕ → Bool
is_wide_there c = not (in_ranges wide_scripts c) || is_wide_kind (kind c)

scripts-wide : (c : ℕ) → c ≤ 0x10_FFFF → is_wide_there c ≡ true
unfolding tables kind_stepped
scripts-wide =
    Stepped-always is_wide_there
    (zip_stepped (λ inside k. not inside || is_wide_kind k) (in_ranges wide_scripts) kind (of_ranges wide_scripts refl)
    kind_stepped)
    refl

of_wide : (c : ℕ) (k : Kind) → is_wide_kind k ≡ true → (of_kind false c k).0 ≡ 2
of_wide c kinds.Wide h = refl
of_wide c kinds.Zero h = cc
of_wide c kinds.Narrow h = cc
of_wide c kinds.Ambiguous h = cc
of_wide c kinds.Alef h = cc
of_wide c kinds.KhmerLetter h = cc
of_wide c kinds.TifinaghConsonant h = cc
of_wide c kinds.LisuTone h = cc
of_wide c kinds.RegionalIndicator h = cc
of_wide c kinds.EmojiModifier h = cc
of_wide c kinds.Emoji h = cc
of_wide c kinds.Single h = cc

width-wide : (c : ℕ) → 0x3000 ≤ c → is_wide_kind (kind c) ≡ true → char_width false c ≡ Some 2
unfolding char_width alone
width-wide c l h = let two = of_wide c (kind c) h in grind (arith, nat_tests)

or-second : (b : Bool) (d : Bool) → b ≡ true → (not b || d) ≡ true → d ≡ true
or-second b d e h = ap (λ x. not x || d) (sym e) ∙ h

pub drawn-wide : (c : ℕ) → c ≤ 0xFFFF → in_ranges wide_scripts c ≡ true → 0x3000 ≤ c → Some 2 ≡ drawn_columns c
drawn-wide c l i h =
    let w = width-wide c h (or-second (in_ranges wide_scripts c) (is_wide_kind (kind c)) i
    (scripts-wide c (omega arith))) in
    rw w refl
