-- The marks that join the letter before them: the combining diacritical marks, but for U+0338.
use Rattle.std.proofs.Common.{◌≡◌, ℕ, ◌≤◌, Bool, true, false, not, ◌||◌, List, [], ◌∷◌, Some, refl, sym, ap, ◌∙◌, arith}
use Rattle.std.proofs.lemmas.Bool.Decides.{nat_tests}
use Rattle.ucd_table.specs.Rows.{Range, in_ranges}
use Rattle.ucd_table.proofs.Computing.{tables}
use Rattle.ucd_table.proofs.Stepped.{of_ranges, zip_stepped}
use Rattle.ucd_table.proofs.Facts.{Stepped-always}
use Rattle.unicode_width.specs.declared.kind.Kind.{Kind}
use Rattle.unicode_width.specs.declared.kind.Kind.TheVariants as kinds
use Rattle.unicode_width.specs.Kind.{kind}
use Rattle.unicode_width.specs.Width.{of_kind, alone, char_width}
use Rattle.unicode_width.proofs.KindLemmas.{kind_stepped}
use Rattle.vt100_cells.specs.Cell.{drawn_columns}

abbrev is_zero_kind : Kind → Bool
is_zero_kind kinds.Zero = true
is_zero_kind _ = false

abbrev pub joining_marks : List Range
joining_marks = (0x300, 0x337) ∷ (0x339, 0x36F) ∷ []

-- where c is such a mark, its kind is that of no columns
abbrev is_zero_there : ℕ → Bool
is_zero_there c = not (in_ranges joining_marks c) || is_zero_kind (kind c)

marks-zero : (c : ℕ) → c ≤ 0x10_FFFF → is_zero_there c ≡ true
unfolding tables kind_stepped
marks-zero =
    Stepped-always is_zero_there
    (zip_stepped (λ inside k. not inside || is_zero_kind k) (in_ranges joining_marks) kind
    (of_ranges joining_marks refl) kind_stepped)
    refl

of_zero : (c : ℕ) (k : Kind) → is_zero_kind k ≡ true → (of_kind false c k).0 ≡ 0
of_zero c kinds.Zero h = refl
of_zero c kinds.Narrow h = cc
of_zero c kinds.Ambiguous h = cc
of_zero c kinds.Wide h = cc
of_zero c kinds.Alef h = cc
of_zero c kinds.KhmerLetter h = cc
of_zero c kinds.TifinaghConsonant h = cc
of_zero c kinds.LisuTone h = cc
of_zero c kinds.RegionalIndicator h = cc
of_zero c kinds.EmojiModifier h = cc
of_zero c kinds.Emoji h = cc
of_zero c kinds.Single h = cc

width-zero : (c : ℕ) → 0xA0 ≤ c → is_zero_kind (kind c) ≡ true → char_width false c ≡ Some 0
unfolding char_width alone
width-zero c l h = let none = of_zero c (kind c) h in grind (arith, nat_tests)

or-second : (b : Bool) (d : Bool) → b ≡ true → (not b || d) ≡ true → d ≡ true
or-second b d e h = ap (λ x. not x || d) (sym e) ∙ h

pub drawn-joining : (c : ℕ) → c ≤ 0x36F → in_ranges joining_marks c ≡ true → 0xA0 ≤ c → Some 0 ≡ drawn_columns c
drawn-joining c l i h =
    let w = width-zero c h (or-second (in_ranges joining_marks c) (is_zero_kind (kind c)) i
    (marks-zero c (omega arith))) in
    rw w refl
