-- Styles that are equal are one.
use Rattle.std.proofs.Common.{◌≡◌, ◌&&◌, Bool, true, false, refl}
use Rattle.std.proofs.lemmas.Bool.{and_parts, false≢true, eqb-true}
use mathlib.Core.Bool.{beq}
use Rattle.vt100_forms.specs.Attrs.{color_eq}
use Rattle.vt100_forms.specs.declared.attrs.Color.{Color}
use Rattle.vt100_forms.specs.declared.attrs.Color.TheVariants.{Default, Idx, Rgb}
use Rattle.std.specs.Prelude.{◌==◌}
use Rattle.std.proofs.Common.{ap}
use Rattle.row_pictures.specs.declared.style.Style.{Style}

one_color : (a b : Color) → color_eq a b ≡ true → a ≡ b
one_color Default Default h = refl
one_color (Idx i) (Idx j) h = ap Idx (eqb-true i j h)
one_color (Rgb r g b) (Rgb s u c) h =
    let p = and_parts (r == s) ((g == u) && (b == c)) h in
    let q = and_parts (g == u) (b == c) p.1 in
    let e = eqb-true r s p.0 in
    let f = eqb-true g u q.0 in
    let k = eqb-true b c q.1 in
    λ i. Rgb (e i) (f i) (k i)
one_color Default (Idx j) h = absurd (false≢true h)
one_color Default (Rgb s u c) h = absurd (false≢true h)
one_color (Idx i) Default h = absurd (false≢true h)
one_color (Idx i) (Rgb s u c) h = absurd (false≢true h)
one_color (Rgb r g b) Default h = absurd (false≢true h)
one_color (Rgb r g b) (Idx j) h = absurd (false≢true h)

one_flag : (p q : Bool) → beq p q ≡ true → p ≡ q
one_flag true true h = refl
one_flag true false h = absurd (false≢true h)
one_flag false true h = absurd (false≢true h)
one_flag false false h = refl

-- what `==` returns
abbrev pub are_equal : Style → Style → Bool
are_equal a b =
    color_eq a.fgcolor b.fgcolor && (color_eq a.bgcolor b.bgcolor && (beq a.bold b.bold && (beq a.dim b.dim
    && (beq a.italic b.italic && (beq a.underline b.underline && beq a.inverse b.inverse)))))

pub one_style : (a b : Style) → are_equal a b ≡ true → a ≡ b
one_style a b h =
    let h1 = and_parts (color_eq a.fgcolor b.fgcolor) (color_eq a.bgcolor b.bgcolor && (beq a.bold b.bold
    && (beq a.dim b.dim && (beq a.italic b.italic && (beq a.underline b.underline && beq a.inverse b.inverse))))) h in
    let h2 = and_parts (color_eq a.bgcolor b.bgcolor) (beq a.bold b.bold && (beq a.dim b.dim
    && (beq a.italic b.italic && (beq a.underline b.underline && beq a.inverse b.inverse)))) h1.1 in
    let h3 = and_parts (beq a.bold b.bold) (beq a.dim b.dim && (beq a.italic b.italic
    && (beq a.underline b.underline && beq a.inverse b.inverse))) h2.1 in
    let h4 = and_parts (beq a.dim b.dim) (beq a.italic b.italic && (beq a.underline b.underline
    && beq a.inverse b.inverse)) h3.1 in
    let h5 = and_parts (beq a.italic b.italic) (beq a.underline b.underline && beq a.inverse b.inverse) h4.1 in
    let h6 = and_parts (beq a.underline b.underline) (beq a.inverse b.inverse) h5.1 in
    let fgcolor = one_color a.fgcolor b.fgcolor h1.0 in
    let bgcolor = one_color a.bgcolor b.bgcolor h2.0 in
    let bold = one_flag a.bold b.bold h3.0 in
    let dim = one_flag a.dim b.dim h4.0 in
    let italic = one_flag a.italic b.italic h5.0 in
    let underline = one_flag a.underline b.underline h6.0 in
    let inverse = one_flag a.inverse b.inverse h6.1 in
    λ i. record {
      fgcolor = fgcolor i;
      bgcolor = bgcolor i;
      bold = bold i;
      dim = dim i;
      italic = italic i;
      underline = underline i;
      inverse = inverse i;
    }
