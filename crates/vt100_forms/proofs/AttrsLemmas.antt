-- What the setters of the attributes set, and that a change takes a terminal from the old attributes to the new ones. A
-- fact of the modes below a number is computed for each of them.
use Rattle.std.proofs.Common.{◌≡◌, ℕ, zero, suc, ◌^◌, ◌<◌, List, [], ◌∷◌, Bool, true, false, not, ◌&&◌, ◌||◌, refl}
use Rattle.std.proofs.Common.{arith, ap, sym, ◌∙◌, subst, inl, inr, eqb}
use Rattle.std.specs.Prelude.{nat_lt, unwrap_or, Some, None}
use Rattle.std.proofs.lemmas.Bool.Decides.{eqb_tells}
use Rattle.std.proofs.lemmas.Bool.{cond_both, eqb-true, ltb-true}
use Rattle.vt100_forms.specs.declared.attrs.Color.{Color}
use Rattle.vt100_forms.specs.declared.attrs.Color.TheVariants.{Default, Idx, Rgb}
use Rattle.vt100_forms.specs.declared.attrs.Attrs.{Attrs}
use Rattle.vt100_forms.specs.Attrs.{default_attrs, color_eq, is_bold, is_dim, is_italic, is_underlined, is_inverse}
use Rattle.vt100_forms.specs.Attrs.{with_mode, with_bold, with_dim, with_normal_intensity, with_italic, with_underline}
use Rattle.vt100_forms.specs.Attrs.{with_inverse, IsProper, flags_of, SettersAreRead, EachSetterIsRead}
use Rattle.vt100_forms.specs.Attrs.{EachSetterKeepsProper}
use Rattle.vt100_forms.specs.Form.{with_change, changed_attrs, changed_color, EachChangeLeads}

both-left : (a b : Bool) → (a && b) ≡ true → a ≡ true
both-left true b h = refl
both-left false b h = cc

both-right : (a b : Bool) → (a && b) ≡ true → b ≡ true
both-right true b h = h
both-right false b h = cc

all_below : ℕ → (ℕ → Bool) → Bool
all_below zero p = true
all_below (suc k) p = p k && all_below k p

all_below-at : (k : ℕ) (p : ℕ → Bool) → all_below k p ≡ true → (m : ℕ) → m < k → p m ≡ true
unfolding all_below
all_below-at zero p h m lt = absurd (omega arith)
all_below-at (suc k) p h m lt = elim (eqb_tells m k) [
  | inl e ↦ let P : ℕ → Type 0 = λ n. p n ≡ true in subst P (sym e.1) (both-left (p k) (all_below k p) h)
  | inr e ↦ all_below-at k p (both-right (p k) (all_below k p) h) m (omega (arith, e.1))
]

-- two flags, or two lists of flags, are equal
same : Bool → Bool → Bool
same true b = b
same false b = not b

same-true : (a b : Bool) → same a b ≡ true → a ≡ b
unfolding same
same-true true true h = refl
same-true true false h = cc
same-true false true h = cc
same-true false false h = refl

all_same : List Bool → List Bool → Bool
all_same [] [] = true
all_same (a ∷ as') (b ∷ bs) = same a b && all_same as' bs
all_same _ _ = false

all_same-true : (xs ys : List Bool) → all_same xs ys ≡ true → xs ≡ ys
unfolding all_same
all_same-true [] [] h = refl
all_same-true (x ∷ xs) (y ∷ ys) h =
    let first : x ≡ y = same-true x y (both-left (same x y) (all_same xs ys) h) in
    let rest : xs ≡ ys = all_same-true xs ys (both-right (same x y) (all_same xs ys) h) in
    λ i. first i ∷ rest i
all_same-true [] (y ∷ ys) h = cc
all_same-true (x ∷ xs) [] h = cc

-- the flags do not depend on the colours
of_mode : ℕ → Attrs
of_mode m = with_mode default_attrs m

reads_bold : all_below 256 (λ m. all_same (flags_of (with_bold (of_mode m))) (true ∷ false ∷ is_italic (of_mode m)
    ∷ is_underlined (of_mode m) ∷ is_inverse (of_mode m) ∷ [])) ≡ true
unfolding all_below all_same same of_mode
reads_bold = refl

reads_dim : all_below 256 (λ m. all_same (flags_of (with_dim (of_mode m))) (false ∷ true ∷ is_italic (of_mode m)
    ∷ is_underlined (of_mode m) ∷ is_inverse (of_mode m) ∷ [])) ≡ true
unfolding all_below all_same same of_mode
reads_dim = refl

reads_normal : all_below 256 (λ m. all_same (flags_of (with_normal_intensity (of_mode m))) (false ∷ false
    ∷ is_italic (of_mode m) ∷ is_underlined (of_mode m) ∷ is_inverse (of_mode m) ∷ [])) ≡ true
unfolding all_below all_same same of_mode
reads_normal = refl

reads_italic_true : all_below 256 (λ m. all_same (flags_of (with_italic true (of_mode m))) (is_bold (of_mode m)
    ∷ is_dim (of_mode m) ∷ true ∷ is_underlined (of_mode m) ∷ is_inverse (of_mode m) ∷ [])) ≡ true
unfolding all_below all_same same of_mode
reads_italic_true = refl

reads_italic_false : all_below 256 (λ m. all_same (flags_of (with_italic false (of_mode m))) (is_bold (of_mode m)
    ∷ is_dim (of_mode m) ∷ false ∷ is_underlined (of_mode m) ∷ is_inverse (of_mode m) ∷ [])) ≡ true
unfolding all_below all_same same of_mode
reads_italic_false = refl

reads_underline_true : all_below 256 (λ m. all_same (flags_of (with_underline true (of_mode m))) (is_bold (of_mode m)
    ∷ is_dim (of_mode m) ∷ is_italic (of_mode m) ∷ true ∷ is_inverse (of_mode m) ∷ [])) ≡ true
unfolding all_below all_same same of_mode
reads_underline_true = refl

reads_underline_false : all_below 256 (λ m. all_same (flags_of (with_underline false (of_mode m))) (is_bold (of_mode m)
    ∷ is_dim (of_mode m) ∷ is_italic (of_mode m) ∷ false ∷ is_inverse (of_mode m) ∷ [])) ≡ true
unfolding all_below all_same same of_mode
reads_underline_false = refl

reads_inverse_true : all_below 256 (λ m. all_same (flags_of (with_inverse true (of_mode m))) (is_bold (of_mode m)
    ∷ is_dim (of_mode m) ∷ is_italic (of_mode m) ∷ is_underlined (of_mode m) ∷ true ∷ [])) ≡ true
unfolding all_below all_same same of_mode
reads_inverse_true = refl

reads_inverse_false : all_below 256 (λ m. all_same (flags_of (with_inverse false (of_mode m))) (is_bold (of_mode m)
    ∷ is_dim (of_mode m) ∷ is_italic (of_mode m) ∷ is_underlined (of_mode m) ∷ false ∷ [])) ≡ true
unfolding all_below all_same same of_mode
reads_inverse_false = refl

italic_flags : (b : Bool) (a : Attrs) → a.mode < 2 ^ 8
    → flags_of (with_italic b a) ≡ is_bold a ∷ is_dim a ∷ b ∷ is_underlined a ∷ is_inverse a ∷ []
unfolding of_mode
italic_flags true a h = all_same-true _ _ (all_below-at 256 _ reads_italic_true a.mode h)
italic_flags false a h = all_same-true _ _ (all_below-at 256 _ reads_italic_false a.mode h)

underline_flags : (b : Bool) (a : Attrs) → a.mode < 2 ^ 8
    → flags_of (with_underline b a) ≡ is_bold a ∷ is_dim a ∷ is_italic a ∷ b ∷ is_inverse a ∷ []
unfolding of_mode
underline_flags true a h = all_same-true _ _ (all_below-at 256 _ reads_underline_true a.mode h)
underline_flags false a h = all_same-true _ _ (all_below-at 256 _ reads_underline_false a.mode h)

inverse_flags : (b : Bool) (a : Attrs) → a.mode < 2 ^ 8
    → flags_of (with_inverse b a) ≡ is_bold a ∷ is_dim a ∷ is_italic a ∷ is_underlined a ∷ b ∷ []
unfolding of_mode
inverse_flags true a h = all_same-true _ _ (all_below-at 256 _ reads_inverse_true a.mode h)
inverse_flags false a h = all_same-true _ _ (all_below-at 256 _ reads_inverse_false a.mode h)

pub setters_are_read : EachSetterIsRead
unfolding of_mode
setters_are_read a h = record {
  bold = all_same-true _ _ (all_below-at 256 _ reads_bold a.mode h);
  dim = all_same-true _ _ (all_below-at 256 _ reads_dim a.mode h);
  normal = all_same-true _ _ (all_below-at 256 _ reads_normal a.mode h);
  italic = λ b. italic_flags b a h;
  underline = λ b. underline_flags b a h;
  inverse = λ b. inverse_flags b a h;
}

pub default-proper : IsProper default_attrs
default-proper = record { small = omega arith; one = refl; colors = (tt, tt) }

-- bold and dim at once
strong : List Bool → Bool
strong (b ∷ d ∷ _) = b && d
strong _ = false

small_bold : all_below 32 (λ m. nat_lt (with_bold (of_mode m)).mode 32) ≡ true
unfolding all_below of_mode
small_bold = refl

small_dim : all_below 32 (λ m. nat_lt (with_dim (of_mode m)).mode 32) ≡ true
unfolding all_below of_mode
small_dim = refl

small_normal : all_below 32 (λ m. nat_lt (with_normal_intensity (of_mode m)).mode 32) ≡ true
unfolding all_below of_mode
small_normal = refl

small_italic_true : all_below 32 (λ m. nat_lt (with_italic true (of_mode m)).mode 32) ≡ true
unfolding all_below of_mode
small_italic_true = refl

small_italic_false : all_below 32 (λ m. nat_lt (with_italic false (of_mode m)).mode 32) ≡ true
unfolding all_below of_mode
small_italic_false = refl

small_underline_true : all_below 32 (λ m. nat_lt (with_underline true (of_mode m)).mode 32) ≡ true
unfolding all_below of_mode
small_underline_true = refl

small_underline_false : all_below 32 (λ m. nat_lt (with_underline false (of_mode m)).mode 32) ≡ true
unfolding all_below of_mode
small_underline_false = refl

small_inverse_true : all_below 32 (λ m. nat_lt (with_inverse true (of_mode m)).mode 32) ≡ true
unfolding all_below of_mode
small_inverse_true = refl

small_inverse_false : all_below 32 (λ m. nat_lt (with_inverse false (of_mode m)).mode 32) ≡ true
unfolding all_below of_mode
small_inverse_false = refl

italic-proper : (b : Bool) (a : Attrs) → IsProper a → IsProper (with_italic b a)
unfolding of_mode strong
italic-proper true a h = record {
  small = ltb-true _ _ (all_below-at 32 _ small_italic_true a.mode h.small);
  one = ap strong (italic_flags true a (omega (arith, h.small))) ∙ h.one;
  colors = h.colors;
}
italic-proper false a h = record {
  small = ltb-true _ _ (all_below-at 32 _ small_italic_false a.mode h.small);
  one = ap strong (italic_flags false a (omega (arith, h.small))) ∙ h.one;
  colors = h.colors;
}

underline-proper : (b : Bool) (a : Attrs) → IsProper a → IsProper (with_underline b a)
unfolding of_mode strong
underline-proper true a h = record {
  small = ltb-true _ _ (all_below-at 32 _ small_underline_true a.mode h.small);
  one = ap strong (underline_flags true a (omega (arith, h.small))) ∙ h.one;
  colors = h.colors;
}
underline-proper false a h = record {
  small = ltb-true _ _ (all_below-at 32 _ small_underline_false a.mode h.small);
  one = ap strong (underline_flags false a (omega (arith, h.small))) ∙ h.one;
  colors = h.colors;
}

inverse-proper : (b : Bool) (a : Attrs) → IsProper a → IsProper (with_inverse b a)
unfolding of_mode strong
inverse-proper true a h = record {
  small = ltb-true _ _ (all_below-at 32 _ small_inverse_true a.mode h.small);
  one = ap strong (inverse_flags true a (omega (arith, h.small))) ∙ h.one;
  colors = h.colors;
}
inverse-proper false a h = record {
  small = ltb-true _ _ (all_below-at 32 _ small_inverse_false a.mode h.small);
  one = ap strong (inverse_flags false a (omega (arith, h.small))) ∙ h.one;
  colors = h.colors;
}

pub setters_keep_proper : EachSetterKeepsProper
unfolding of_mode strong
setters_keep_proper a h =
    let read : SettersAreRead a = setters_are_read a (omega (arith, h.small)) in
    record {
      bold = record {
        small = ltb-true _ _ (all_below-at 32 _ small_bold a.mode h.small);
        one = ap strong read.bold;
        colors = h.colors;
      };
      dim = record {
        small = ltb-true _ _ (all_below-at 32 _ small_dim a.mode h.small);
        one = ap strong read.dim;
        colors = h.colors;
      };
      normal = record {
        small = ltb-true _ _ (all_below-at 32 _ small_normal a.mode h.small);
        one = ap strong read.normal;
        colors = h.colors;
      };
      italic = λ b. italic-proper b a h;
      underline = λ b. underline-proper b a h;
      inverse = λ b. inverse-proper b a h;
    }

-- the mode after a change from mode m to mode n
mode_after : ℕ → ℕ → ℕ
mode_after m n = (with_change (changed_attrs (of_mode m) (of_mode n)) (of_mode m)).mode

leads_at : ℕ → ℕ → Bool
leads_at m n = strong (flags_of (of_mode m)) || (strong (flags_of (of_mode n)) || eqb (mode_after m n) n)

modes_lead : all_below 32 (λ m. all_below 32 (leads_at m)) ≡ true
unfolding all_below leads_at mode_after strong of_mode
modes_lead = refl

or-false : (a b : Bool) → a ≡ false → (a || b) ≡ true → b ≡ true
or-false true b h k = cc
or-false false b h k = k

mode-leads : (m n : ℕ) → m < 32 → n < 32 → strong (flags_of (of_mode m)) ≡ false
    → strong (flags_of (of_mode n)) ≡ false → mode_after m n ≡ n
unfolding leads_at
mode-leads m n hm hn sm sn =
    let row : all_below 32 (leads_at m) ≡ true = all_below-at 32 _ modes_lead m hm in
    let cell : leads_at m n ≡ true = all_below-at 32 (leads_at m) row n hn in
    eqb-true _ _ (or-false _ _ sn (or-false _ _ sm cell))

color_eq-true : (a b : Color) → color_eq a b ≡ true → a ≡ b
color_eq-true Default Default h = refl
color_eq-true (Idx i) (Idx j) h = ap Idx (eqb-true i j h)
color_eq-true (Rgb r g b) (Rgb s h' c) h =
    let red : r ≡ s = eqb-true r s (both-left _ _ h) in
    let green : g ≡ h' = eqb-true g h' (both-left _ _ (both-right _ _ h)) in
    let blue : b ≡ c = eqb-true b c (both-right _ _ (both-right _ _ h)) in
    λ i. Rgb (red i) (green i) (blue i)
color_eq-true Default (Idx j) h = cc
color_eq-true Default (Rgb s h' c) h = cc
color_eq-true (Idx i) Default h = cc
color_eq-true (Idx i) (Rgb s h' c) h = cc
color_eq-true (Rgb r g b) Default h = cc
color_eq-true (Rgb r g b) (Idx j) h = cc

color-leads : (old new : Color) → unwrap_or (changed_color old new) old ≡ new
color-leads old new =
    cond_both (color_eq new old) None (Some new) (λ o. unwrap_or o old ≡ new) (λ h. sym (color_eq-true new old h))
    (λ h. refl)

pub change-leads : EachChangeLeads
unfolding of_mode mode_after strong
change-leads old new ho hn =
    let fg : unwrap_or (changed_color old.fgcolor new.fgcolor) old.fgcolor ≡ new.fgcolor =
    color-leads old.fgcolor new.fgcolor in
    let bg : unwrap_or (changed_color old.bgcolor new.bgcolor) old.bgcolor ≡ new.bgcolor =
    color-leads old.bgcolor new.bgcolor in
    let mode : mode_after old.mode new.mode ≡ new.mode = mode-leads old.mode new.mode ho.small hn.small ho.one hn.one in
    λ i. record { fgcolor = fg i; bgcolor = bg i; mode = mode i }
