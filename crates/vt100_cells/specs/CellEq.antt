-- Equality of texts and cells decides whether they are the same.
use Rattle.std.proofs.Common.{◌≡◌, ℕ, Bool, true, false, ◌&&◌, ◌==◌, List, sym, refl, ap, ◌∙◌}
use Rattle.std.specs.Cmp.{IsPartialEquivalence, IsEquivalence, partial_equiv_from_equiv, both_ways}
use Rattle.std.proofs.lemmas.Cmp.{nat_list_eq_equiv}
use Rattle.std.proofs.lemmas.Bool.{and_parts, false≢true, eqb-true, eq-eqb}
use lib.Pointwise.{bytes_decides}
use Rattle.vt100_forms.specs.declared.attrs.Attrs.{Attrs}
use Rattle.vt100_forms.specs.declared.attrs.Color.{Color}
use Rattle.vt100_forms.specs.declared.attrs.Color.TheVariants.{Default, Idx, Rgb}
use Rattle.vt100_forms.specs.Attrs.{color_eq, attrs_eq}
use Rattle.vt100_cells.specs.Cell.{CellView, text_eq, bool_eq, cell_eq}

pub text_eq-true : (xs ys : List ℕ) → text_eq xs ys ≡ true → xs ≡ ys
text_eq-true xs ys h = (bytes_decides xs ys).0 h

color_eq-refl : (a : Color) → color_eq a a ≡ true
color_eq-refl Default = refl
color_eq-refl (Idx i) = eq-eqb i i refl
color_eq-refl (Rgb r g b) = rw (eq-eqb r r refl, eq-eqb g g refl) (eq-eqb b b refl)

color_eq-true : (a b : Color) → color_eq a b ≡ true → a ≡ b
color_eq-true Default Default h = refl
color_eq-true (Idx i) (Idx j) h = ap Idx (eqb-true i j h)
color_eq-true (Rgb r g b) (Rgb s u c) h =
    let p = and_parts (r == s) ((g == u) && (b == c)) h in
    let q = and_parts (g == u) (b == c) p.1 in
    let e = eqb-true r s p.0 in
    let f = eqb-true g u q.0 in
    let k = eqb-true b c q.1 in
    λ i. Rgb (e i) (f i) (k i)
color_eq-true Default (Idx j) h = absurd (false≢true h)
color_eq-true Default (Rgb s u c) h = absurd (false≢true h)
color_eq-true (Idx i) Default h = absurd (false≢true h)
color_eq-true (Idx i) (Rgb s u c) h = absurd (false≢true h)
color_eq-true (Rgb r g b) Default h = absurd (false≢true h)
color_eq-true (Rgb r g b) (Idx j) h = absurd (false≢true h)

bool_eq-true : (p q : Bool) → bool_eq p q ≡ true → p ≡ q
bool_eq-true true q h = sym h
bool_eq-true false true h = h
bool_eq-true false false h = refl

bool_eq-refl : (p : Bool) → bool_eq p p ≡ true
bool_eq-refl true = refl
bool_eq-refl false = refl

pub attrs_eq-true : (a b : Attrs) → attrs_eq a b ≡ true → a ≡ b
attrs_eq-true a b h =
    let p = and_parts (color_eq a.fgcolor b.fgcolor) (color_eq a.bgcolor b.bgcolor && (a.mode == b.mode)) h in
    let q = and_parts (color_eq a.bgcolor b.bgcolor) (a.mode == b.mode) p.1 in
    let f = color_eq-true a.fgcolor b.fgcolor p.0 in
    let g = color_eq-true a.bgcolor b.bgcolor q.0 in
    let m = eqb-true a.mode b.mode q.1 in
    λ i. record { fgcolor = f i; bgcolor = g i; mode = m i }

pub attrs_eq-refl : (a : Attrs) → attrs_eq a a ≡ true
attrs_eq-refl a = rw (color_eq-refl a.fgcolor, color_eq-refl a.bgcolor) (eq-eqb a.mode a.mode refl)

-- a test on cells returns true exactly for one cell twice
pub cell_eq-true : (x y : CellView) → cell_eq x y ≡ true → x ≡ y
cell_eq-true x y h =
    let p = and_parts (text_eq x.text y.text && (bool_eq x.wide y.wide && bool_eq x.continuation y.continuation))
    (attrs_eq x.attrs y.attrs) h in
    let q = and_parts (text_eq x.text y.text) (bool_eq x.wide y.wide && bool_eq x.continuation y.continuation) p.0 in
    let r = and_parts (bool_eq x.wide y.wide) (bool_eq x.continuation y.continuation) q.1 in
    let t = text_eq-true x.text y.text q.0 in
    let w = bool_eq-true x.wide y.wide r.0 in
    let c = bool_eq-true x.continuation y.continuation r.1 in
    let a = attrs_eq-true x.attrs y.attrs p.1 in
    λ i. record { text = t i; wide = w i; continuation = c i; attrs = a i }

pub cell_eq-refl : (x : CellView) → cell_eq x x ≡ true
cell_eq-refl x = rw (
  nat_list_eq_equiv.refl x.text,
  bool_eq-refl x.wide,
  bool_eq-refl x.continuation,
) (attrs_eq-refl x.attrs)

pub cell_eq-of_same : (x y : CellView) → x ≡ y → cell_eq x y ≡ true
cell_eq-of_same x y e = ap (cell_eq x) (sym e) ∙ cell_eq-refl x

pub cell_eq-equiv : IsEquivalence cell_eq
cell_eq-equiv = record {
  refl = cell_eq-refl;
  symm = λ x y. both_ways (cell_eq x y) (cell_eq y x) (λ h. cell_eq-of_same y x (sym (cell_eq-true x y h)))
      (λ h. cell_eq-of_same x y (sym (cell_eq-true y x h)));
  congr = λ x y z h. ap (λ w. cell_eq w z) (cell_eq-true x y h);
}

pub cell_eq-per : IsPartialEquivalence cell_eq
cell_eq-per = partial_equiv_from_equiv cell_eq-equiv
