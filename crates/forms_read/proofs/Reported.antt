-- The attributes that an SGR form asks for.
use Rattle.std.proofs.Common.{◌≡◌, ℕ, zero, suc, ◌+◌, ◌-◌, ◌<◌, ◌≤◌, Bool, true, false, cond, List, [], ◌∷◌}
use Rattle.std.proofs.Common.{◌++◌, map, nat_lt, Option, Some, None, refl, sym, ap, subst, ◌∙◌, arith, append-nil}
use Rattle.std.proofs.Common.{append_assoc, ⊎_elim}
use Rattle.std.proofs.lemmas.Bool.{cond_both, lt-ltb, ltb-true, ltb-false, cases_lt}
use Rattle.vte_types.specs.declared.attr.Attr.{Attr}
use Rattle.vte_types.specs.declared.attr.Attr.TheVariants as a
use Rattle.vte_types.specs.declared.color.Color.{Color as Reported}
use Rattle.vte_types.specs.declared.color.NamedColor.{NamedColor}
use Rattle.vte_types.specs.declared.color.Color.TheVariants.{Named, Spec, Indexed}
use Rattle.vte_types.specs.declared.color.NamedColor.TheVariants as n
use Rattle.std.specs.Option.{option_map, option_to_list}
use Rattle.vte.specs.declared.sgr.Target.{Target}
use Rattle.vte.specs.declared.sgr.Target.TheVariants.{Foreground, Background}
use Rattle.vte.specs.Sgr.{target_of, group_attr, colored, rgb_color, attributes, nothing, index, red, green, blue}
use Rattle.vt100_forms.specs.declared.attrs.Color.{Color}
use Rattle.vt100_forms.specs.declared.attrs.Color.TheVariants.{Default, Idx, Rgb}
use Rattle.vt100_forms.specs.declared.term.Intensity.{Intensity}
use Rattle.vt100_forms.specs.declared.term.Intensity.TheVariants.{Normal}
use Rattle.vt100_forms.specs.Form.{Change, color_numbers, color_part, intensity_part, flag_part, sgr_numbers}
use Rattle.vt100_forms.specs.Attrs.{IsByteColor}
use Rattle.vt100_forms.specs.Length.{IsByteOption}
use Rattle.forms_read.specs.Events.{kept_number}
use Rattle.forms_read.specs.Calls.{name_of, color_reported, foreground_reported, background_reported}
use Rattle.forms_read.specs.Calls.{intensity_reported, flag_reported}
use Rattle.forms_read.specs.Calls.{change_reported}
use Rattle.forms_read.proofs.ReadForms.{cond-two}

-- ---- numbers that are read one after the other

-- each number is a parameter without subparameters
abbrev pub groups_reported : List ℕ → List (List ℕ)
groups_reported ns = map (λ k. kept_number k ∷ []) ns

groups-join : (ms ns : List ℕ) (gs : List (List ℕ))
    → groups_reported (ms ++ ns) ++ gs ≡ groups_reported ms ++ (groups_reported ns ++ gs)
groups-join [] ns gs = refl
groups-join (m ∷ ms) ns gs = ap (λ rest. (kept_number m ∷ []) ∷ rest) (groups-join ms ns gs)

-- the numbers set these attributes, whatever follows them
abbrev pub IsReportedBy : List ℕ → List Attr → Type 0
IsReportedBy ns xs = (gs : List (List ℕ)) → attributes nothing (groups_reported ns ++ gs) ≡ xs ++ attributes nothing gs

reported-both : (ms ns : List ℕ) (xs ys : List Attr) → IsReportedBy ms xs → IsReportedBy ns ys → IsReportedBy (ms ++ ns)
    (xs ++ ys)
reported-both ms ns xs ys h k gs =
    ap (attributes nothing) (groups-join ms ns gs) ∙ h (groups_reported ns ++ gs) ∙ ap (λ zs. xs ++ zs) (k gs)
    ∙ sym (append_assoc xs ys (attributes nothing gs))

-- a number that sets one attribute by itself
record IsSingle (k : ℕ) (x : Attr) : Type 0 where
  asks : group_attr (kept_number k ∷ []) ≡ Some x
  ends : target_of (kept_number k) ≡ None

single-reported : (k : ℕ) (x : Attr) → IsSingle k x → IsReportedBy (k ∷ []) (x ∷ [])
single-reported k x h gs = rw (h.asks, h.ends) refl

-- ---- colours with names

abbrev pub Below : (ℕ → Type 0) → ℕ → Type 0
Below P zero = Unit {0}
Below P (suc k) = P k × Below P k

pub each-below : (P : ℕ → Type 0) (k i : ℕ) → Below P k → i < k → P i
each-below P zero i h l = absurd (omega (arith, l))
each-below P (suc k) i h l =
    ⊎_elim (λ (m : i < k). each-below P k i h.1 m)
    (λ (m : k ≤ i). let e : k ≡ i = omega (arith, l, m) in subst P e h.0) (cases_lt i k)

-- the colour in the foreground, or else in the background, and the number at which its numbers begin
abbrev asked : Bool → Reported → Attr
asked fore x = cond fore (a.Foreground x) (a.Background x)

abbrev first : Bool → ℕ
first fore = cond fore 30 40

abbrev own : Bool → NamedColor
own fore = cond fore n.Foreground n.Background

abbrev named : Bool → ℕ → Attr
named fore i = asked fore (Named (name_of i))

-- the two equations of a number, and those of further numbers
infixr 5 ◌&◌
◌&◌ : {P Q : Type 0} → P → Q → P × Q
◌&◌ p q = (p, q)

is : {k : ℕ} {x : Attr} → group_attr (kept_number k ∷ []) ≡ Some x → target_of (kept_number k) ≡ None → IsSingle k x
is h k = record { asks = h; ends = k }

low : (fore : Bool) → Below (λ i. IsSingle (first fore + i) (named fore i)) 8
low true =
    is refl refl & is refl refl & is refl refl & is refl refl & is refl refl & is refl refl & is refl refl
    & is refl refl & tt
low false =
    is refl refl & is refl refl & is refl refl & is refl refl & is refl refl & is refl refl & is refl refl
    & is refl refl & tt

bright : (fore : Bool) → Below (λ j. IsSingle (first fore + 52 + (8 + j)) (named fore (8 + j))) 8
bright true =
    is refl refl & is refl refl & is refl refl & is refl refl & is refl refl & is refl refl & is refl refl
    & is refl refl & tt
bright false =
    is refl refl & is refl refl & is refl refl & is refl refl & is refl refl & is refl refl & is refl refl
    & is refl refl & tt

above : (P : ℕ → Type 0) (i : ℕ) → Below (λ j. P (8 + j)) 8 → 8 ≤ i → i < 16 → P i
above P i h l m =
    let e : 8 + (i - 8) ≡ i = omega (arith, l) in
    subst P e (each-below (λ j. P (8 + j)) 8 (i - 8) h (omega (arith, l, m)))

-- ---- other colours

index-reported : (t : Target) (i : ℕ) (gs : List (List ℕ)) → i < 256
    → attributes (index t) ((kept_number i ∷ []) ∷ gs) ≡ colored t (Indexed i) ∷ attributes nothing gs
index-reported t i gs h =
    let kept : kept_number i ≡ i = omega (arith, h) in
    ap (λ k. attributes (index t) ((k ∷ []) ∷ gs)) kept ∙ rw (lt-ltb i 256 h) refl

indexed-reported : (fore : Bool) (i : ℕ) → i < 256
    → IsReportedBy ((first fore + 8) ∷ 5 ∷ i ∷ []) (asked fore (Indexed i) ∷ [])
indexed-reported true i h gs = index-reported Foreground i gs h
indexed-reported false i h gs = index-reported Background i gs h

rgb-is : (r g b : ℕ) → r < 256 → g < 256 → b < 256 → rgb_color r g b ≡ Some (Spec (record { r = r; g = g; b = b }))
rgb-is r g b hr hg hb = rw (lt-ltb r 256 hr, lt-ltb g 256 hg, lt-ltb b 256 hb) refl

-- three values, after 38 or 48 and 2
values-reported : (t : Target) (r g b : ℕ) (gs : List (List ℕ)) → r < 256 → g < 256 → b < 256
    → attributes (red t) ((kept_number r ∷ []) ∷ (kept_number g ∷ []) ∷ (kept_number b ∷ []) ∷ gs)
    ≡ colored t (Spec (record { r = r; g = g; b = b })) ∷ attributes nothing gs
values-reported t r g b gs hr hg hb =
    let er : kept_number r ≡ r = omega (arith, hr) in
    let eg : kept_number g ≡ g = omega (arith, hg) in
    let eb : kept_number b ≡ b = omega (arith, hb) in
    (λ i. attributes (red t) ((er i ∷ []) ∷ (eg i ∷ []) ∷ (eb i ∷ []) ∷ gs))
    ∙ ap (λ c. attributes (cond c (green t r) nothing) ((g ∷ []) ∷ (b ∷ []) ∷ gs)) (lt-ltb r 256 hr)
    ∙ ap (λ c. attributes (cond c (blue t r g) nothing) ((b ∷ []) ∷ gs)) (lt-ltb g 256 hg)
    ∙ ap (λ o. option_to_list (option_map (colored t) o) ++ attributes nothing gs) (rgb-is r g b hr hg hb)

spec-reported : (fore : Bool) (r g b : ℕ) → r < 256 → g < 256 → b < 256
    → IsReportedBy ((first fore + 8) ∷ 2 ∷ r ∷ g ∷ b ∷ []) (asked fore (Spec (record { r = r; g = g; b = b })) ∷ [])
spec-reported true r g b hr hg hb gs = values-reported Foreground r g b gs hr hg hb
spec-reported false r g b hr hg hb gs = values-reported Background r g b gs hr hg hb

-- ---- the parts of a change

default-reported : (fore : Bool)
    → IsReportedBy (color_numbers (first fore) Default) (asked fore (color_reported (own fore) Default) ∷ [])
default-reported true gs = refl
default-reported false gs = refl

color-reported : (fore : Bool) (x : Color) → IsByteColor x
    → IsReportedBy (color_numbers (first fore) x) (asked fore (color_reported (own fore) x) ∷ [])
color-reported fore Default h = default-reported fore
color-reported fore (Idx i) h =
    cond_both (nat_lt i 8) ((first fore + i) ∷ []) _
    (λ ns. IsReportedBy ns (asked fore (color_reported (own fore) (Idx i)) ∷ []))
    (λ e. let small = ltb-true i 8 e in
    subst (λ b. IsReportedBy ((first fore + i) ∷ []) (asked fore (cond b (Named (name_of i)) (Indexed i)) ∷ []))
    (sym (lt-ltb i 16 (omega (arith, small))))
    (single-reported (first fore + i) (named fore i)
    (each-below (λ j. IsSingle (first fore + j) (named fore j)) 8 i (low fore) small)))
    (λ e. cond-two (λ ns c. IsReportedBy ns (asked fore c ∷ [])) (nat_lt i 16) _ _ _ _
    (λ q. single-reported (first fore + 52 + i) (named fore i)
    (above (λ j. IsSingle (first fore + 52 + j) (named fore j)) i (bright fore) (ltb-false i 8 e) (ltb-true i 16 q)))
    (λ _. indexed-reported fore i h))
color-reported fore (Rgb r g b) h = spec-reported fore r g b h.0 h.1 h.2

fore-part : (o : Option Color) → IsByteOption o → IsReportedBy (color_part 30 o) (foreground_reported o)
fore-part None h = λ gs. refl
fore-part (Some x) h = color-reported true x h

back-part : (o : Option Color) → IsByteOption o → IsReportedBy (color_part 40 o) (background_reported o)
back-part None h = λ gs. refl
back-part (Some x) h = color-reported false x h

reported-intensity : (o : Option Intensity) → IsReportedBy (intensity_part o) (intensity_reported o)
reported-intensity None gs = refl
reported-intensity (Some Normal) gs = refl
reported-intensity (Some i) gs = refl

reported-flag : (on off : ℕ) (x y : Attr) → IsSingle on x → IsSingle off y → (o : Option Bool)
    → IsReportedBy (flag_part on off o) (flag_reported x y o)
reported-flag on off x y h k None = λ gs. refl
reported-flag on off x y h k (Some true) = single-reported on x h
reported-flag on off x y h k (Some false) = single-reported off y k

pub reported-change : (c : Change) → IsByteOption c.fgcolor → IsByteOption c.bgcolor
    → IsReportedBy (sgr_numbers c) (change_reported c)
reported-change c f b =
    let fg = color_part 30 c.fgcolor in
    let bg = color_part 40 c.bgcolor in
    let one = reported-both fg bg _ _ (fore-part c.fgcolor f) (back-part c.bgcolor b) in
    let two = reported-both (fg ++ bg) (intensity_part c.intensity) _ _ one (reported-intensity c.intensity) in
    let three = reported-both (fg ++ bg ++ intensity_part c.intensity) (flag_part 3 23 c.italic) _ _ two
    (reported-flag 3 23 _ _ (is refl refl) (is refl refl) c.italic) in
    let four = reported-both (fg ++ bg ++ intensity_part c.intensity ++ flag_part 3 23 c.italic)
    (flag_part 4 24 c.underline) _ _ three (reported-flag 4 24 _ _ (is refl refl) (is refl refl) c.underline) in
    reported-both (fg ++ bg ++ intensity_part c.intensity ++ flag_part 3 23 c.italic ++ flag_part 4 24 c.underline)
    (flag_part 7 27 c.inverse) _ _ four (reported-flag 7 27 _ _ (is refl refl) (is refl refl) c.inverse)

pub reported-all : (ns : List ℕ) (xs : List Attr) → IsReportedBy ns xs → attributes nothing (groups_reported ns) ≡ xs
reported-all ns xs h = ap (attributes nothing) (sym (append-nil (groups_reported ns))) ∙ h [] ∙ append-nil xs
