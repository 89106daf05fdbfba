-- Forms that change the drawing attributes.
use Rattle.std.proofs.Common.{◌≡◌, ℕ, ◌+◌, ◌-◌, ◌<◌, ◌≤◌, Bool, true, false, cond, List, [], ◌∷◌, ◌++◌, map}
use Rattle.std.proofs.Common.{nat_lt, Option, Some, None, refl, sym, ap, subst, ◌∙◌, arith, append-nil}
use Rattle.std.specs.Prelude.{unwrap_or}
use Rattle.std.proofs.lemmas.Bool.{cond_both, lt-ltb, ltb-true, ltb-false}
use Rattle.vt100_forms.specs.declared.attrs.Attrs.{Attrs}
use Rattle.vt100_forms.specs.declared.attrs.Color.{Color}
use Rattle.vt100_forms.specs.declared.attrs.Color.TheVariants.{Default, Idx, Rgb}
use Rattle.vt100_forms.specs.declared.term.Intensity.{Intensity}
use Rattle.vt100_forms.specs.declared.term.Intensity.TheVariants.{Normal, Bold, Dim}
use Rattle.vt100_forms.specs.Attrs.{with_mode, IsByteColor}
use Rattle.vt100_forms.specs.Form.{Sgr, Change, color_numbers, color_part, intensity_part, flag_part}
use Rattle.vt100_forms.specs.Form.{sgr_numbers, with_change, intensity_set, flag_set}
use Rattle.vt100_forms.specs.Length.{IsByteOption}
use Rattle.terminal_model.specs.Apply.{apply}
use Rattle.forms_read.specs.Events.{kept_number, sgr_events, events_of}
use Rattle.screen_model.specs.State.{State}
use Rattle.screen_model.specs.Sgr.{colored, change, separate_color, asks, Read, read_on, read_groups}
use Rattle.screen_model.specs.Made.{played}
use Rattle.screen_view_laws.specs.Plain.{terminal_of, size_shown, IsPlainState}
use Rattle.screen_view_laws.specs.StateLaws.{Shows}
use Rattle.forms_read.proofs.Reported.{Below, each-below}
use Rattle.screen_model.proofs.Tables.{◌&◌}

-- ---- numbers that are read one after the other

abbrev singles : List ℕ → List (List ℕ)
singles ns = map (λ n. kept_number n ∷ []) ns

singles-join : (ms ns : List ℕ) (gs : List (List ℕ)) → singles (ms ++ ns) ++ gs ≡ singles ms ++ (singles ns ++ gs)
singles-join [] ns gs = refl
singles-join (m ∷ ms) ns gs = ap (λ rest. (kept_number m ∷ []) ∷ rest) (singles-join ms ns gs)

-- the numbers change the attributes by f, whatever follows them
abbrev IsReadBy : List ℕ → (Attrs → Attrs) → Type 0
IsReadBy ns f = (gs : List (List ℕ)) (a : Attrs)
    → read_groups (singles ns ++ gs) 0 a ≡ read_groups gs 0 (f a)

read-both : (ms ns : List ℕ) (f k : Attrs → Attrs) → IsReadBy ms f → IsReadBy ns k
    → IsReadBy (ms ++ ns) (λ a. k (f a))
read-both ms ns f k h g gs a =
    ap (λ rest. read_groups rest 0 a) (singles-join ms ns gs) ∙ h (singles ns ++ gs) a ∙ g gs (f a)

-- ---- colours

-- a number that sets a colour by itself
abbrev SetsColor : Bool → ℕ → ℕ → Type 0
SetsColor fore n i = (gs : List (List ℕ)) → asks (kept_number n ∷ []) gs ≡ change (colored fore (Idx i)) 0

low : (fore : Bool) → Below (λ i. SetsColor fore (cond fore 30 40 + i) i) 8
low true =
    (λ a. refl) & (λ a. refl) & (λ a. refl) & (λ a. refl) & (λ a. refl) & (λ a. refl) & (λ a. refl) & (λ a. refl) & tt
low false =
    (λ a. refl) & (λ a. refl) & (λ a. refl) & (λ a. refl) & (λ a. refl) & (λ a. refl) & (λ a. refl) & (λ a. refl) & tt

bright : (fore : Bool) → Below (λ j. SetsColor fore (cond fore 30 40 + 52 + (8 + j)) (8 + j)) 8
bright true =
    (λ a. refl) & (λ a. refl) & (λ a. refl) & (λ a. refl) & (λ a. refl) & (λ a. refl) & (λ a. refl) & (λ a. refl) & tt
bright false =
    (λ a. refl) & (λ a. refl) & (λ a. refl) & (λ a. refl) & (λ a. refl) & (λ a. refl) & (λ a. refl) & (λ a. refl) & tt

above : (P : ℕ → Type 0) (i : ℕ) → Below (λ j. P (8 + j)) 8 → 8 ≤ i → i < 16 → P i
above P i h l m =
    let e : 8 + (i - 8) ≡ i = omega (arith, l) in
    subst P e (each-below (λ j. P (8 + j)) 8 (i - 8) h (omega (arith, l, m)))

-- what groups after 38 or 48 alone make
abbrev read_after : Bool → List (List ℕ) → Attrs → Read
read_after fore gs a = read_on (read_groups gs) a (separate_color fore gs)

index-read : (fore : Bool) (i : ℕ) (gs : List (List ℕ)) (a : Attrs) → i < 256
    → read_after fore ((5 ∷ []) ∷ (kept_number i ∷ []) ∷ gs) a ≡ read_groups gs 0 (colored fore (Idx i) a)
index-read fore i gs a h =
    let kept : kept_number i ≡ i = omega (arith, h) in
    ap (λ n. read_after fore ((5 ∷ []) ∷ (n ∷ []) ∷ gs) a) kept ∙ rw (lt-ltb i 256 h) refl

indexed-is : (fore : Bool) (i : ℕ) → i < 256 → IsReadBy ((cond fore 30 40 + 8) ∷ 5 ∷ i ∷ []) (colored fore (Idx i))
indexed-is true i h gs a = index-read true i gs a h
indexed-is false i h gs a = index-read false i gs a h

values-read : (fore : Bool) (r g b : ℕ) (gs : List (List ℕ)) (a : Attrs) → r < 256 → g < 256 → b < 256
    → read_after fore ((2 ∷ []) ∷ (kept_number r ∷ []) ∷ (kept_number g ∷ []) ∷ (kept_number b ∷ []) ∷ gs) a
    ≡ read_groups gs 0 (colored fore (Rgb r g b) a)
values-read fore r g b gs a hr hg hb =
    let er : kept_number r ≡ r = omega (arith, hr) in
    let eg : kept_number g ≡ g = omega (arith, hg) in
    let eb : kept_number b ≡ b = omega (arith, hb) in
    (λ i. read_after fore ((2 ∷ []) ∷ (er i ∷ []) ∷ (eg i ∷ []) ∷ (eb i ∷ []) ∷ gs) a)
    ∙ rw (lt-ltb r 256 hr, lt-ltb g 256 hg, lt-ltb b 256 hb) refl

spec-is : (fore : Bool) (r g b : ℕ) → r < 256 → g < 256 → b < 256
    → IsReadBy ((cond fore 30 40 + 8) ∷ 2 ∷ r ∷ g ∷ b ∷ []) (colored fore (Rgb r g b))
spec-is true r g b hr hg hb gs a = values-read true r g b gs a hr hg hb
spec-is false r g b hr hg hb gs a = values-read false r g b gs a hr hg hb

-- one number that goes on
one-is : (n : ℕ) (f : Attrs → Attrs) → ((gs : List (List ℕ)) → asks (kept_number n ∷ []) gs ≡ change f 0)
    → IsReadBy (n ∷ []) f
one-is n f h gs a = ap (read_on (read_groups gs) a) (h gs)

color-is : (t : Bool) (c : Color) → IsByteColor c → IsReadBy (color_numbers (cond t 30 40) c) (colored t c)
color-is true Default h = λ gs a. refl
color-is false Default h = λ gs a. refl
color-is t (Idx i) h =
    cond_both (nat_lt i 8) _ _ (λ ns. IsReadBy ns (colored t (Idx i)))
    (λ e. one-is (cond t 30 40 + i) (colored t (Idx i))
    (each-below (λ j. SetsColor t (cond t 30 40 + j) j) 8 i (low t) (ltb-true i 8 e)))
    (λ e. cond_both (nat_lt i 16) _ _ (λ ns. IsReadBy ns (colored t (Idx i)))
    (λ q. one-is (cond t 30 40 + 52 + i) (colored t (Idx i))
    (above (λ j. SetsColor t (cond t 30 40 + 52 + j) j) i (bright t) (ltb-false i 8 e) (ltb-true i 16 q)))
    (λ _. indexed-is t i h))
color-is t (Rgb r g b) h = spec-is t r g b h.0 h.1 h.2

fore-is : (o : Option Color) → IsByteOption o
    → IsReadBy (color_part 30 o) (λ a. record a { fgcolor = unwrap_or o a.fgcolor })
fore-is None h = λ gs a. refl
fore-is (Some c) h = color-is true c h

back-is : (o : Option Color) → IsByteOption o
    → IsReadBy (color_part 40 o) (λ a. record a { bgcolor = unwrap_or o a.bgcolor })
back-is None h = λ gs a. refl
back-is (Some c) h = color-is false c h

-- ---- flags

intensity-is : (o : Option Intensity) → IsReadBy (intensity_part o) (λ a. with_mode a (intensity_set o a.mode))
intensity-is None gs a = refl
intensity-is (Some Normal) gs a = refl
intensity-is (Some Bold) gs a = refl
intensity-is (Some Dim) gs a = refl

flag-is : (on off bit : ℕ) → IsReadBy (on ∷ []) (λ a. with_mode a (flag_set bit (Some true) a.mode))
    → IsReadBy (off ∷ []) (λ a. with_mode a (flag_set bit (Some false) a.mode)) → (o : Option Bool)
    → IsReadBy (flag_part on off o) (λ a. with_mode a (flag_set bit o a.mode))
flag-is on off bit h k None = λ gs a. refl
flag-is on off bit h k (Some true) = h
flag-is on off bit h k (Some false) = k

change-is : (c : Change) → IsByteOption c.fgcolor → IsByteOption c.bgcolor
    → IsReadBy (sgr_numbers c) (λ a. with_change c a)
change-is c f b =
    let fg = color_part 30 c.fgcolor in
    let bg = color_part 40 c.bgcolor in
    let one = read-both fg bg _ _ (fore-is c.fgcolor f) (back-is c.bgcolor b) in
    let two = read-both (fg ++ bg) (intensity_part c.intensity) _ _ one (intensity-is c.intensity) in
    let three = read-both (fg ++ bg ++ intensity_part c.intensity) (flag_part 3 23 c.italic) _ _ two
    (flag-is 3 23 4 (λ gs a. refl) (λ gs a. refl) c.italic) in
    let four = read-both (fg ++ bg ++ intensity_part c.intensity ++ flag_part 3 23 c.italic)
    (flag_part 4 24 c.underline) _ _ three (flag-is 4 24 8 (λ gs a. refl) (λ gs a. refl) c.underline) in
    read-both (fg ++ bg ++ intensity_part c.intensity ++ flag_part 3 23 c.italic ++ flag_part 4 24 c.underline)
    (flag_part 7 27 c.inverse) _ _ four (flag-is 7 27 16 (λ gs a. refl) (λ gs a. refl) c.inverse)

-- ---- the form

sgr-played : (ns : List ℕ) (f : Attrs → Attrs) (s : State) → IsReadBy ns f
    → played (sgr_events ns) s ≡ record s { attrs = f s.attrs }
sgr-played [] f s h = ap (λ (r : Read). record s { attrs = r.attrs }) (h [] s.attrs)
sgr-played (n ∷ ns) f s h =
    ap (λ gs. record s { attrs = (read_groups gs 0 s.attrs).attrs }) (sym (append-nil (singles (n ∷ ns))))
    ∙ ap (λ (r : Read). record s { attrs = r.attrs }) (h [] s.attrs)

pub shows-Sgr : (s : State) (c : Change) → IsPlainState s → IsByteOption c.fgcolor → IsByteOption c.bgcolor
    → Shows s (apply (size_shown s) (Sgr c) (terminal_of s)) (played (events_of (Sgr c)) s)
unfolding apply
shows-Sgr s c h f b =
    subst (Shows s _) (sym (sgr-played (sgr_numbers c) (λ a. with_change c a) s (change-is c f b)))
    (record { shows = refl; size = refl; plain = h })
