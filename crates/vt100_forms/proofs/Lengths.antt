-- How many bytes a form can have.
use Rattle.std.proofs.Common.{◌≡◌, ℕ, ◌+◌, ◌-◌, ◌^◌, ◌<◌, ◌≤◌, List, [], ◌∷◌, ◌++◌, Bool, true, false, ◌&&◌, refl}
use Rattle.std.proofs.Common.{arith, Option, Some, None, length, length-append}
use Rattle.std.specs.Prelude.{decimal, ◌==◌, nat_lt}
use Rattle.std.proofs.lemmas.Fmt.{length-decimal-le}
use Rattle.std.proofs.lemmas.Bool.{cond_both}
use Rattle.vt100_forms.specs.declared.attrs.Color.{Color}
use Rattle.vt100_forms.specs.declared.attrs.Color.TheVariants.{Default, Idx, Rgb}
use Rattle.vt100_forms.specs.declared.term.Intensity.{Intensity}
use Rattle.vt100_forms.specs.declared.term.Intensity.TheVariants.{Normal, Bold, Dim}
use Rattle.vt100_forms.specs.declared.modes.MouseProtocolMode.{MouseProtocolMode}
use Rattle.vt100_forms.specs.declared.modes.MouseProtocolMode.TheVariants as mouse
use Rattle.vt100_forms.specs.declared.modes.MouseProtocolEncoding.{MouseProtocolEncoding}
use Rattle.vt100_forms.specs.declared.modes.MouseProtocolEncoding.TheVariants as encoding
use Rattle.vt100_forms.specs.declared.modes.CursorStyle.{CursorStyle}
use Rattle.vt100_forms.specs.declared.modes.CursorStyle.TheVariants as style
use Rattle.vt100_forms.specs.Attrs.{default_attrs, color_eq, attrs_eq, IsByteColor}
use Rattle.vt100_forms.specs.Form.{Form, Text, MoveTo, MoveRight, EraseChar, ClearRowForward, ClearScreen, ClearAttrs}
use Rattle.vt100_forms.specs.Form.{Crlf, Lf, Backspace, SaveCursor, RestoreCursor, HideCursor, Keypad, CursorKeys}
use Rattle.vt100_forms.specs.Form.{Paste, Mouse, Encoding, Style, Sgr, Change, form_bytes, bytes_of, changed_attrs}
use Rattle.vt100_forms.specs.Form.{changed_color, counted, mode_change, mouse_number, encoding_number, style_number}
use Rattle.vt100_forms.specs.Form.{color_numbers, color_part, intensity_part, flag_part, sgr_numbers, sgr_text}
use Rattle.vt100_forms.specs.Form.{further_numbers}
use Rattle.vt100_forms.specs.Length.{IsByteOption, EachWrittenFormIsShort, EachMoveIsShort, EachChangeIsShort}

digits-1 : (n : ℕ) → n < 10 → length (decimal n) ≤ 1
digits-1 n h = length-decimal-le 1 n (omega arith) h (omega arith)

digits-2 : (n : ℕ) → n < 100 → length (decimal n) ≤ 2
digits-2 n h = length-decimal-le 2 n (omega arith) h (omega arith)

digits-3 : (n : ℕ) → n < 1000 → length (decimal n) ≤ 3
digits-3 n h = length-decimal-le 3 n (omega arith) h (omega arith)

digits-4 : (n : ℕ) → n < 10000 → length (decimal n) ≤ 4
digits-4 n h = length-decimal-le 4 n (omega arith) h (omega arith)

digits-5 : (n : ℕ) → n < 100000 → length (decimal n) ≤ 5
digits-5 n h = length-decimal-le 5 n (omega arith) h (omega arith)

length-MoveTo : (r c : ℕ) → r < 2 ^ 16 → c < 2 ^ 16 → length (form_bytes (MoveTo r c)) ≤ 14
length-MoveTo r c hr hc = cond_both ((r == 0) && (c == 0)) _ _ (λ xs. length xs ≤ 14) (λ h. omega arith)
    (λ h. simp length-append (omega (arith, digits-5 (r + 1) (omega arith), digits-5 (c + 1) (omega arith))))

length-counted : (n b : ℕ) → n < 2 ^ 16 → length (counted n (b ∷ [])) ≤ 8
length-counted n b h = cond_both (n == 0) _ _ (λ xs. length xs ≤ 8) (λ g. omega arith)
    (λ g. cond_both (n == 1) _ _ (λ xs. length xs ≤ 8) (λ k. omega arith)
    (λ k. simp length-append (omega (arith, digits-5 n (omega arith)))))

length-mode_change : (to from : ℕ) → to < 10000 → from < 10000 → length (mode_change to from) ≤ 8
length-mode_change to from ht hf = cond_both (to == from) _ _ (λ xs. length xs ≤ 8) (λ g. omega arith)
    (λ g. cond_both (to == 0) _ _ (λ xs. length xs ≤ 8)
    (λ k. simp length-append (omega (arith, digits-4 from hf)))
    (λ k. simp length-append (omega (arith, digits-4 to ht))))

-- the bytes of the parameters, each with one more for what separates it
abbrev width_of : List ℕ → ℕ
width_of [] = 0
width_of (n ∷ ns) = 1 + length (decimal n) + width_of ns

width_of-append : (ms ns : List ℕ) → width_of (ms ++ ns) ≡ width_of ms + width_of ns
width_of-append [] ns = omega arith
width_of-append (m ∷ ms) ns = omega (arith, width_of-append ms ns)

length-further : (ns : List ℕ) → length (further_numbers ns) ≡ width_of ns
length-further [] = refl
length-further (n ∷ ns) = simp length-append (omega (arith, length-further ns))

length-sgr_text : (ns : List ℕ) → length (sgr_text ns) ≤ 2 + width_of ns
length-sgr_text [] = omega arith
length-sgr_text (n ∷ ns) = simp length-append (omega (arith, length-further ns))

width_of-color : (base : ℕ) (c : Color) → base ≤ 40 → IsByteColor c → width_of (color_numbers base c) ≤ 17
width_of-color base Default b h = omega (arith, digits-2 (base + 9) (omega arith))
width_of-color base (Idx i) b h =
    cond_both (nat_lt i 8) _ _ (λ ns. width_of ns ≤ 17) (λ g. omega (arith, digits-3 (base + i) (omega arith)))
    (λ g. cond_both (nat_lt i 16) _ _ (λ ns. width_of ns ≤ 17)
    (λ k. omega (arith, digits-3 (base + 52 + i) (omega arith)))
    (λ k. omega (arith, digits-2 (base + 8) (omega arith), digits-1 5 (omega arith), digits-3 i (omega arith))))
width_of-color base (Rgb r g b') b h =
    omega (
      arith,
      digits-2 (base + 8) (omega arith),
      digits-1 2 (omega arith),
      digits-3 r (omega (arith, h.0)),
      digits-3 g (omega (arith, h.1)),
      digits-3 b' (omega (arith, h.2)),
    )

width_of-color_part : (base : ℕ) (o : Option Color) → base ≤ 40 → IsByteOption o → width_of (color_part base o) ≤ 17
width_of-color_part base None b h = omega arith
width_of-color_part base (Some c) b h = width_of-color base c b h

width_of-intensity : (o : Option Intensity) → width_of (intensity_part o) ≤ 3
width_of-intensity None = omega arith
width_of-intensity (Some Normal) = omega (arith, digits-2 22 (omega arith))
width_of-intensity (Some Bold) = omega (arith, digits-1 1 (omega arith))
width_of-intensity (Some Dim) = omega (arith, digits-1 2 (omega arith))

width_of-flag : (on off : ℕ) (o : Option Bool) → on < 100 → off < 100 → width_of (flag_part on off o) ≤ 3
width_of-flag on off None h k = omega arith
width_of-flag on off (Some true) h k = omega (arith, digits-2 on h)
width_of-flag on off (Some false) h k = omega (arith, digits-2 off k)

width_of-sgr : (c : Change) → IsByteOption c.fgcolor → IsByteOption c.bgcolor → width_of (sgr_numbers c) ≤ 46
width_of-sgr c f b = simp width_of-append (omega (
  arith,
  width_of-color_part 30 c.fgcolor (omega arith) f,
  width_of-color_part 40 c.bgcolor (omega arith) b,
  width_of-intensity c.intensity,
  width_of-flag 3 23 c.italic (omega arith) (omega arith),
  width_of-flag 4 24 c.underline (omega arith) (omega arith),
  width_of-flag 7 27 c.inverse (omega arith) (omega arith),
))

length-Sgr : (c : Change) → IsByteOption c.fgcolor → IsByteOption c.bgcolor → length (form_bytes (Sgr c)) ≤ 48
length-Sgr c f b = omega (arith, length-sgr_text (sgr_numbers c), width_of-sgr c f b)

mouse_number-small : (m : MouseProtocolMode) → mouse_number m < 10000
mouse_number-small mouse.None = omega arith
mouse_number-small mouse.Press = omega arith
mouse_number-small mouse.PressRelease = omega arith
mouse_number-small mouse.ButtonMotion = omega arith
mouse_number-small mouse.AnyMotion = omega arith

encoding_number-small : (e : MouseProtocolEncoding) → encoding_number e < 10000
encoding_number-small encoding.Default = omega arith
encoding_number-small encoding.Utf8 = omega arith
encoding_number-small encoding.Sgr = omega arith

style_number-small : (s : CursorStyle) → style_number s < 10
style_number-small style.Default = omega arith
style_number-small style.BlinkBlock = omega arith
style_number-small style.SteadyBlock = omega arith
style_number-small style.BlinkUnderline = omega arith
style_number-small style.SteadyUnderline = omega arith
style_number-small style.BlinkVerticalBar = omega arith
style_number-small style.SteadyVerticalBar = omega arith

length-Style : (to from : CursorStyle) → length (form_bytes (Style to from)) ≤ 5
length-Style to from = cond_both (style_number to == style_number from) _ _ (λ xs. length xs ≤ 5) (λ h. omega arith)
    (λ h. simp length-append (omega (arith, digits-1 (style_number to) (style_number-small to))))

pub length-form_bytes : EachWrittenFormIsShort
length-form_bytes (Text cs) h = omega arith
length-form_bytes (MoveTo r c) h = length-MoveTo r c h.0 h.1
length-form_bytes (MoveRight n) h = length-counted n 67 h
length-form_bytes (EraseChar n) h = length-counted n 88 h
length-form_bytes ClearRowForward h = omega arith
length-form_bytes ClearScreen h = omega arith
length-form_bytes ClearAttrs h = omega arith
length-form_bytes Crlf h = omega arith
length-form_bytes Lf h = omega arith
length-form_bytes Backspace h = omega arith
length-form_bytes SaveCursor h = omega arith
length-form_bytes RestoreCursor h = omega arith
length-form_bytes (HideCursor true) h = omega arith
length-form_bytes (HideCursor false) h = omega arith
length-form_bytes (Keypad true) h = omega arith
length-form_bytes (Keypad false) h = omega arith
length-form_bytes (CursorKeys true) h = omega arith
length-form_bytes (CursorKeys false) h = omega arith
length-form_bytes (Paste true) h = omega arith
length-form_bytes (Paste false) h = omega arith
length-form_bytes (Mouse to from) h = length-mode_change _ _ (mouse_number-small to) (mouse_number-small from)
length-form_bytes (Encoding to from) h = length-mode_change _ _ (encoding_number-small to) (encoding_number-small from)
length-form_bytes (Style to from) h = length-Style to from
length-form_bytes (Sgr c) h = length-Sgr c h.0 h.1

length-bytes_of_one : (f : Form) (n : ℕ) → length (form_bytes f) ≤ n → length (bytes_of (f ∷ [])) ≤ n
length-bytes_of_one f n h = simp length-append (omega (arith, h))

pub length-moves : EachMoveIsShort
length-moves p q hp hq =
    let P : List Form → Type 0 = λ fs. length (bytes_of fs) ≤ 14 in
    cond_both ((q.row == p.row + 1) && (q.col == 0)) _ _ P (λ h. omega arith)
    (λ h. cond_both ((p.row == q.row) && (p.col == q.col)) _ _ P (λ g. omega arith)
    (λ g. cond_both ((p.row == q.row) && nat_lt p.col q.col) _ _ P
    (λ k. length-bytes_of_one (MoveRight (q.col - p.col)) 14
    (omega (arith, length-counted (q.col - p.col) 67 (omega (arith, hq.1)))))
    (λ k. length-bytes_of_one (MoveTo q.row q.col) 14 (length-MoveTo q.row q.col hq.0 hq.1))))

changed_color-small : (old new : Color) → IsByteColor new → IsByteOption (changed_color old new)
changed_color-small old new h = cond_both (color_eq new old) None (Some new) IsByteOption (λ i. tt) (λ i. h)

pub length-change : EachChangeIsShort
length-change a b h =
    let P : List Form → Type 0 = λ fs. length (bytes_of fs) ≤ 48 in
    cond_both (attrs_eq b a) _ _ P (λ i. omega arith)
    (λ i. cond_both (attrs_eq b default_attrs) _ _ P (λ j. omega arith)
    (λ j. length-bytes_of_one (Sgr (changed_attrs a b)) 48
    (length-Sgr (changed_attrs a b) (changed_color-small a.fgcolor b.fgcolor h.0)
    (changed_color-small a.bgcolor b.bgcolor h.1))))
