-- The events of each form's bytes.
use Rattle.std.proofs.Common.{◌≡◌, ℕ, ◌+◌, ◌^◌, ◌<◌, ◌≤◌, ◌==◌, Bool, true, false, cond, ◌&&◌, ◌||◌, List, []}
use Rattle.std.proofs.Common.{◌∷◌, ◌++◌, map, length, Option, None, Some, refl, ap, ◌∙◌, subst, arith}
use Rattle.std.proofs.Common.{append-nil, append_assoc, length-append, nat_lt}
use Rattle.std.specs.Prelude.{decimal, codes, encode_utf8_all}
use Rattle.std.specs.Fmt.{digits}
use Rattle.std.specs.Int.{is_in_range}
use Rattle.std.specs.List.{AllByRecursion}
use Rattle.std.proofs.lemmas.Bool.{cond_both}
use Rattle.std.proofs.lemmas.Bool.Decides.{nat_tests}
use Rattle.std.proofs.lemmas.Str.{chars-encodes}
use lib.Utf8.{encode, scalars}
use Rattle.vte_core.specs.Event.{Event, Print, Esc}
use Rattle.vte_core.specs.Text.{char_event}
use Rattle.vte_core.specs.Ground.{IsSequence, IsText, is_introducer, header_event}
use Rattle.vte_core.proofs.GroundLemmas.{ground-nothing, ground-joins, ground-added, ground-escape, ground-sequence}
use Rattle.vte_core.proofs.GroundLemmas.{ground-text, escape-tells, sequence-tells, text-tells}
use Rattle.vt100_forms.specs.declared.attrs.Color.{Color}
use Rattle.vt100_forms.specs.declared.attrs.Color.TheVariants.{Default, Idx, Rgb}
use Rattle.vt100_forms.specs.declared.term.Intensity.{Intensity}
use Rattle.vt100_forms.specs.declared.term.Intensity.TheVariants.{Normal, Bold, Dim}
use Rattle.vt100_forms.specs.declared.modes.MouseProtocolMode.{MouseProtocolMode}
use Rattle.vt100_forms.specs.declared.modes.MouseProtocolMode.TheVariants as mouse
use Rattle.vt100_forms.specs.declared.modes.MouseProtocolEncoding.{MouseProtocolEncoding}
use Rattle.vt100_forms.specs.declared.modes.MouseProtocolEncoding.TheVariants as encoding
use Rattle.vt100_forms.specs.declared.modes.CursorStyle.{CursorStyle}
use Rattle.vt100_forms.specs.declared.modes.CursorStyle.TheVariants as style
use Rattle.vt100_forms.specs.Form.{Form, Text, MoveTo, MoveRight, EraseChar, ClearRowForward, ClearScreen, ClearAttrs}
use Rattle.vt100_forms.specs.Form.{Crlf, Lf, Backspace, SaveCursor, RestoreCursor, HideCursor, Keypad, CursorKeys}
use Rattle.vt100_forms.specs.Form.{Paste, Mouse, Encoding, Style, Sgr, Change, csi, counted}
use Rattle.vt100_forms.specs.Form.{mode_change, mouse_number, encoding_number, style_number, color_numbers, color_part}
use Rattle.vt100_forms.specs.Form.{intensity_part, flag_part, sgr_numbers, sgr_text, further_numbers, form_bytes}
use Rattle.vt100_forms.specs.Form.{bytes_of}
use Rattle.vt100_forms.specs.Attrs.{IsByteColor}
use Rattle.vt100_forms.specs.Length.{IsByteOption}
use Rattle.forms_read.specs.Events.{sequence, bare, counted_events, mode_events, sgr_events}
use Rattle.forms_read.specs.Events.{events_of, events_of_all}
use Rattle.forms_read.specs.Laws.{IsPrinted, IsReadable, IsReadAs, EachFormIsRead, EachListIsRead}
use Rattle.terminal_model.proofs.PlainText.{all-append, is_no_esc, no_esc-all}
use Rattle.forms_read.proofs.Numbers.{AreSmall, written, written-event, written-header, marked-event, marked-header}

-- ---- pieces

read-nil : (k : ℕ) → IsReadAs k [] []
read-nil k = (refl, ground-nothing k)

read-append : (k : ℕ) (xs ys : List ℕ) (es gs : List Event) → IsReadAs k xs es → IsReadAs k ys gs
    → IsReadAs k (xs ++ ys) (es ++ gs)
read-append k xs ys es gs h g = (h.1 ys ∙ (λ i. h.0 i ++ g.0 i), ground-joins k xs ys h.1 g.1)

read-header : (k : ℕ) (header : List ℕ) (final : ℕ) (es : List Event) → IsSequence header final
    → header_event header final ≡ es → IsReadAs k (csi (header ++ final ∷ [])) es
read-header k header final es h e = (sequence-tells k header final h ∙ e, ground-sequence k header final h)

read-numbers : (k n : ℕ) (ns : List ℕ) (final : ℕ) → is_in_range 0x40 0x7E final ≡ true → n < 2 ^ 64 → AreSmall ns
    → length (n ∷ ns) ≤ 32
    → IsReadAs k (csi (decimal n ++ (further_numbers ns ++ final ∷ []))) (sequence [] (n ∷ ns) final ∷ [])
read-numbers k n ns final f h g l =
    subst (λ bs. IsReadAs k (csi bs) (sequence [] (n ∷ ns) final ∷ []))
    (append_assoc (decimal n) (further_numbers ns) (final ∷ []))
    (read-header k (written n ns) final (sequence [] (n ∷ ns) final ∷ []) (written-header n ns h g, f)
    (written-event n ns final h g l))

read-bare : (k final : ℕ) → is_in_range 0x40 0x7E final ≡ true → IsReadAs k (csi (final ∷ [])) (bare final ∷ [])
read-bare k final f = read-header k [] final (bare final ∷ []) (tt, f) refl

read-escape : (k b : ℕ) → is_in_range 0x30 0x7E b ≡ true → is_introducer b ≡ false
    → IsReadAs k (27 ∷ b ∷ []) (Esc [] false b ∷ [])
read-escape k b h i = (escape-tells k [] b (tt, h, λ _. i), ground-escape k [] b (tt, h, λ _. i))

pub cond-two : {A B : Type 0} (P : A → B → Type 0) (b : Bool) (x y : A) (u v : B) → (b ≡ true → P x u)
    → (b ≡ false → P y v)
    → P (cond b x y) (cond b u v)
cond-two P true x y u v h g = h refl
cond-two P false x y u v h g = g refl

-- ---- numbers

read-MoveTo : (k r c : ℕ) → r < 2 ^ 16 → c < 2 ^ 16 → IsReadAs k (form_bytes (MoveTo r c)) (events_of (MoveTo r c))
read-MoveTo k r c hr hc =
    cond-two (IsReadAs k) ((r == 0) && (c == 0)) _ _ _ _ (λ _. read-bare k 72 refl)
    (λ _. subst (λ bs. IsReadAs k (csi (decimal (r + 1) ++ (59 ∷ (bs ++ 72 ∷ [])))) (sequence [] ((r + 1) ∷ (c + 1)
    ∷ []) 72 ∷ [])) (append-nil (decimal (c + 1)))
    (read-numbers k (r + 1) ((c + 1) ∷ []) 72 refl (omega (arith, hr)) (omega (arith, hc), tt) (omega arith)))

read-counted : (k n b : ℕ) → is_in_range 0x40 0x7E b ≡ true → n < 2 ^ 16
    → IsReadAs k (counted n (b ∷ [])) (counted_events n b)
read-counted k n b f h =
    cond-two (IsReadAs k) (n == 0) _ _ _ _ (λ _. read-nil k)
    (λ _. cond-two (IsReadAs k) (n == 1) _ _ _ _ (λ _. read-bare k b f)
    (λ _. read-numbers k n [] b f (omega (arith, h)) tt (omega arith)))

-- ---- modes

read-marked : (k n final : ℕ) → is_in_range 0x40 0x7E final ≡ true → n < 2 ^ 64
    → IsReadAs k (csi (codes "?" ++ (decimal n ++ final ∷ []))) (sequence (63 ∷ []) (n ∷ []) final ∷ [])
read-marked k n final f h =
    read-header k (63 ∷ decimal n) final (sequence (63 ∷ []) (n ∷ []) final ∷ []) (marked-header n h, f)
    (marked-event n final h)

read-mode_change : (k to from : ℕ) → to < 2 ^ 16 → from < 2 ^ 16
    → IsReadAs k (mode_change to from) (mode_events to from)
read-mode_change k to from h g =
    cond-two (IsReadAs k) (to == from) _ _ _ _ (λ _. read-nil k)
    (λ _. cond-two (IsReadAs k) (to == 0) _ _ _ _ (λ _. read-marked k from 108 refl (omega (arith, g)))
    (λ _. read-marked k to 104 refl (omega (arith, h))))

pub mouse-small : (m : MouseProtocolMode) → mouse_number m < 2 ^ 16
mouse-small mouse.None = omega arith
mouse-small m = omega arith

pub encoding-small : (e : MouseProtocolEncoding) → encoding_number e < 2 ^ 16
encoding-small encoding.Default = omega arith
encoding-small e = omega arith

read-style : (k : ℕ) (s : CursorStyle)
    → IsReadAs k (csi (decimal (style_number s) ++ codes " q")) (sequence (0x20 ∷ []) (style_number s ∷ []) 0x71 ∷ [])
unfolding digits
read-style k style.Default = read-header k (codes "0 ") 113 _ ((refl, (refl, tt)), refl) refl
read-style k s = read-header k (decimal (style_number s) ++ codes " ") 113 _ ((refl, (refl, tt)), refl) refl

-- ---- attributes

-- the numbers are few enough and small enough for the parser to keep them
abbrev AreFew : ℕ → List ℕ → Type 0
AreFew k ns = AreSmall ns × (length ns ≤ k)

few-append : (j k : ℕ) (ms ns : List ℕ) → AreFew j ms → AreFew k ns → AreFew (j + k) (ms ++ ns)
few-append j k ms ns h g = (all-append (λ n. n < 2 ^ 64) ms ns h.0 g.0, simp length-append (omega (arith, h.1, g.1)))

few-color : (base : ℕ) (c : Color) → base ≤ 40 → IsByteColor c → AreFew 5 (color_numbers base c)
few-color base Default b h = ((omega (arith, b), tt), omega arith)
few-color base (Idx i) b h =
    cond_both (nat_lt i 8) _ _ (AreFew 5) (λ _. ((omega (arith, b, h), tt), omega arith))
    (λ _. cond_both (nat_lt i 16) _ _ (AreFew 5) (λ _. ((omega (arith, b, h), tt), omega arith))
    (λ _. ((omega (arith, b), (omega arith, (omega (arith, h), tt))), omega arith)))
few-color base (Rgb r g b') b h = (
  (omega (arith, b), (omega arith, (omega (arith, h.0), (omega (arith, h.1), (omega (arith, h.2), tt))))),
  omega arith,
)

few-color_part : (base : ℕ) (o : Option Color) → base ≤ 40 → IsByteOption o → AreFew 5 (color_part base o)
few-color_part base None b h = (tt, omega arith)
few-color_part base (Some c) b h = few-color base c b h

few-intensity : (o : Option Intensity) → AreFew 1 (intensity_part o)
few-intensity None = (tt, omega arith)
few-intensity (Some Normal) = ((omega arith, tt), omega arith)
few-intensity (Some Bold) = ((omega arith, tt), omega arith)
few-intensity (Some Dim) = ((omega arith, tt), omega arith)

few-flag : (on off : ℕ) (o : Option Bool) → on < 100 → off < 100 → AreFew 1 (flag_part on off o)
few-flag on off None h g = (tt, omega arith)
few-flag on off (Some true) h g = ((omega (arith, h), tt), omega arith)
few-flag on off (Some false) h g = ((omega (arith, g), tt), omega arith)

few-sgr : (c : Change) → IsByteOption c.fgcolor → IsByteOption c.bgcolor → AreFew 14 (sgr_numbers c)
few-sgr c f b =
    let one = few-append 5 5 (color_part 30 c.fgcolor) (color_part 40 c.bgcolor)
    (few-color_part 30 c.fgcolor (omega arith) f) (few-color_part 40 c.bgcolor (omega arith) b) in
    let two = few-append 10 1 _ (intensity_part c.intensity) one (few-intensity c.intensity) in
    let three = few-append 11 1 _ (flag_part 3 23 c.italic) two (few-flag 3 23 c.italic (omega arith) (omega arith)) in
    let four = few-append 12 1 _ (flag_part 4 24 c.underline) three
    (few-flag 4 24 c.underline (omega arith) (omega arith)) in
    few-append 13 1 _ (flag_part 7 27 c.inverse) four (few-flag 7 27 c.inverse (omega arith) (omega arith))

read-sgr : (k : ℕ) (ns : List ℕ) → AreFew 14 ns → IsReadAs k (sgr_text ns) (sgr_events ns)
read-sgr k [] h = read-nil k
read-sgr k (n ∷ ns) h = read-numbers k n ns 109 refl (h.0.0) (h.0.1) (omega (arith, h.1))

-- ---- text

read-characters : (k : ℕ) (cs : List ℕ) → scalars cs ≡ true → AllByRecursion is_no_esc cs
    → IsReadAs k (encode_utf8_all cs) (map char_event cs)
unfolding is_no_esc
read-characters k cs s h =
    let text : IsText (encode_utf8_all cs) = ((cs, (s, refl)), no_esc-all cs h) in (
      text-tells k (encode_utf8_all cs) text ∙ ap (map char_event) (chars-encodes cs s),
      ground-text k (encode_utf8_all cs) text,
    )

printed-scalars : (cs : List ℕ) → AllByRecursion IsPrinted cs → scalars cs ≡ true
printed-scalars [] h = refl
printed-scalars (c ∷ cs) h = rw (h.0.0) (printed-scalars cs h.1)

esc-unprinted : (c : ℕ) → (nat_lt c 0x20 || is_in_range 0x80 0x9F c) ≡ false → c ≡ 27 → ⊥
esc-unprinted c h e = absurd (grind (arith, nat_tests))

printed-no_esc : (cs : List ℕ) → AllByRecursion IsPrinted cs → AllByRecursion is_no_esc cs
unfolding is_no_esc
printed-no_esc [] h = tt
printed-no_esc (c ∷ cs) h = (esc-unprinted c h.0.1, printed-no_esc cs h.1)

printed-events : (cs : List ℕ) → AllByRecursion IsPrinted cs → map char_event cs ≡ map Print cs
printed-events [] h = refl
printed-events (c ∷ cs) h = rw (h.0.1) (ap (λ es. Print c ∷ es) (printed-events cs h.1))

read-text : (k : ℕ) (cs : List ℕ) → AllByRecursion IsPrinted cs → IsReadAs k (encode_utf8_all cs) (map Print cs)
read-text k cs h =
    let r = read-characters k cs (printed-scalars cs h) (printed-no_esc cs h) in
    (r.0 ∙ printed-events cs h, r.1)

-- ---- forms, and lists of them

pub form-read : EachFormIsRead
unfolding encode is_no_esc
form-read k (Text cs) h = read-text k cs h.0
form-read k (MoveTo r c) h = read-MoveTo k r c h.1.0 h.1.1
form-read k (MoveRight n) h = read-counted k n 67 refl h.1
form-read k (EraseChar n) h = read-counted k n 88 refl h.1
form-read k ClearRowForward h = read-bare k 75 refl
form-read k ClearScreen h =
    read-append k (csi (codes "H")) (csi (codes "J")) (bare 72 ∷ []) (bare 74 ∷ []) (read-bare k 72 refl)
    (read-bare k 74 refl)
form-read k ClearAttrs h = read-bare k 109 refl
form-read k Crlf h = read-characters k (13 ∷ 10 ∷ []) refl (λ e. omega (arith, e), (λ e. omega (arith, e), tt))
form-read k Lf h = read-characters k (10 ∷ []) refl (λ e. omega (arith, e), tt)
form-read k Backspace h = read-characters k (8 ∷ []) refl (λ e. omega (arith, e), tt)
form-read k SaveCursor h = read-escape k 55 refl refl
form-read k RestoreCursor h = read-escape k 56 refl refl
form-read k (HideCursor true) h = read-header k (codes "?25") 108 _ ((refl, (refl, (refl, tt))), refl) refl
form-read k (HideCursor false) h = read-header k (codes "?25") 104 _ ((refl, (refl, (refl, tt))), refl) refl
form-read k (Keypad true) h = read-escape k 61 refl refl
form-read k (Keypad false) h = read-escape k 62 refl refl
form-read k (CursorKeys true) h = read-header k (codes "?1") 104 _ ((refl, (refl, tt)), refl) refl
form-read k (CursorKeys false) h = read-header k (codes "?1") 108 _ ((refl, (refl, tt)), refl) refl
form-read k (Paste true) h = read-header k (codes "?2004") 104 _ ((refl, (refl, (refl, (refl, (refl, tt))))), refl) refl
form-read k (Paste false) h =
    read-header k (codes "?2004") 108 _ ((refl, (refl, (refl, (refl, (refl, tt))))), refl) refl
form-read k (Mouse to from) h = read-mode_change k _ _ (mouse-small to) (mouse-small from)
form-read k (Encoding to from) h = read-mode_change k _ _ (encoding-small to) (encoding-small from)
form-read k (Style to from) h =
    cond-two (IsReadAs k) (style_number to == style_number from) _ _ _ _ (λ _. read-nil k) (λ _. read-style k to)
form-read k (Sgr c) h = read-sgr k (sgr_numbers c) (few-sgr c h.1.0 h.1.1)

forms-read : (k : ℕ) (fs : List Form) → AllByRecursion IsReadable fs → IsReadAs k (bytes_of fs) (events_of_all fs)
forms-read k [] h = read-nil k
forms-read k (f ∷ fs) h = read-append k (form_bytes f) (bytes_of fs) (events_of f) (events_of_all fs)
    (form-read k f h.0)
    (forms-read k fs h.1)

pub list-read : EachListIsRead
list-read k past fs g h =
    let r = forms-read k fs h in
    (ground-added k past (bytes_of fs) g ∙ r.0, ground-joins k past (bytes_of fs) g r.1)
