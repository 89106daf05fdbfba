-- No list of forms holds a mark of a synchronized update.
use Rattle.std.proofs.Common.{◌≡◌, ℕ, zero, suc, ◌+◌, ◌/◌, ◌%◌, ◌<◌, ◌≤◌, List, [], ◌∷◌, ◌++◌, Bool, true, false, ◌&&◌}
use Rattle.std.proofs.Common.{refl, arith, ap, sym, ◌∙◌, append_assoc, append-nil, length, length-append, not}
use Rattle.std.specs.Prelude.{decimal, encode_utf8_all, ◌==◌, nat_lt, nat_eq, codes}
use Rattle.std.specs.List.{AllByRecursion}
use Rattle.std.proofs.lemmas.List.{append_cancel_left}
use Rattle.std.specs.Fmt.{digits, digits_onto, digit_glyph}
use Rattle.std.proofs.lemmas.Bool.{cond_both, eq-eqb, ltb-false}
use Rattle.std.proofs.lemmas.Bool.Decides.{nat_tests}
use Rattle.vt100_forms.specs.declared.modes.MouseProtocolMode.{MouseProtocolMode}
use Rattle.vt100_forms.specs.declared.modes.MouseProtocolMode.TheVariants as mouse
use Rattle.vt100_forms.specs.declared.modes.MouseProtocolEncoding.{MouseProtocolEncoding}
use Rattle.vt100_forms.specs.declared.modes.MouseProtocolEncoding.TheVariants as encoding
use Rattle.vt100_forms.specs.declared.modes.CursorStyle.{CursorStyle}
use Rattle.vt100_forms.specs.Form.{Form, Text, MoveTo, MoveRight, EraseChar, ClearRowForward, ClearScreen, ClearAttrs}
use Rattle.vt100_forms.specs.Form.{Crlf, Lf, Backspace, SaveCursor, RestoreCursor, HideCursor, Keypad, CursorKeys}
use Rattle.vt100_forms.specs.Form.{Paste, Mouse, Encoding, Style, Sgr, form_bytes, bytes_of, csi, counted, mode_change}
use Rattle.vt100_forms.specs.Form.{mode_set, mode_reset, mouse_number, encoding_number, style_number, sgr_numbers}
use Rattle.vt100_forms.specs.Form.{sgr_text, further_numbers}
use Rattle.vt100_forms.specs.Mark.{mark_head, HasPlainText, MarksStandBehindForms, NoMarkInForms}

-- a mark in p followed by r begins after p
abbrev IsBehind : List ℕ → Type 0
IsBehind p = (r xs ys : List ℕ) → p ++ r ≡ xs ++ (mark_head ++ ys) → (zs : List ℕ) × (xs ≡ p ++ zs)

-- two lists agree as far as the shorter one goes
agrees : List ℕ → List ℕ → Bool
agrees [] ys = true
agrees (x ∷ xs) [] = true
agrees (x ∷ xs) (y ∷ ys) = nat_eq y x && agrees xs ys

-- no mark begins in it, whatever follows
clear : List ℕ → Bool
clear [] = true
clear (b ∷ bs) = not (agrees (b ∷ bs) mark_head) && clear bs

first-of : List ℕ → ℕ
first-of [] = 0
first-of (x ∷ xs) = x

rest-of : List ℕ → List ℕ
rest-of [] = []
rest-of (x ∷ xs) = xs

same-first : (x y : ℕ) (xs ys : List ℕ) → x ∷ xs ≡ y ∷ ys → x ≡ y
unfolding first-of
same-first x y xs ys e = ap first-of e

same-rest : (x y : ℕ) (xs ys : List ℕ) → x ∷ xs ≡ y ∷ ys → xs ≡ ys
unfolding rest-of
same-rest x y xs ys e = ap rest-of e

both-left : (a b : Bool) → (a && b) ≡ true → a ≡ true
both-left true b h = refl
both-left false b h = cc

both-right : (a b : Bool) → (a && b) ≡ true → b ≡ true
both-right true b h = h
both-right false b h = cc

-- equal lists agree
agrees-equal : (p m r s : List ℕ) → p ++ r ≡ m ++ s → agrees p m ≡ true
unfolding agrees
agrees-equal [] m r s e = refl
agrees-equal (x ∷ xs) [] r s e = refl
agrees-equal (x ∷ xs) (y ∷ ys) r s e =
    ap (λ b. b && agrees xs ys) (eq-eqb y x (sym (same-first x y (xs ++ r) (ys ++ s) e)))
    ∙ agrees-equal xs ys r s (same-rest x y (xs ++ r) (ys ++ s) e)

not-both : (b : Bool) → not b ≡ true → b ≡ true → ⊥
not-both true h k = absurd cc
not-both false h k = absurd cc

behind-clear : (p : List ℕ) → clear p ≡ true → IsBehind p
unfolding clear
behind-clear [] h r xs ys e = (xs, refl)
behind-clear (b ∷ bs) h r [] ys e =
    absurd (not-both (agrees (b ∷ bs) mark_head) (both-left _ _ h) (agrees-equal (b ∷ bs) mark_head r ys e))
behind-clear (b ∷ bs) h r (x ∷ xs) ys e =
    let (zs, found) = behind-clear bs (both-right _ _ h) r xs ys (same-rest b x (bs ++ r) (xs ++ (mark_head ++ ys)) e)
    in
    let first : x ≡ b = sym (same-first b x (bs ++ r) (xs ++ (mark_head ++ ys)) e) in
    (zs, λ i. first i ∷ found i)

behind-append : (p q : List ℕ) → IsBehind p → IsBehind q → IsBehind (p ++ q)
behind-append p q h k r xs ys e =
    let (zs, at_p) = h (q ++ r) xs ys (sym (append_assoc p q r) ∙ e) in
    let joined : p ++ (q ++ r) ≡ p ++ (zs ++ (mark_head ++ ys)) =
    sym (append_assoc p q r) ∙ e ∙ ap (λ l. l ++ (mark_head ++ ys)) at_p ∙ append_assoc p zs (mark_head ++ ys) in
    let (ws, at_q) = k r zs ys (append_cancel_left p (q ++ r) (zs ++ (mark_head ++ ys)) joined) in
    (ws, at_p ∙ ap (λ l. p ++ l) at_q ∙ sym (append_assoc p q ws))

-- no byte of it is ESC
abbrev Plain : List ℕ → Type 0
Plain bs = AllByRecursion (λ b. b ≡ 27 → ⊥) bs

not-escape : (b : ℕ) → (b ≡ 27 → ⊥) → nat_eq 27 b ≡ false
not-escape b h = grind (arith, nat_tests)

clear-plain : (ps : List ℕ) → Plain ps → clear ps ≡ true
unfolding clear agrees
clear-plain [] h = refl
clear-plain (p ∷ ps) h = ap (λ t. not (t && agrees ps (codes "[?2026")) && clear ps) (not-escape p h.0)
    ∙ clear-plain ps h.1

-- a number's digits
abbrev Digits : List ℕ → Type 0
Digits [] = Unit {0}
Digits (d ∷ ds) = (48 ≤ d) × (d ≤ 57) × Digits ds

abbrev Numeral : List ℕ → Type 0
Numeral [] = ⊥
Numeral (d ∷ ds) = (48 ≤ d) × (d ≤ 57) × Digits ds

digits-numeral : (ds : List ℕ) → Numeral ds → Digits ds
digits-numeral [] h = tt
digits-numeral (d ∷ ds) h = h

glyph-low : (d : ℕ) → d < 10 → (48 ≤ digit_glyph false d) × (digit_glyph false d ≤ 57)
glyph-low d h =
    let P : ℕ → Type 0 = λ g. (48 ≤ g) × (g ≤ 57) in
    cond_both (nat_lt d 10) (48 + d) (87 + d) P (λ i. (omega arith, omega arith))
    (λ i. absurd (omega (arith, ltb-false d 10 i)))

numeral-onto : (k n : ℕ) (acc : List ℕ) → Numeral acc → Numeral (digits_onto k 10 false n acc)
numeral-onto zero n acc h = h
numeral-onto (suc k) n acc h =
    let g : (48 ≤ digit_glyph false (n % 10)) × (digit_glyph false (n % 10) ≤ 57) = glyph-low (n % 10) (omega arith) in
    let more : Numeral (digit_glyph false (n % 10) ∷ acc) = (g.0, g.1, digits-numeral acc h) in
    cond_both ((n / 10) == 0) _ _ Numeral (λ i. more)
    (λ i. numeral-onto k (n / 10) (digit_glyph false (n % 10) ∷ acc) more)

decimal-numeral : (n : ℕ) → Numeral (decimal n)
unfolding digits
decimal-numeral n =
    let g : (48 ≤ digit_glyph false (n % 10)) × (digit_glyph false (n % 10) ≤ 57) = glyph-low (n % 10) (omega arith) in
    let one : Numeral (digit_glyph false (n % 10) ∷ []) = (g.0, g.1, tt) in
    cond_both ((n / 10) == 0) (digit_glyph false (n % 10)
    ∷ []) (digits_onto 63 10 false (n / 10) (digit_glyph false (n % 10) ∷ [])) Numeral (λ i. one)
    (λ i. numeral-onto 63 (n / 10) (digit_glyph false (n % 10) ∷ []) one)

digits-plain : (ds : List ℕ) → Digits ds → Plain ds
digits-plain [] h = tt
digits-plain (d ∷ ds) h = (λ e. omega (arith, h.0, e), digits-plain ds h.2)

numeral-plain : (ds : List ℕ) → Numeral ds → Plain ds
numeral-plain [] h = elim h [ ]
numeral-plain (d ∷ ds) h = (λ e. omega (arith, h.0, e), digits-plain ds h.2)

decimal-plain : (n : ℕ) → Plain (decimal n)
decimal-plain n = numeral-plain (decimal n) (decimal-numeral n)

plain-append : (xs ys : List ℕ) → Plain xs → Plain ys → Plain (xs ++ ys)
plain-append [] ys h k = k
plain-append (x ∷ xs) ys h k = (h.0, plain-append xs ys h.1 k)

plain_byte : (b : ℕ) → 27 < b → Plain (b ∷ [])
plain_byte b h = (λ e. omega (arith, e), tt)

-- a digit, and so no ?
StartsLow : List ℕ → Type 0
StartsLow [] = ⊥
StartsLow (d ∷ ds) = d ≤ 57

low-append : (ds rest : List ℕ) → Numeral ds → StartsLow (ds ++ rest)
unfolding StartsLow
low-append [] rest h = elim h [ ]
low-append (d ∷ ds) rest h = h.1

not-question : (d : ℕ) → d ≤ 57 → nat_eq 63 d ≡ false
not-question d h = grind (arith, nat_tests)

not-question-high : (d : ℕ) → 63 < d → nat_eq 63 d ≡ false
not-question-high d h = grind (arith, nat_tests)

-- a control sequence that begins with a number isn't a mark
clear-csi : (ds : List ℕ) → StartsLow ds → Plain ds → clear (csi ds) ≡ true
unfolding clear agrees StartsLow
clear-csi [] h k = elim h [ ]
clear-csi (d ∷ ds) h k = ap (λ t. not (t && agrees ds (codes "2026")) && clear (d ∷ ds)) (not-question d h)
    ∙ clear-plain (d ∷ ds) k

clear-numbered : (n : ℕ) (rest : List ℕ) → Plain rest → clear (csi (decimal n ++ rest)) ≡ true
clear-numbered n rest h =
    clear-csi (decimal n ++ rest) (low-append (decimal n) rest (decimal-numeral n))
    (plain-append (decimal n) rest (decimal-plain n) h)

further-plain : (ns : List ℕ) → Plain (further_numbers ns)
further-plain [] = tt
further-plain (n ∷ ns) = (
  λ e. omega (arith, e),
  plain-append (decimal n) (further_numbers ns) (decimal-plain n)
      (further-plain ns),
)

abbrev IsClear : List ℕ → Type 0
IsClear xs = clear xs ≡ true

clear-MoveTo : (r c : ℕ) → clear (form_bytes (MoveTo r c)) ≡ true
unfolding clear agrees
clear-MoveTo r c = cond_both ((r == 0) && (c == 0)) _ _ IsClear (λ i. refl)
    (λ i. clear-numbered (r + 1) (59 ∷ (decimal (c + 1) ++ codes "H")) (
      λ e. omega (arith, e),
      plain-append (decimal (c + 1)) (codes "H") (decimal-plain (c + 1))
          (plain_byte 72 (omega arith)),
    ))

clear-counted : (n b : ℕ) → 63 < b → clear (counted n (b ∷ [])) ≡ true
unfolding clear agrees
clear-counted n b h = cond_both (n == 0) _ _ IsClear (λ i. refl)
    (λ i. cond_both (n == 1) _ _ IsClear
    (λ j. ap (λ u. not (u && true) && clear (b ∷ [])) (not-question-high b h)
    ∙ clear-plain (b ∷ []) (plain_byte b (omega arith)))
    (λ j. clear-numbered n (b ∷ []) (plain_byte b (omega arith))))

clear-sgr_text : (ns : List ℕ) → clear (sgr_text ns) ≡ true
unfolding clear
clear-sgr_text [] = refl
clear-sgr_text (n ∷ ns) = clear-numbered n (further_numbers ns
    ++ codes "m") (plain-append (further_numbers ns) (codes "m") (further-plain ns) (plain_byte 109 (omega arith)))

-- a private mode that is set and reset with no mark
abbrev IsClearMode : ℕ → Type 0
IsClearMode n = (clear (mode_set n) ≡ true) × (clear (mode_reset n) ≡ true)

clear-mouse : (m : MouseProtocolMode) → IsClearMode (mouse_number m)
unfolding clear agrees digits
clear-mouse mouse.None = (refl, refl)
clear-mouse mouse.Press = (refl, refl)
clear-mouse mouse.PressRelease = (refl, refl)
clear-mouse mouse.ButtonMotion = (refl, refl)
clear-mouse mouse.AnyMotion = (refl, refl)

clear-encoding : (e : MouseProtocolEncoding) → IsClearMode (encoding_number e)
unfolding clear agrees digits
clear-encoding encoding.Default = (refl, refl)
clear-encoding encoding.Utf8 = (refl, refl)
clear-encoding encoding.Sgr = (refl, refl)

clear-mode_change : (to from : ℕ) → IsClearMode to → IsClearMode from → clear (mode_change to from) ≡ true
unfolding clear
clear-mode_change to from h k = cond_both (to == from) _ _ IsClear (λ i. refl)
    (λ i. cond_both (to == 0) _ _ IsClear (λ j. k.1) (λ j. h.0))

clear-Style : (to from : CursorStyle) → clear (form_bytes (Style to from)) ≡ true
unfolding clear
clear-Style to from = cond_both (style_number to == style_number from) _ _ IsClear (λ i. refl)
    (λ i. clear-numbered (style_number to) (codes " q") (λ e. omega (arith, e), plain_byte 113 (omega arith)))

clear-form_bytes : (f : Form) → HasPlainText f → clear (form_bytes f) ≡ true
unfolding clear agrees
clear-form_bytes (Text cs) h = clear-plain (encode_utf8_all cs) h
clear-form_bytes (MoveTo r c) h = clear-MoveTo r c
clear-form_bytes (MoveRight n) h = clear-counted n 67 (omega arith)
clear-form_bytes (EraseChar n) h = clear-counted n 88 (omega arith)
clear-form_bytes ClearRowForward h = refl
clear-form_bytes ClearScreen h = refl
clear-form_bytes ClearAttrs h = refl
clear-form_bytes Crlf h = refl
clear-form_bytes Lf h = refl
clear-form_bytes Backspace h = refl
clear-form_bytes SaveCursor h = refl
clear-form_bytes RestoreCursor h = refl
clear-form_bytes (HideCursor true) h = refl
clear-form_bytes (HideCursor false) h = refl
clear-form_bytes (Keypad true) h = refl
clear-form_bytes (Keypad false) h = refl
clear-form_bytes (CursorKeys true) h = refl
clear-form_bytes (CursorKeys false) h = refl
clear-form_bytes (Paste true) h = refl
clear-form_bytes (Paste false) h = refl
clear-form_bytes (Mouse to from) h = clear-mode_change _ _ (clear-mouse to) (clear-mouse from)
clear-form_bytes (Encoding to from) h = clear-mode_change _ _ (clear-encoding to) (clear-encoding from)
clear-form_bytes (Style to from) h = clear-Style to from
clear-form_bytes (Sgr c) h = clear-sgr_text (sgr_numbers c)

behind-nil : IsBehind []
behind-nil r xs ys e = (xs, refl)

pub marks_behind : MarksStandBehindForms
marks_behind [] h = behind-nil
marks_behind (f ∷ fs) h = behind-append (form_bytes f) (bytes_of fs) (behind-clear (form_bytes f)
    (clear-form_bytes f h.0))
    (marks_behind fs h.1)

pub no_mark : NoMarkInForms
no_mark fs h xs ys e =
    let (zs, found) = marks_behind fs h [] xs ys (append-nil (bytes_of fs) ∙ e) in
    let joined : length (bytes_of fs) ≡ length xs + (length mark_head + length ys) =
    ap length e ∙ length-append xs (mark_head ++ ys) ∙ ap (λ n. length xs + n) (length-append mark_head ys) in
    let long : length xs ≡ length (bytes_of fs) + length zs = ap length found ∙ length-append (bytes_of fs) zs in
    omega (arith, joined, long)
