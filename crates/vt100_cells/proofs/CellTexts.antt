-- The text of a cell, character by character.
use Rattle.std.proofs.Common.{◌≡◌, ℕ, suc, ◌+◌, ◌≤◌, ◌==◌, Bool, true, false, List, [], ◌∷◌, ◌++◌, length, take, drop}
use Rattle.std.proofs.Common.{sym, refl, ap, subst, ◌∙◌, arith, length-append, append_assoc, append-nil, ⊎_elim}
use Rattle.std.proofs.Common.{take-append-drop, length-drop}
use Rattle.std.specs.Prelude.{Contains, encode_utf8_all, encode_utf8}
use Rattle.std.proofs.Math.Seq.{take-append_seam}
use Rattle.std.proofs.lemmas.Bool.{ltb-true}
use Rattle.std.proofs.lemmas.Str.{encodes-append, length-encode, len_utf8_bounds}
use Rattle.vt100_forms.specs.declared.attrs.Attrs.{Attrs}
use Rattle.vt100_cells.specs.Cell.{CellView, IsCell, IsShort, IsWideAs, columns_of, has_room, appended_in_place}
use Rattle.vt100_cells.specs.Cell.{all_appended, EachCellIsItsCharacters, EachTextIsShort}

-- a character put on a text with room
put_on : (y : ℕ) (ys : List ℕ) (w q : Bool) (a : Attrs) (d : ℕ) → has_room (y ∷ ys) ≡ true
    → appended_in_place (record { text = y ∷ ys; wide = w; continuation = q; attrs = a }) d
    ≡ record { text = y ∷ (ys ++ d ∷ []); wide = w; continuation = q; attrs = a }
put_on y ys w q a d h = rw h refl

-- the characters ds are put on the text y ∷ ys
all-put_on : (y : ℕ) (ys ds : List ℕ) (w q : Bool) (a : Attrs) → IsShort (y ∷ (ys ++ ds))
    → all_appended (record { text = y ∷ ys; wide = w; continuation = q; attrs = a }) ds
    ≡ record { text = y ∷ (ys ++ ds); wide = w; continuation = q; attrs = a }
all-put_on y ys [] w q a h = λ i. record { text = y ∷ sym (append-nil ys) i; wide = w; continuation = q; attrs = a }
all-put_on y ys (d ∷ ds) w q a h =
    let n = length-append ys (d ∷ ds) in
    let prefix : take (suc (length ys)) (y ∷ (ys ++ d ∷ ds)) ≡ y ∷ ys = ap (λ zs. y ∷ zs) (take-append_seam ys (d ∷ ds))
    in
    let room : has_room (y ∷ ys) ≡ true = ap has_room (sym prefix) ∙ h (suc (length ys)) (omega arith) (omega arith) in
    let same : ys ++ d ∷ [] ++ ds ≡ ys ++ d ∷ ds = append_assoc ys (d ∷ []) ds in
    ap (λ x. all_appended x ds) (put_on y ys w q a d room)
    ∙ all-put_on y (ys ++ d ∷ []) ds w q a (rw same h)
    ∙ (λ i. record { text = y ∷ same i; wide = w; continuation = q; attrs = a })

wide-is : (c : ℕ) (cs : List ℕ) (w : Bool) → IsWideAs (c ∷ cs) w → (Contains cs 0xFE0F → ⊥) → w ≡ (columns_of c == 2)
wide-is c cs w h n = ⊎_elim (λ e. e) (λ q. absurd (n q.0)) h

whole-is : (x : CellView) (c : ℕ) (cs : List ℕ) → IsCell x → x.text ≡ c ∷ cs → x.continuation ≡ false
whole-is x c cs h e = (elim x.continuation as (λ b. x.continuation ≡ b → b ≡ false) [
  | true ↦ λ q. let none = ap length (sym e ∙ h.blank q) in absurd (omega (arith, none))
  | false ↦ λ q. refl
]) refl

pub cell-is_characters : EachCellIsItsCharacters
cell-is_characters x c cs h e n =
    let wide = wide-is c cs x.wide (subst (λ (ts : List ℕ). IsWideAs ts x.wide) e h.wide) n in
    let whole = whole-is x c cs h e in
    all-put_on c [] cs (columns_of c == 2) false x.attrs (subst IsShort e h.short)
    ∙ (λ i. record { text = sym e i; wide = sym wide i; continuation = sym whole i; attrs = x.attrs })

one_char : (cs : List ℕ) → length cs ≡ 1 → length (encode_utf8_all cs) ≤ 4
one_char [] e = absurd (omega (arith, e))
one_char (c ∷ []) e = omega (arith, length-append (encode_utf8 c) [], length-encode c, (len_utf8_bounds c).1)
one_char (c ∷ d ∷ ds) e = absurd (omega (arith, e))

-- the last of n + 2 characters was put on a text with room
last-is_short : (n : ℕ) (cs : List ℕ) → length cs ≡ n + 2 → IsShort cs → length (encode_utf8_all cs) ≤ 21
last-is_short n cs e h =
    let prefix = ltb-true (length (encode_utf8_all (take (n + 1) cs))) 18 (h (n + 1) (omega arith) (omega arith)) in
    let last = one_char (drop (n + 1) cs) (omega (arith, length-drop (n + 1) cs)) in
    let whole : length (encode_utf8_all cs) ≡ length (encode_utf8_all (take (n + 1) cs))
    + length (encode_utf8_all (drop (n + 1) cs)) =
    ap (λ zs. length (encode_utf8_all zs)) (sym (take-append-drop (n + 1) cs))
    ∙ ap length (encodes-append (take (n + 1) cs) (drop (n + 1) cs))
    ∙ length-append (encode_utf8_all (take (n + 1) cs)) (encode_utf8_all (drop (n + 1) cs)) in
    omega arith

-- an empty text, one character, or one put on a text with room
text-is_short : (cs : List ℕ) → IsShort cs → length (encode_utf8_all cs) ≤ 21
text-is_short [] h = omega arith
text-is_short (c ∷ []) h = let one = one_char (c ∷ []) refl in omega arith
text-is_short (c ∷ d ∷ ds) h = last-is_short (length ds) (c ∷ d ∷ ds) (omega arith) h

pub text-short : EachTextIsShort
text-short x h = text-is_short x.text h.short
