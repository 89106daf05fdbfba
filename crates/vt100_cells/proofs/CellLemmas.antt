-- Every cell that an edit makes is one that a cell can be.
use Rattle.std.proofs.Common.{◌≡◌, ℕ, zero, suc, ◌<◌, ◌≤◌, ◌==◌, inl, inr, ⊎_elim, Bool, true, false, ◌||◌, List, []}
use Rattle.std.proofs.Common.{◌∷◌, ◌++◌, length, Some, nat_lt, sym, refl, ap, subst, ◌∙◌, arith, rules, length-append}
use Rattle.std.specs.Prelude.{All, Contains}
use Rattle.std.specs.Char.{IsScalar}
use Rattle.std.proofs.lemmas.Bool.{cases_lt, false≢true, eqb-true, and_parts, cond_both}
use Rattle.std.proofs.Math.Seq.{take-append_seam}
use Rattle.std.proofs.lemmas.List.{take-append-le}
use Rattle.std.proofs.lemmas.List.Elements.{All-append, Contains-append_left, Contains-append_right}
use Rattle.std.proofs.lemmas.Str.{encode_ascii}
use Rattle.unicode_width.specs.Width.{str_width}
use Rattle.vt100_forms.specs.declared.attrs.Attrs.{Attrs}
use Rattle.vt100_cells.proofs.WidthLemmas.{space_is_narrow, space_is_drawn, drawn-is, printable-is, wide_space_is_drawn}
use Rattle.vt100_cells.specs.Cell.{CellView, IsCell, IsCellText, IsShort, IsWideAs, columns_of, is_undrawable}
use Rattle.vt100_cells.specs.Cell.{drawn_columns, has_room, empty_cell, continuation_cell, cell_of, text_with}
use Rattle.printable.specs.Printable.{IsPrintable}
use Rattle.vt100_cells.specs.Cell.{is_widened_by, appended, appended_in_place, IsWide}

-- ---- each kind of cell

pub IsCell-empty : (a : Attrs) → IsCell (empty_cell a)
IsCell-empty a = record {
  characters = tt;
  short = λ i p l. absurd (omega arith);
  scalars = λ k d l. absurd (omega arith);
  wide = refl;
  blank = λ _. refl;
}

pub IsCell-continuation : IsCell continuation_cell
IsCell-continuation = record {
  characters = tt;
  short = λ i p l. absurd (omega arith);
  scalars = λ k d l. absurd (omega arith);
  wide = refl;
  blank = λ _. refl;
}

one-scalar : (c : ℕ) → IsScalar c → All IsScalar (c ∷ [])
one-scalar c s zero d l = s
one-scalar c s (suc k) d l = absurd (omega arith)

one-zero : (c : ℕ) → columns_of c ≡ 0 → All (λ d. columns_of d ≡ 0) (c ∷ [])
one-zero c s zero d l = s
one-zero c s (suc k) d l = absurd (omega arith)

pub or-true : (b : Bool) → (b || true) ≡ true
or-true true = refl
or-true false = refl

pub or-false : (b : Bool) → (b || false) ≡ b
or-false true = refl
or-false false = refl

pub IsCell-of : (c : ℕ) (a : Attrs) → IsScalar c → is_undrawable c ≡ false → 0 < columns_of c → IsCell (cell_of c a)
IsCell-of c a s u w = record {
  characters = (u, w, λ k d l. absurd (omega arith));
  short = λ i p l. absurd (omega arith);
  scalars = one-scalar c s;
  wide = inl refl;
  blank = λ e. absurd (false≢true e);
}

pub IsCell-space : (a : Attrs) → IsCell (cell_of 32 a)
IsCell-space a = let d = drawn-is 32 1 space_is_drawn in IsCell-of 32 a refl d.0 (omega arith)

pub IsCell-with_attrs : (x : CellView) (a : Attrs) → IsCell x → IsCell (record x { attrs = a })
IsCell-with_attrs x a h = record {
  characters = h.characters;
  short = h.short;
  scalars = h.scalars;
  wide = h.wide;
  blank = h.blank;
}

-- ---- a zero-width character joins a cell

text-with : (cs : List ℕ) (c : ℕ) → IsCellText cs → columns_of c ≡ 0 → IsCellText (text_with cs c)
text-with [] c h z =
    let d = drawn-is 32 1 space_is_drawn in
    (d.0, (let one = d.1 in omega arith), λ k x l. one-zero c z k x l)
text-with (y ∷ ys) c h z = (h.0, h.1, All-append (λ d. columns_of d ≡ 0) ys (c ∷ []) h.2 (one-zero c z))

scalars-with : (cs : List ℕ) (c : ℕ) → All IsScalar cs → IsScalar c → All IsScalar (text_with cs c)
scalars-with [] c h s = All-append IsScalar (32 ∷ []) (c ∷ []) (one-scalar 32 refl) (one-scalar c s)
scalars-with (y ∷ ys) c h s = All-append IsScalar (y ∷ ys) (c ∷ []) h (one-scalar c s)

space_has_room : has_room (32 ∷ []) ≡ true
space_has_room = ap (λ bs. nat_lt (length (bs ++ [])) 18) (encode_ascii 32 (omega arith))

-- a text with room stays short with one more character
short-snoc : (xs : List ℕ) (c : ℕ) → IsShort xs → has_room xs ≡ true → IsShort (xs ++ c ∷ [])
short-snoc xs c h r i p l =
    let n = length-append xs (c ∷ []) in
    ⊎_elim
    (λ (q : i < length xs). rw (take-append-le i xs (c ∷ []) (omega arith)) (h i p q))
    (λ (q : length xs ≤ i). let e : i ≡ length xs = omega arith in rw (e, take-append_seam xs (c ∷ [])) r)
    (cases_lt i (length xs))

short-with : (cs : List ℕ) (c : ℕ) → IsShort cs → has_room cs ≡ true → IsShort (text_with cs c)
short-with [] c h r = short-snoc (32 ∷ []) c (λ i p l. absurd (omega arith)) space_has_room
short-with (y ∷ ys) c h r = short-snoc (y ∷ ys) c h r

holds-last : (c : ℕ) → c ≡ 0xFE0F → Contains (c ∷ []) 0xFE0F
holds-last c e = (0, omega arith, e)

-- b: whether c widens the text
wide-snoc : (y : ℕ) (ys : List ℕ) (c : ℕ) (w b : Bool) → IsWideAs (y ∷ ys) w → (b ≡ true → c ≡ 0xFE0F)
    → IsWideAs (y ∷ (ys ++ c ∷ [])) (w || b)
wide-snoc y ys c w true h e = inr (Contains-append_right ys (c ∷ []) 0xFE0F (holds-last c (e refl)), or-true w)
wide-snoc y ys c w false h e =
    ⊎_elim (λ (q : w ≡ (columns_of y == 2)). inl (or-false w ∙ q))
    (λ q. inr (Contains-append_left ys (c ∷ []) 0xFE0F q.0, or-false w ∙ q.1)) h

wide-with : (cs : List ℕ) (c : ℕ) (w b : Bool) → IsWideAs cs w → (b ≡ true → c ≡ 0xFE0F)
    → IsWideAs (text_with cs c) (w || b)
wide-with [] c w b h e =
    let narrow : (columns_of 32 == 2) ≡ false = ap (λ n. n == 2) space_is_narrow in
    wide-snoc 32 [] c w b (inl (h ∙ sym narrow)) e
wide-with (y ∷ ys) c w b h e = wide-snoc y ys c w b h e

pub widened_by-is : (cs : List ℕ) (c : ℕ) → is_widened_by cs c ≡ true → c ≡ 0xFE0F
widened_by-is cs c h = eqb-true c 0xFE0F (and_parts (c == 0xFE0F) (nat_lt 1 (str_width false (text_with cs c))) h).0

-- the cell that has taken the character, as wide as w says
IsCell-taken : (x : CellView) (c : ℕ) (w : Bool) → IsCell x → IsScalar c → drawn_columns c ≡ Some 0
    → x.continuation ≡ false → has_room x.text ≡ true → IsWideAs (text_with x.text c) w
    → IsCell (record { text = text_with x.text c; wide = w; continuation = x.continuation; attrs = x.attrs })
IsCell-taken x c w h s z n r wide = record {
  characters = text-with x.text c h.characters (drawn-is c 0 z).1;
  short = short-with x.text c h.short r;
  scalars = scalars-with x.text c h.scalars s;
  wide = wide;
  blank = λ e. absurd (false≢true (sym n ∙ e));
}

pub IsCell-with : (x : CellView) (c : ℕ) → IsCell x → IsScalar c → drawn_columns c ≡ Some 0 → x.continuation ≡ false
    → has_room x.text ≡ true
    → IsCell (record {
      text = text_with x.text c;
      wide = x.wide || is_widened_by x.text c;
      continuation = x.continuation;
      attrs = x.attrs;
    })
IsCell-with x c h s z n r = IsCell-taken x c (x.wide || is_widened_by x.text c) h s z n r
    (wide-with x.text c x.wide (is_widened_by x.text c) h.wide (widened_by-is x.text c))

pub IsCell-appended : (x : CellView) (c : ℕ) → IsCell x → IsScalar c → drawn_columns c ≡ Some 0
    → x.continuation ≡ false → IsCell (appended x c)
IsCell-appended x c h s z n = cond_both (has_room x.text) _ x IsCell (λ r. IsCell-with x c h s z n r) (λ _. h)

-- the same where U+FE0F widens nothing
pub IsCell-with_plain : (x : CellView) (c : ℕ) → IsCell x → IsScalar c → drawn_columns c ≡ Some 0
    → x.continuation ≡ false → has_room x.text ≡ true
    → IsCell (record {
      text = text_with x.text c;
      wide = x.wide;
      continuation = x.continuation;
      attrs = x.attrs;
    })
IsCell-with_plain x c h s z n r = IsCell-taken x c x.wide h s z n r
    (subst (IsWideAs (text_with x.text c)) (or-false x.wide)
    (wide-with x.text c x.wide false h.wide (λ e. absurd (false≢true e))))

pub IsCell-plain : (x : CellView) (c : ℕ) → IsCell x → IsScalar c → drawn_columns c ≡ Some 0
    → x.continuation ≡ false → IsCell (appended_in_place x c)
IsCell-plain x c h s z n = cond_both (has_room x.text) _ x IsCell (λ r. IsCell-with_plain x c h s z n r) (λ _. h)

-- the same for the fields that the code has made
pub IsCell-made : (x : CellView) (c : ℕ) (t : List ℕ) (w q : Bool) → IsCell x → IsScalar c → drawn_columns c ≡ Some 0
    → x.continuation ≡ false → has_room x.text ≡ true
    → t ≡ text_with x.text c → w ≡ (x.wide || is_widened_by x.text c) → q ≡ x.continuation
    → IsCell (record { text = t; wide = w; continuation = q; attrs = x.attrs })
IsCell-made x c t w q h s z n r et ew eq = rw (et, ew, eq) (IsCell-with x c h s z n r)

pub IsCell-made_plain : (x : CellView) (c : ℕ) (t : List ℕ) → IsCell x → IsScalar c → drawn_columns c ≡ Some 0
    → x.continuation ≡ false → has_room x.text ≡ true → t ≡ text_with x.text c
    → IsCell (record { text = t; wide = x.wide; continuation = x.continuation; attrs = x.attrs })
IsCell-made_plain x c t h s z n r e = rw e (IsCell-with_plain x c h s z n r)

-- ---- printable ASCII characters

pub narrow-printable : (c : ℕ) (a : Attrs) → IsPrintable c → (cell_of c a).wide ≡ false
narrow-printable c a p = ap (λ n. n == 2) (printable-is c p).1

pub scalar-printable : (c : ℕ) → IsPrintable c → IsScalar c
scalar-printable c p = search rules

pub IsCell-printable : (c : ℕ) (a : Attrs) → IsPrintable c → IsCell (cell_of c a)
IsCell-printable c a p = let d = printable-is c p in IsCell-of c a (scalar-printable c p) d.0 (omega (arith, d.1))

pub IsCell-wide : (c : ℕ) (a : Attrs) → IsScalar c → IsWide c → IsCell (cell_of c a)
IsCell-wide c a s p = let d = drawn-is c 2 p in IsCell-of c a s d.0 (omega (arith, d.1))

-- the cell of d with another character, as wide as d
pub replaced-like : (x : CellView) (t : List ℕ) (c d : ℕ) (a : Attrs) → x ≡ cell_of d a → columns_of d ≡ columns_of c
    → t ≡ c ∷ []
    → record { text = t; wide = x.wide; continuation = x.continuation; attrs = x.attrs } ≡ cell_of c a
replaced-like x t c d a e same et =
    let w = ap (λ (y : CellView). y.wide) e ∙ ap (λ n. n == 2) same in
    let q = ap (λ (y : CellView). y.continuation) e in
    let b = ap (λ (y : CellView). y.attrs) e in
    λ i. record { text = et i; wide = w i; continuation = q i; attrs = b i }

-- a space's cell
pub replaced-is : (x : CellView) (t : List ℕ) (c : ℕ) (a : Attrs) → x ≡ cell_of 32 a → IsPrintable c → t ≡ c ∷ []
    → record { text = t; wide = x.wide; continuation = x.continuation; attrs = x.attrs } ≡ cell_of c a
replaced-is x t c a e p et = replaced-like x t c 32 a e (space_is_narrow ∙ sym (printable-is c p).1) et

-- an ideographic space's cell
pub wide_replaced-is : (x : CellView) (t : List ℕ) (c : ℕ) (a : Attrs) → x ≡ cell_of 0x3000 a → IsWide c → t ≡ c ∷ []
    → record { text = t; wide = x.wide; continuation = x.continuation; attrs = x.attrs } ≡ cell_of c a
wide_replaced-is x t c a e p et =
    replaced-like x t c 0x3000 a e ((drawn-is 0x3000 2 wide_space_is_drawn).1 ∙ sym (drawn-is c 2 p).1) et
