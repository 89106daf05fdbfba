-- Characters of one column, each in a cell of its own.
use Rattle.std.proofs.Common.{◌≡◌, ℕ, ◌+◌, ◌<◌, ◌≤◌, ◌/◌, ◌%◌, ◌==◌, List, [], ◌∷◌, ◌++◌, length, set, replicate, false}
use Rattle.std.proofs.Common.{Some, sym, refl, ap, ◌∙◌, arith}
use Rattle.std.specs.Char.{IsScalar, encode_utf8}
use Rattle.std.proofs.lemmas.Bool.Decides.{nat_tests}
use Rattle.std.proofs.lemmas.Str.{encode_ascii}
use Rattle.vt100_forms.specs.declared.attrs.Attrs.{Attrs}
use Rattle.vt100_cells.specs.declared.cell_text.CellText.TheInside.{Inside}
use Rattle.printable.specs.Printable.{IsPrintable}
use Rattle.vt100_cells.specs.Cell.{CellView, IsCell, cell_of, drawn_columns}
use Rattle.vt100_cells.specs.CellFields.{IsText, text_of}
use Rattle.vt100_cells.specs.Narrow.{IsNarrow}
use Rattle.vt100_cells.proofs.CellLemmas.{IsCell-of, replaced-like, scalar-printable}
use Rattle.vt100_cells.proofs.CellTextLemmas.{IsTextOf, IsText-none, text_of-none, known-fields, text-push, text-three}
use Rattle.vt100_cells.proofs.WidthLemmas.{drawn-is, drawn-ascii, space_is_narrow}

pub IsCell-narrow : (c : ℕ) (a : Attrs) → IsScalar c → drawn_columns c ≡ Some 1 → IsCell (cell_of c a)
IsCell-narrow c a s p = let d = drawn-is c 1 p in IsCell-of c a s d.0 (omega (arith, d.1))

pub narrow-cell : (c : ℕ) (a : Attrs) → IsNarrow c → (cell_of c a).wide ≡ false
narrow-cell c a p = ap (λ n. n == 2) (drawn-is c 1 p.1).1

pub narrow-printable_is : (c : ℕ) → IsPrintable c → IsNarrow c
narrow-printable_is c p = (scalar-printable c p, sym (drawn-ascii c p.0 p.1))

-- a space's cell, with another character of one column
pub space_replaced-is : (x : CellView) (t : List ℕ) (c : ℕ) (a : Attrs) → x ≡ cell_of 32 a → drawn_columns c ≡ Some 1
    → t ≡ c ∷ []
    → record { text = t; wide = x.wide; continuation = x.continuation; attrs = x.attrs } ≡ cell_of c a
space_replaced-is x t c a e p et = replaced-like x t c 32 a e (space_is_narrow ∙ sym (drawn-is c 1 p).1) et

-- ---- a space's text, with another character

pub encode-two : (c : ℕ) → 0x80 ≤ c → c < 0x800 → encode_utf8 c ≡ (192 + c / 64) ∷ (128 + c % 64) ∷ []
unfolding encode_utf8
encode-two c l h = grind (arith, nat_tests)

pub text-two : (c : ℕ) → IsScalar c → 0x80 ≤ c → c < 0x800
    → IsTextOf (record { bytes = (192 + c / 64) ∷ (128 + c % 64) ∷ replicate 19 0; len = 2 }) (c ∷ [])
text-two c s l h =
    let e = encode-two c l h in
    text-push (record { bytes = replicate 21 0; len = 0 }) [] 2 2
    ((192 + c / 64) ∷ (128 + c % 64) ∷ []) c IsText-none text_of-none refl (sym e)
    (sym (ap length e)) refl s

space-fields : (t : Inside) → IsText t → text_of t ≡ 32 ∷ [] → t ≡ record { bytes = 32 ∷ replicate 20 0; len = 1 }
space-fields t h e = known-fields t (32 ∷ []) (32 ∷ []) h e (ap (λ bs. bs ++ []) (encode_ascii 32 (omega arith)))

pub space-two : (t : Inside) (c : ℕ) → IsText t → text_of t ≡ 32 ∷ [] → IsScalar c → 0x80 ≤ c → c < 0x800
    → IsTextOf (record { bytes = set (set t.bytes 0 (192 + c / 64)) 1 (128 + c % 64); len = 2 }) (c ∷ [])
space-two t c h e s l u = rw (space-fields t h e) (text-two c s l u)

pub space-three : (t : Inside) (c : ℕ) → IsText t → text_of t ≡ 32 ∷ [] → IsScalar c → 0x800 ≤ c → c < 0x1_0000
    → IsTextOf (record {
      bytes = set (set (set t.bytes 0 (224 + c / 4096)) 1 (128 + c / 64 % 64)) 2 (128 + c % 64);
      len = 3;
    }) (c ∷ [])
space-three t c h e s l u = rw (space-fields t h e) (text-three c s l u)
