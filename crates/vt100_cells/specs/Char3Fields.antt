-- The fields of a character of at most three bytes, and what a contract sees of them.
use Rattle.std.specs.Prelude.{ℕ, ◌≡◌, ◌≤◌, ◌<◌, List, [], ◌∷◌, ◌++◌, length, take, replicate, slice_index}
use Rattle.std.specs.Prelude.{chars}
use Rattle.std.proofs.Common.{sym, ap, ◌∙◌}
use Rattle.std.proofs.lemmas.List.{take_at}
use Rattle.std.specs.Char.{IsScalar}
use Rattle.printable.specs.Printable.{IsPrintable}
use Rattle.vt100_cells.specs.declared.cell_text.CellText.TheInside.{Inside as TextInside}
use Rattle.vt100_cells.specs.declared.char3.Char3.TheInside.{Inside}
use Rattle.vt100_cells.specs.CellFields.{IsText, text_of, fields_of, fields_of-text_of}

-- a cell's text that begins with these fields, and has nothing else
abbrev pub as_text : Inside → TextInside
as_text s = record { bytes = s.bytes ++ replicate 18 0; len = s.len }

abbrev pub char_of : Inside → ℕ
char_of s = slice_index (text_of (as_text s)) 0

-- the bytes are those of one character, and zeros
pub record IsChar3 (s : Inside) : Type 0 where
  pub fits : s.len ≤ 3
  pub whole : length s.bytes ≡ 3
  pub text : IsText (as_text s)
  pub one : text_of (as_text s) ≡ char_of s ∷ []
  pub scalar : IsScalar (char_of s)

abbrev pub char3_of : ℕ → Inside
char3_of c = let t = fields_of (c ∷ []) in record { bytes = take 3 t.bytes; len = t.len }

pub char3_of-char_of : (s : Inside) → IsChar3 s → char3_of (char_of s) ≡ s
char3_of-char_of s h =
    let same : fields_of (char_of s ∷ []) ≡ as_text s = ap fields_of (sym h.one) ∙ fields_of-text_of (as_text s)
    h.text in
    let front : take 3 (s.bytes ++ replicate 18 0) ≡ s.bytes = take_at s.bytes (replicate 18 0) 3 h.whole in
    λ i. record { bytes = (ap (λ (t : TextInside). take 3 t.bytes) same ∙ front) i; len = (same i).len }

-- ---- the first character of a text

abbrev pub first_char : List ℕ → ℕ
first_char bs = slice_index (chars bs) 0

-- a text begins with a printable character of ASCII, with one of two bytes, or with one of three
abbrev pub BeginsPrintable : List ℕ → Type 0
BeginsPrintable bs = (1 ≤ length bs) × IsPrintable (slice_index bs 0)

abbrev pub BeginsTwoBytes : List ℕ → Type 0
BeginsTwoBytes bs = (2 ≤ length bs) × (192 ≤ slice_index bs 0) × (slice_index bs 0 < 224)

abbrev pub BeginsThreeBytes : List ℕ → Type 0
BeginsThreeBytes bs = (3 ≤ length bs) × (224 ≤ slice_index bs 0) × (slice_index bs 0 < 240)
