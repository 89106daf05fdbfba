-- The fields of a cell and of its text, and what a contract sees of them.
use Rattle.std.specs.Prelude.{ℕ, ◌-◌, ◌≡◌, ◌≤◌, Bool, true, false, List, ◌++◌, length, take, drop, replicate, chars}
use Rattle.std.specs.Prelude.{encode_utf8_all, IsUtf8, refl, ◌==◌, ◌&&◌, nat_lt}
use Rattle.std.proofs.Common.{arith, take-append-drop, length-take-le, sym, ap, ◌∙◌}
use Rattle.std.proofs.lemmas.Str.{IsUtf8-had, encodes-chars}
use Rattle.vt100_cells.specs.declared.cell_text.CellText.TheInside.{Inside as TextInside}
use Rattle.vt100_forms.specs.Attrs.{attrs_eq}
use Rattle.vt100_cells.specs.Cell.{CellView, IsCell, text_eq, bool_eq}
use Rattle.vt100_cells.specs.declared.cell.Cell.TheInside.{Inside as CellInside}
use Rattle.vt100_cells.specs.declared.cell.Span.{Span}
use Rattle.vt100_cells.specs.declared.cell.Span.TheVariants.{Narrow, Wide, Continuation}

-- ---- the text

abbrev pub text_of : TextInside → List ℕ
text_of t = chars (take t.len t.bytes)

-- the bytes past the text are 0
pub record IsText (t : TextInside) : Type 0 where
  pub fits : t.len ≤ 21
  pub whole : length t.bytes ≡ 21
  pub utf8 : ∥ IsUtf8 (take t.len t.bytes) ∥₁
  pub zeros : drop t.len t.bytes ≡ replicate (21 - t.len) 0

abbrev pub fields_of : List ℕ → TextInside
fields_of cs =
    let bs = encode_utf8_all cs in
    record { bytes = bs ++ replicate (21 - length bs) 0; len = length bs }

-- the text's bytes are those that are in use
pub encode_utf8_all-text_of : (t : TextInside) → IsText t → encode_utf8_all (text_of t) ≡ take t.len t.bytes
encode_utf8_all-text_of t h = encodes-chars (take t.len t.bytes) (IsUtf8-had (take t.len t.bytes) h.utf8)

pub length-text_of : (t : TextInside) → IsText t → length (encode_utf8_all (text_of t)) ≡ t.len
length-text_of t h =
    ap length (encode_utf8_all-text_of t h) ∙ length-take-le t.len t.bytes (omega (arith, h.fits, h.whole))

pub fields_of-text_of : (t : TextInside) → IsText t → fields_of (text_of t) ≡ t
fields_of-text_of t h =
    let n : length (encode_utf8_all (text_of t)) ≡ t.len = length-text_of t h in
    let e : encode_utf8_all (text_of t) ≡ take t.len t.bytes = encode_utf8_all-text_of t h in
    let whole : take t.len t.bytes ++ replicate (21 - t.len) 0 ≡ t.bytes =
    ap (λ x. take t.len t.bytes ++ x) (sym h.zeros) ∙ take-append-drop t.len t.bytes in
    let both : encode_utf8_all (text_of t) ++ replicate (21 - length (encode_utf8_all (text_of t))) 0 ≡ t.bytes =
    rw (n, e) whole in
    λ i. record { bytes = both i; len = n i }

-- ---- how texts are compared

-- the bytes of the field
abbrev pub padded : List ℕ → List ℕ
padded cs = (fields_of cs).bytes

-- as many bytes, and the same first five
abbrev pub start_eq : List ℕ → List ℕ → Bool
start_eq x y = (length (encode_utf8_all x) == length (encode_utf8_all y))
    && text_eq (take 5 (padded x)) (take 5 (padded y))

-- the first five bytes are all
abbrev pub fits_start : List ℕ → Bool
fits_start x = nat_lt (length (encode_utf8_all x)) 6

-- ---- the columns

abbrev pub is_wide_span : Span → Bool
is_wide_span Narrow = false
is_wide_span Wide = true
is_wide_span Continuation = false

abbrev pub is_continuation_span : Span → Bool
is_continuation_span Narrow = false
is_continuation_span Wide = false
is_continuation_span Continuation = true

abbrev pub span_from : Bool → Bool → Span
span_from true continuation = Wide
span_from false true = Continuation
span_from false false = Narrow

pub span_from-span : (s : Span) → span_from (is_wide_span s) (is_continuation_span s) ≡ s
span_from-span Narrow = refl
span_from-span Wide = refl
span_from-span Continuation = refl

-- ---- the cell

abbrev pub view_of : CellInside → CellView
view_of c = record {
  text = c.text;
  wide = is_wide_span c.span;
  continuation = is_continuation_span c.span;
  attrs = record { fgcolor = c.fgcolor; bgcolor = c.bgcolor; mode = c.mode };
}

abbrev pub inside_of : CellView → CellInside
inside_of x = record {
  text = x.text;
  span = span_from x.wide x.continuation;
  fgcolor = x.attrs.fgcolor;
  bgcolor = x.attrs.bgcolor;
  mode = x.attrs.mode;
}

pub inside_of-view_of : (c : CellInside) → IsCell (view_of c) → inside_of (view_of c) ≡ c
inside_of-view_of c h = λ i. record {
  text = c.text;
  span = span_from-span c.span i;
  fgcolor = c.fgcolor;
  bgcolor = c.bgcolor;
  mode = c.mode;
}

-- all but the rest of the text
abbrev pub cell_start_eq : CellView → CellView → Bool
cell_start_eq x y = (attrs_eq x.attrs y.attrs && (bool_eq x.wide y.wide && bool_eq x.continuation y.continuation))
    && start_eq x.text y.text
