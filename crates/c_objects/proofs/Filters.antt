-- What a filter that draws lines gives.
use Rattle.std.proofs.Common.{◌≡◌, ◌∙◌, ap, sym, ℕ, List, []}
use Rattle.charset_filter.specs.Lines.{given_where, piece_of}
use Rattle.charset_filter.specs.declared.lines.LineDrawing.TheVariants.{Drawn}
use Rattle.charset_filter.specs.declared.lines.LineDrawing.{LineDrawing}
use Rattle.charset_filter.specs.declared.lines.PieceFilter.{PieceFilter}
use Rattle.c_objects.specs.Filters.{last_given}

-- it gives the same, whichever piece it is asked of
pub last-given : (f : PieceFilter) (bytes : List ℕ) → f.lines ≡ Drawn → last_given f ≡ piece_of f bytes
last-given f bytes is =
    ap (λ (lines : LineDrawing). given_where lines f.drawn.items []) is
    ∙ sym (ap (λ (lines : LineDrawing). given_where lines f.drawn.items bytes) is)
