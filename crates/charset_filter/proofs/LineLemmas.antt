-- Pieces that pass one after another.
use Rattle.std.proofs.Common.{◌≡◌, ◌∙◌, ℕ, List, [], ◌∷◌, ◌++◌, refl, sym, ap, append_assoc, append-nil}
use Rattle.std.specs.List.{concat}
use Rattle.charset_filter.specs.Given.{given_after}
use Rattle.charset_filter.proofs.LawLemmas.{given-past}
use Rattle.charset_filter.specs.declared.lines.LineDrawing.{LineDrawing}
use Rattle.charset_filter.specs.declared.lines.LineDrawing.TheVariants.{Kept, Drawn}
use Rattle.charset_filter.specs.Lines.{passed, drawn_after, all_passed}

drawn-push : (past : List ℕ) (pieces : List (List ℕ)) (piece : List ℕ) → drawn_after past (pieces ++ piece ∷ [])
    ≡ drawn_after past pieces ++ given_after (past ++ concat pieces) piece ∷ []
drawn-push past [] piece = ap (λ (xs : List ℕ). given_after xs piece ∷ []) (sym (append-nil past))
drawn-push past (p ∷ ps) piece =
    ap (λ (qs : List (List ℕ)). given_after past p ∷ qs) (drawn-push (past ++ p) ps piece
    ∙ ap (λ (xs : List ℕ). drawn_after (past ++ p) ps ++ given_after xs piece ∷ []) (append_assoc past p (concat ps)))

concat-drawn : (past : List ℕ) (pieces : List (List ℕ)) → concat (drawn_after past pieces)
    ≡ given_after past (concat pieces)
concat-drawn past [] = refl
concat-drawn past (p ∷ ps) =
    ap (λ (xs : List ℕ). given_after past p ++ xs) (concat-drawn (past ++ p) ps) ∙ sym (given-past past p (concat ps))

-- what holds if nothing was read holds if nothing has passed
pub none-passed : (lines : LineDrawing) (P : List (List ℕ) → Type 0) → P [] → P (all_passed lines [])
none-passed Kept P p = p
none-passed Drawn P p = p

-- one piece more
pub passed-push : (lines : LineDrawing) (pieces : List (List ℕ)) (piece : List ℕ)
    → all_passed lines (pieces ++ piece ∷ []) ≡ all_passed lines pieces ++ passed lines (concat pieces) piece ∷ []
passed-push Kept pieces piece = refl
passed-push Drawn pieces piece = drawn-push [] pieces piece

-- the pieces join to what the whole gives
pub concat-passed : (lines : LineDrawing) (pieces : List (List ℕ))
    → concat (all_passed lines pieces) ≡ passed lines [] (concat pieces)
concat-passed Kept pieces = refl
concat-passed Drawn pieces = concat-drawn [] pieces

-- and the bytes after them give the rest
pub passed-cut : (lines : LineDrawing) (pieces : List (List ℕ)) (rest : List ℕ)
    → passed lines [] (concat pieces ++ rest) ≡ concat (all_passed lines pieces) ++ passed lines (concat pieces) rest
passed-cut Kept pieces rest = refl
passed-cut Drawn pieces rest =
    given-past [] (concat pieces) rest
    ∙ ap (λ (xs : List ℕ). xs ++ given_after (concat pieces) rest) (sym (concat-drawn [] pieces))
