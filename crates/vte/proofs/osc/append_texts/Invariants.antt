use Rattle.std.proofs.Common.{◌≡◌, ◌≤◌, ◌∷◌, ◌++◌, filter, length}
use Rattle.std.specs.List.{flat_map}
use Rattle.std.specs.Str.{is_utf8}
use Rattle.vte.proofs.osc.append_texts.Given as goal

-- the text so far, with the remaining pieces, is the final text
abbrev pub invariant-loop-piece : goal.invariant-loop-piece
invariant-loop-piece l =
    length (l.initial.text.bytes ++ flat_map (λ p. 59 ∷ p) (filter is_utf8 l.initial.pieces)) ≤ 1040
    → l.text.bytes ++ flat_map (λ p. 59 ∷ p) (filter is_utf8 l.pieces)
    ≡ l.initial.text.bytes ++ flat_map (λ p. 59 ∷ p) (filter is_utf8 l.initial.pieces)
