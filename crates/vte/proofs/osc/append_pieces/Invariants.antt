use Rattle.std.proofs.Common.{◌≡◌, ◌≤◌, ◌∷◌, ◌++◌, length}
use Rattle.std.specs.List.{flat_map}
use Rattle.vte.specs.Osc.{text_or_empty}
use Rattle.vte.proofs.osc.append_pieces.Given as goal

-- the text so far, with the remaining pieces, is the final text
abbrev pub invariant-loop-piece : goal.invariant-loop-piece
invariant-loop-piece l =
    length (l.initial.text.bytes ++ flat_map (λ p. 59 ∷ text_or_empty p) l.initial.pieces) ≤ 1040
    → l.text.bytes ++ flat_map (λ p. 59 ∷ text_or_empty p) l.pieces
    ≡ l.initial.text.bytes ++ flat_map (λ p. 59 ∷ text_or_empty p) l.initial.pieces
