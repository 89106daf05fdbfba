use Rattle.std.proofs.Common.{◌≡◌, ◌≤◌, ◌∙◌, ◌∷◌, ◌++◌, sym, ap, filter, length, length-append, arith, refl}
use Rattle.std.specs.List.{flat_map, join_with_byte}
use Rattle.std.specs.Str.{is_utf8}
use Rattle.vte.proofs.Joins.{join-cons, some_text}
use Rattle.vte.proofs.osc.join_texts.Goals as goal

pub returns-in-Some-text_of : goal.returns-in-Some-text_of
returns-in-Some-text_of c empty fits =
    let piece = c.in-Some.piece.now in
    let rest = filter is_utf8 c.next.new.self in
    let more = flat_map (λ p. 59 ∷ p) rest in
    let text = some_text piece c.in-Some-text_of.first.now c.in-Some-text_of.ensures in
    let cut : filter is_utf8 c.args.pieces ≡ piece ∷ rest =
    sym c.loop-piece.invariant.texts ∙ (ap (filter is_utf8) c.in-Some.ensures.steps ∙ rw text.0 refl) in
    let whole = ap (join_with_byte 59) cut ∙ join-cons piece rest in
    let room : length (piece ++ more) ≤ 1040 = rw whole at fits in
    let begun = c.begin.ensures (ap (λ t. t.bytes) c.loop-piece.invariant.text
    ∙ empty) (omega (arith, room, length-append piece more, ap length text.1)) ∙ text.1 in
    c.append_texts.ensures (rw begun room) ∙ (ap (λ b. b ++ more) begun ∙ sym whole)
