use Rattle.std.proofs.Common.{◌≡◌, ◌∙◌, ◌∷◌, [], ap, sym, List, ℕ, Some, None, length, map, option_map, ◌==◌, true}
use Rattle.std.proofs.Common.{false, refl}
use Rattle.std.specs.List.{join_with_byte}
use Rattle.vte_types.specs.Call as call
use Rattle.vte_types.specs.Call.{Link}
use Rattle.vte.specs.Osc.{link_calls, link_to, link_id, text_or_empty, AreKept}
use Rattle.vte.proofs.Joins.{texts_fit, kept_after}
use Rattle.vte.proofs.osc.set_hyperlink.Goals as goal

one_call : (ps : List (List ℕ)) (p u : List ℕ) (us : List (List ℕ)) → ps ≡ p ∷ u ∷ us
    → link_calls ps ≡ call.set_hyperlink (link_to p (join_with_byte 59 (map text_or_empty (u ∷ us)))) ∷ []
one_call ps p u us e = rw e refl

kept_rest : (ps : List (List ℕ)) (p u : List ℕ) (us : List (List ℕ)) → ps ≡ p ∷ u ∷ us → AreKept ps → AreKept (u ∷ us)
kept_rest ps p u us e kept = let all : AreKept (p ∷ (u ∷ us)) = rw e at kept
    in kept_after p (u ∷ us) all.pieces all.bytes

no_link : (p uri : List ℕ) → (length uri == 0) ≡ true → link_to p uri ≡ None
no_link p uri e = rw e refl

some_link : (p uri : List ℕ) (l : Link) → (length uri == 0) ≡ false → l.id ≡ link_id p → l.uri ≡ uri
    → link_to p uri ≡ Some l
some_link p uri l e i u = rw (e, ← i, ← u) refl

pub returns-then-is_empty : goal.returns-then-is_empty
returns-then-is_empty g c kept =
    let is = c.in-Some.ensures.steps ∙ ap (λ r. c.in-Some.params.now ∷ r) c.in-Some-next.ensures.steps in
    let text = c.join_pieces.ensures c.new-uri.ensures (texts_fit _ (kept_rest _ _ _ _ is kept)) in
    let gone = rw (c.as_str-uri.ensures.value ∙ text) at (sym c.if-is_empty.ensures) in
    rw (one_call _ _ _ _ is, no_link c.in-Some.params.now _ gone) (
      c.set_hyperlink.new.self,
      c.set_hyperlink.ensures,
      refl,
    )

pub returns : goal.returns
returns g c kept =
    let is = c.in-Some.ensures.steps ∙ ap (λ r. c.in-Some.params.now ∷ r) c.in-Some-next.ensures.steps in
    let text = c.join_pieces.ensures c.new-uri.ensures (texts_fit _ (kept_rest _ _ _ _ is kept)) in
    let uri = c.as_str-uri.ensures.value ∙ text in
    let there = rw uri at (sym c.if-is_empty.ensures) in
    let link : Link = record { id = option_map (λ t. t.now) c.find_id.result; uri = c.as_str-uri.result.now } in
    rw (one_call _ _ _ _ is, some_link c.in-Some.params.now _ link there c.find_id.ensures uri)
    (c.set_hyperlink-2.new.self, c.set_hyperlink-2.ensures, refl)
