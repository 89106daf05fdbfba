use Rattle.std.proofs.Common.{◌≡◌, ◌∙◌, ◌∷◌, [], ap, List, ℕ, Some, arith, refl}
use Rattle.std.specs.Str.{trim}
use Rattle.vte_types.specs.Call as call
use Rattle.vte.specs.Osc.{title_calls, title_of}
use Rattle.vte.proofs.Joins.{utf8_fit}
use Rattle.vte.proofs.osc.set_title.Goals as goal

one_call : (ps : List (List ℕ)) (q : List ℕ) (qs : List (List ℕ)) → ps ≡ q ∷ qs
    → title_calls ps ≡ call.set_title (Some (title_of ps)) ∷ []
one_call ps q qs e = rw e refl

pub returns : goal.returns
returns g c kept =
    let text = c.join_texts.ensures c.new-title.ensures
    (omega (arith, kept.pieces, kept.bytes, utf8_fit c.args.pieces)) in
    let title = c.trim.ensures.trim ∙ ap trim (c.as_str.ensures.value ∙ text) in
    rw (one_call c.args.pieces _ _ c.in-Some.ensures.1) (c.set_title.new.self, rw title at c.set_title.ensures, refl)
