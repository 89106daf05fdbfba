use Rattle.std.proofs.Common.{◌≡◌, ◌∙◌, ◌++◌, ◌∷◌, [], ap, append-nil, ℕ, List, sym}
use Rattle.std.specs.Prelude.{string_bytes}
use Rattle.vt100_forms.specs.Writer.{HandsOver}
use Rattle.screentext_command.specs.Rows.{changed}
use Rattle.screentext_command.proofs.rows.push_change.Goals as goal

-- a text got what it was handed
handed : {S : Type 0} (text : S → List ℕ) (old new : S) (bytes : List ℕ)
    → HandsOver (λ s bs t. text t ≡ text s ++ bs) old bytes new → text new ≡ text old ++ bytes
handed text old new [] is = ap text is ∙ sym (append-nil (text old))
handed text old new (b ∷ bs) is = is

pub returns-in-Ok : goal.returns-in-Ok
returns-in-Ok c = handed string_bytes _ _ (changed c.args.from c.args.to) c.in-Ok.ensures.written
