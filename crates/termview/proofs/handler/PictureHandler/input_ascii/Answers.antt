use Rattle.std.proofs.Common.{◌∙◌, ℕ, List, map, subst, sym}
use Rattle.std.specs.Prelude.{All}
use Rattle.std.proofs.lemmas.List.{map-id}
use Rattle.printable.specs.Printable.{IsPrintable}
use Rattle.vte_types.specs.Call.{Calls, input}
use Rattle.termview.specs.Picture.{Does}
use Rattle.termview.proofs.RunSteps.{chars-run, all-drawn, all-shown}
use Rattle.termview.proofs.handler.PictureHandler.input_ascii.Goals as goal

pub input_run-requires-clause-drawn : goal.input_run-requires-clause-drawn
input_run-requires-clause-drawn c =
    all-drawn c.as_bytes.result.now (subst (All IsPrintable) (sym c.as_bytes.ensures.value) c.requires)

pub input_run-requires-clause-shown : goal.input_run-requires-clause-shown
input_run-requires-clause-shown c =
    all-shown c.as_bytes.result.now (subst (All IsPrintable) (sym c.as_bytes.ensures.value) c.requires)

pub returns : goal.returns
returns c =
    let p = c.args.self.now in
    let q = c.input_run.new.self in
    let bytes = c.as_bytes.result.now in
    subst (λ (xs : List ℕ). Calls Does p (map input xs) q)
    (map-id bytes ∙ c.as_bytes.ensures.value ∙ sym (chars-run c.args.text.now c.requires)) c.input_run.ensures
