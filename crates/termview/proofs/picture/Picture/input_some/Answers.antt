use Rattle.std.proofs.Common.{◌≤◌, ℕ, List, length, map, take, sym, subst, ap, ◌∙◌}
use Rattle.std.proofs.lemmas.List.{map-id}
use Rattle.std.specs.Prelude.{All}
use Rattle.printable.specs.Printable.{IsPrintable}
use Rattle.printable.proofs.PrintableLemmas.{printable-boundary}
use Rattle.vte_types.specs.Call.{Calls, input}
use Rattle.termview.specs.Picture.{PictureView, Does, ShowsPrefix}
use Rattle.termview.proofs.RunSteps.{prefix-run, all-drawn, all-shown}
use Rattle.termview.proofs.picture.Picture.input_some.Goals as goal

pub range_from-requires : goal.range_from-requires
range_from-requires c =
    let n = c.printable_len-len.result in
    let same = c.as_bytes.ensures.value in
    let within : n ≤ length c.args.text.now =
    subst (λ (xs : List ℕ). n ≤ length xs) same c.printable_len-len.ensures.within in
    let printable : All IsPrintable (take n c.args.text.now) =
    subst (λ (xs : List ℕ). All IsPrintable (take n xs)) same c.printable_len-len.ensures.printable in
    λ some. printable-boundary c.args.text.now n c.utf8.text within printable

pub input_run-requires-clause-drawn : goal.input_run-requires-clause-drawn
input_run-requires-clause-drawn c =
    let same = c.as_bytes.ensures.value ∙ sym c.as_bytes-then-len-gt0.ensures.value in
    all-drawn _ (subst (λ (xs : List ℕ). All IsPrintable (take c.printable_len-len.result xs)) same
    c.printable_len-len.ensures.printable)

pub input_run-requires-clause-shown : goal.input_run-requires-clause-shown
input_run-requires-clause-shown c =
    let same = c.as_bytes.ensures.value ∙ sym c.as_bytes-then-len-gt0.ensures.value in
    all-shown _ (subst (λ (xs : List ℕ). All IsPrintable (take c.printable_len-len.result xs)) same
    c.printable_len-len.ensures.printable)

pub returns-then-len-gt0-clause-shown : goal.returns-then-len-gt0-clause-shown
returns-then-len-gt0-clause-shown c =
    let n = c.printable_len-len.result in
    let p = c.args.self.now in
    let q = c.input_run.new.self in
    let printable : All IsPrintable (take n c.args.text.now) =
    subst (λ (xs : List ℕ). All IsPrintable (take n xs)) c.as_bytes.ensures.value
    c.printable_len-len.ensures.printable in
    let bytes = c.as_bytes-then-len-gt0 in
    let shown = subst (λ (xs : List ℕ). Calls Does p (map input xs) q)
    (map-id (take n bytes.result.now) ∙ ap (take n) bytes.ensures.value) c.input_run.ensures in
    subst (λ (left : List ℕ). ShowsPrefix c.args.text.now left p q) (sym c.range_from.ensures.value)
    (prefix-run c.args.text.now n p q printable shown)

pub returns-in-None-clause-shown : goal.returns-in-None-clause-shown
returns-in-None-clause-shown c =
    subst (λ (p : PictureView). ShowsPrefix c.args.text.now c.input_first.result.now p c.input_first.new.self)
    c.in-None.ensures.none c.input_first.ensures.shown
