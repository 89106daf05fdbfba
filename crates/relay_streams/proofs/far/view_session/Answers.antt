use Rattle.std.proofs.Common.{◌≡◌, ◌∙◌, ℕ, List, IfOk, take, ap, subst}
use Rattle.std.proofs.lemmas.List.{take_min}
use Rattle.terminal_model.specs.Term.{Size}
use Rattle.relay_theorem.specs.History.{size_of_session}
use Rattle.relay_streams.specs.Far.{HasRead}
use Rattle.relay_streams.specs.Shown.{sized}
use Rattle.relay_streams.proofs.far.view_session.Goals as goal

pub returns-clause-reads : goal.returns-clause-reads
returns-clause-reads c =
    let pumped = c.pumped-pumped.result.now in
    let given : take c.min.result pumped ≡ take c.args.most c.args.session.now.pumped =
    ap (λ (k : ℕ). take k pumped) c.min.ensures ∙ take_min c.args.most pumped
    ∙ ap (λ (xs : List ℕ). take c.args.most xs) c.pumped-pumped.ensures in
    let high = c.rows.ensures in
    let wide = c.cols.ensures in
    let size : sized c.rows.result.value c.cols.result.value ≡ size_of_session c.args.session.now =
    λ i. record { rows = high i; cols = wide i } in
    subst (λ (z : Size). IfOk c.view_of.result (HasRead z (take c.args.most c.args.session.now.pumped) c.args.cuts.now))
    size
    (subst (λ (xs : List ℕ).
    IfOk c.view_of.result (HasRead (sized c.rows.result.value c.cols.result.value) xs c.args.cuts.now)) given
    c.view_of.ensures.reads)
