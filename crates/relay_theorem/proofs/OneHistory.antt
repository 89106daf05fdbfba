-- The calls and their replies determine the history.
use Rattle.std.proofs.Common.{◌≡◌, ◌∙◌, [], ◌∷◌, sym, subst}
use Rattle.relay_theorem.specs.History.{stories_after, RunsReported}
use Rattle.relay_theorem.specs.Serves.{EachHistoryIsOne}
use Rattle.relay_theorem.proofs.CallLemmas.{serves-does, does-after}

pub history-is-one : EachHistoryIsOne
history-is-one h g k ts us vs [] [] e f = (e.0 ∙ sym f.0, e.1 ∙ sym f.1)
history-is-one h g k ts us vs [] (r ∷ rs) e f = absurd e
history-is-one h g k ts us vs (c ∷ cs) [] e f = absurd e
history-is-one h g k ts us vs (c ∷ cs) (r ∷ rs) (m, is, serves, later) (n, so, gives, further) =
    let same : n ≡ m = does-after h c r n (serves-does h n c r gives)
    ∙ sym (does-after h c r m (serves-does h m c r serves)) in
    history-is-one m g k (stories_after h c r ts) us vs cs rs later
    (subst (λ x. RunsReported x (stories_after h c r ts) cs rs k vs) same further)
