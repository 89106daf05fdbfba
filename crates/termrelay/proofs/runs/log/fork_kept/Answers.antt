use Rattle.std.proofs.Common.{◌≡◌, ◌∙◌, ◌++◌, ◌∷◌, [], ap, sym, subst, map, get_or, false}
use Rattle.std.specs.List.{list_any}
use Rattle.termrelay.specs.Hub.{clients_in}
use Rattle.termrelay.specs.Log.{SessionView, is_of, bytes_owed, branched, IsLast}
use Rattle.termrelay.proofs.LogLemmas.{none-branched, found-last, found-that}
use Rattle.termrelay.proofs.runs.log.fork_kept.Goals as goal

pub returns-in_default-clause-sessions : goal.returns-in_default-clause-sessions
returns-in_default-clause-sessions c =
    let ss = c.args.sessions.now.items in
    let same : c.deref.result.now ≡ ss = c.deref.ensures.value in
    none-branched c.args.hub.now c.args.client c.fork.result ss
    (subst (λ xs. list_any (is_of c.args.client) xs ≡ false) same c.in_default.ensures)

pub returns-in-Ok-clause-sessions : goal.returns-in-Ok-clause-sessions
returns-in-Ok-clause-sessions c =
    let key = c.args.client in
    let ss = c.args.sessions.now.items in
    let at = c.in-Some.at in
    let owed = bytes_owed (clients_in c.args.hub.now key) in
    let change = branched c.in-Ok.fork owed in
    let same : c.deref.result.now ≡ ss = c.deref.ensures.value in
    let items : c.reserve.new.self.items ≡ ss = c.in_ok-reserve.ensures.items in
    let l : IsLast (is_of key) ss at = subst (λ xs. IsLast (is_of key) xs at) same c.in-Some.ensures in
    let first : c.index.result.now ≡ l.last =
    c.index.ensures ∙ ap (λ xs. get_or xs at c.index.result.now) items
    ∙ found-last (is_of key) ss at c.index.result.now l in
    let second : c.index-in-Ok.result.now ≡ l.last =
    c.index-in-Ok.ensures ∙ ap (λ xs. get_or xs at c.index-in-Ok.result.now) items
    ∙ found-last (is_of key) ss at c.index-in-Ok.result.now l in
    let bytes : c.in_ok-pumped.pumped.items ≡ l.last.pumped ++ owed =
    c.in_ok-pumped.ensures ∙ ap (λ xs. c.index.result.now.pumped ++ xs) c.owed.ensures
    ∙ ap (λ (s : SessionView). s.pumped ++ owed) first in
    let session : c.branch-session.result ≡ change l.last =
    c.branch-session.ensures
    ∙ (λ i. record (second i) { client = c.in-Ok.fork; pumped = bytes i; ended = false }) in
    c.push_reserved.ensures.items
    ∙ ap (λ xs. xs ++ c.branch-session.result ∷ []) items
    ∙ ap (λ s. ss ++ s ∷ []) session
    ∙ ap (λ xs. ss ++ map change xs) (sym (found-that (is_of key) ss at l))
