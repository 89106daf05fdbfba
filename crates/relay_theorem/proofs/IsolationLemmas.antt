-- Sessions of two runs, or of two logs, with the same own calls.
use Rattle.std.proofs.Common.{◌≡◌, ◌∙◌, ℕ, Bool, false, List, [], Some, refl, sym, ap, subst}
use Rattle.termrelay.specs.Hub.{HubState, clients_in}
use Rattle.relay_theorem.specs.History.{as_reported, Story}
use Rattle.relay_theorem.specs.Isolation.{Own, own_calls, AreAlike, SessionsAreIsolated, LoggedSessionsAreIsolated}
use Rattle.relay_theorem.proofs.LoggedLemmas.{logged-story}
use Rattle.relay_theorem.proofs.OwnLemmas.{Life, story_of}
use Rattle.relay_theorem.proofs.OwnRunLemmas.{Found}
use Rattle.relay_theorem.proofs.BeginLemmas.{session-found}

-- ---- two runs

module _ (rows cols : ℕ) (t u : Story) (h k : HubState as_reported) (owns : List Own) (a : Found rows cols [] owns h t)
    (b : Found rows cols [] owns k u) where
  abbrev these : Life × Bool
  these = (a.life, a.gone)

  abbrev those : Life × Bool
  those = (b.life, b.gone)

  same-lives : these ≡ those
  same-lives = let both : Some these ≡ Some those = sym a.reported ∙ b.reported in cc

  same-by : {A : Type 0} (f : Story → A) (part : Life × Bool → A)
      → ((key : ℕ) (l : Life × Bool) → f (story_of rows cols key l.1 l.0) ≡ part l) → f t ≡ f u
  same-by f part is = ap f a.is ∙ is a.key these ∙ ap part same-lives ∙ sym (is b.key those) ∙ sym (ap f b.is)

  found-alike : AreAlike t.session u.session (clients_in h) (clients_in k)
  found-alike = record {
    rows = same-by (λ x. x.session.rows) (λ l. l.0.rows) (λ key l. refl);
    cols = same-by (λ x. x.session.cols) (λ l. l.0.cols) (λ key l. refl);
    pumped = same-by (λ x. x.session.pumped) (λ l. l.0.pumped) (λ key l. refl);
    ended = same-by (λ x. x.session.ended) (λ l. l.1) (λ key l. refl);
    clients = λ live.
        let on : a.gone ≡ false = sym (ap (λ (x : Story). x.session.ended) a.is) ∙ live in
        let also : b.gone ≡ false = sym (ap (λ l. l.1) same-lives) ∙ on in
        ap (λ (x : Story). h.clients x.session.client) a.is ∙ a.client on
        ∙ ap (λ l. Some (l.0.client)) same-lives
        ∙ sym (ap (λ (x : Story). k.clients x.session.client) b.is ∙ b.client also);
  }

  found-answered : t.entries ≡ u.entries
  found-answered = same-by (λ x. x.entries) (λ l. l.0.entries) (λ key l. refl)

pub sessions-isolated : SessionsAreIsolated
sessions-isolated rows cols calls others replies answers n m t u s z fed also same =
    let owns = own_calls m others answers in
    let a : Found rows cols [] owns s.hub t =
    subst (λ own. Found rows cols [] own s.hub t) same (session-found rows cols calls replies n t s fed) in
    let b = session-found rows cols others answers m u z also in
    (found-alike rows cols t u s.hub z.hub owns a b, found-answered rows cols t u s.hub z.hub owns a b)

-- ---- two logs

pub logged-isolated : LoggedSessionsAreIsolated
logged-isolated rows cols calls others l k n m s z a b fed also same =
    let x = logged-story rows cols calls l n s a in
    let y = logged-story rows cols others k m z b in
    let both = sessions-isolated rows cols calls others l.replies k.replies n m x.story y.story x.session y.session fed
    also same in
    let these : AreAlike x.story.session y.story.session (clients_in a.after) (clients_in b.after) =
    subst (λ c. AreAlike x.story.session y.story.session c (clients_in b.after)) (sym x.kept)
    (subst (λ c. AreAlike x.story.session y.story.session (clients_in x.session.hub) c) (sym y.kept) both.0) in
    subst (λ v. AreAlike v z (clients_in a.after) (clients_in b.after)) x.logged
    (subst (λ v. AreAlike x.story.session v (clients_in a.after) (clients_in b.after)) y.logged these)
