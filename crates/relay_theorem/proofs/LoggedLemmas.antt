-- What a far terminal shows of a log's session.
use Rattle.std.proofs.Common.{◌≡◌, ◌∙◌, ℕ, zero, suc, List, [], ◌∷◌, map, Option, Some, None, sym, ap, subst, refl}
use Rattle.std.specs.Prelude.{slice_get}
use Rattle.terminal_model.specs.Term.{shown_of}
use Rattle.termview.specs.Seen.{seen}
use Rattle.termrelay.specs.declared.runs.call.Reply.{Reply}
use Rattle.termrelay.specs.Calls.{Call}
use Rattle.termrelay.specs.Answers.{ClientState}
use Rattle.termrelay.specs.Hub.{HubState, as_kept, clients_in}
use Rattle.termrelay.specs.Log.{SessionView, LogView}
use Rattle.relay_theorem.specs.History.{as_reported, Story, fresh, size_of_session, RunsReported}
use Rattle.relay_theorem.specs.Laws.{IsSession}
use Rattle.relay_theorem.specs.Judge.{last_frame, IsShownRight}
use Rattle.relay_theorem.specs.Headline.{ReadsPrefix, last_read}
use Rattle.relay_theorem.specs.Serves.{Matches}
use Rattle.relay_theorem.specs.Logged.{IsLogged, HasStory, EachLoggedReadIsARead, LoggedFramesAreShown}
use Rattle.relay_theorem.specs.Logged.{WholeLoggedFramesAreShown}
use Rattle.relay_theorem.proofs.HeadlineLemmas.{last-shown, wholes-shown}
use Rattle.relay_theorem.proofs.ServesLemmas.{logs-follow}

-- a session of a log, and its story
pub record FoundStory (s : SessionView) (ts : List Story) (n : ℕ) : Type 0 where
  pub story : Story
  pub is : slice_get ts n ≡ Some story
  pub logged : story.session ≡ s

found-at : (ts : List Story) (n : ℕ) (s : SessionView) → slice_get (map (λ t. t.session) ts) n ≡ Some s
    → FoundStory s ts n
found-at [] n s e = absurd (let no : None ≡ Some s = e in cc)
found-at (t ∷ ts) zero s e = record { story = t; is = refl; logged = cc }
found-at (t ∷ ts) (suc n) s e =
    let later = found-at ts n s e in
    record { story = later.story; is = later.is; logged = later.logged }

pub story-at : (ss : List SessionView) (ts : List Story) (n : ℕ) (s : SessionView) → map (λ t. t.session) ts ≡ ss
    → slice_get ss n ≡ Some s → FoundStory s ts n
story-at ss ts n s are e = found-at ts n s (ap (λ xs. slice_get xs n) are ∙ e)

-- the log's sessions are those of a history of its replies
abbrev IsHistory : ℕ → ℕ → List Call → List Reply → HubState as_kept → List SessionView → Type 0
IsHistory rows cols calls replies g ss =
    (u : HubState as_reported) × (ts : List Story) × RunsReported (fresh rows cols) [] calls replies u ts × Matches g u
    × (map (λ t. t.session) ts ≡ ss)

-- a log's session, and its story
pub record LoggedStory (rows cols : ℕ) (calls : List Call) (l : LogView) (n : ℕ) (s : SessionView)
    (clients : ℕ → Option ClientState) : Type 0 where
  pub story : Story
  pub session : IsSession rows cols calls l.replies n story
  pub logged : story.session ≡ s
  pub kept : clients ≡ clients_in session.hub

pub logged-story : (rows cols : ℕ) (calls : List Call) (l : LogView) (n : ℕ) (s : SessionView)
    → (a : IsLogged rows cols calls l n s) → LoggedStory rows cols calls l n s (clients_in a.after)
logged-story rows cols calls l n s a =
    let all : IsHistory rows cols calls l.replies a.after l.sessions =
    subst (λ replies. IsHistory rows cols calls replies a.after l.sessions) (sym a.ran.1)
    (logs-follow rows cols calls a.ran.0 a.hub a.after l.sessions a.new a.ran.2) in
    let found = story-at l.sessions all.1 n s all.4 a.is in
    record {
      story = found.story;
      session =
          record { height = a.height; width = a.width; hub = all.0; stories = all.1; ran = all.2; is = found.is };
      logged = found.logged;
      kept = all.3.clients;
    }

abbrev IsReported : ℕ → ℕ → List Call → LogView → ℕ → SessionView → Type 0
IsReported rows cols calls l n s = (t : Story) × HasStory rows cols calls l n s t

story-of : (rows cols : ℕ) (calls : List Call) (l : LogView) (n : ℕ) (s : SessionView) → IsLogged rows cols calls l n s
    → IsReported rows cols calls l n s
story-of rows cols calls l n s r =
    let x = logged-story rows cols calls l n s r in (x.story, record { session = x.session; logged = x.logged })

-- what is read of a log's session is read of its story
read-of : (rows cols : ℕ) (calls : List Call) (l : LogView) (n : ℕ) (s : SessionView) (t : Story)
    (pieces : List (List ℕ)) (parsed : List ℕ) → HasStory rows cols calls l n s t → ReadsPrefix s.pumped pieces parsed
    → ReadsPrefix t.session.pumped pieces parsed
read-of rows cols calls l n s t pieces parsed h r =
    subst (λ (x : SessionView). ReadsPrefix x.pumped pieces parsed) (sym h.logged) r

pub logged-reads : EachLoggedReadIsARead
logged-reads rows cols calls l n s pieces parsed a r =
    let reported : IsReported rows cols calls l n s = story-of rows cols calls l n s a in
    (reported.0, reported.1, read-of rows cols calls l n s reported.0 pieces parsed reported.1 r)

pub logged-whole : WholeLoggedFramesAreShown
logged-whole rows cols calls l n s a =
    let reported : IsReported rows cols calls l n s = story-of rows cols calls l n s a in (
      reported.0,
      reported.1,
      λ prefix parsed hold r.
          subst (λ (x : SessionView). (hold ≡ None)
          × IsShownRight rows cols (shown_of (seen (size_of_session x) parsed)) (last_frame None prefix))
          reported.1.logged
          (wholes-shown rows cols calls l.replies n reported.0 prefix parsed hold reported.1.session r),
    )

pub logged-shown : LoggedFramesAreShown
logged-shown rows cols calls l n s pieces parsed a r =
    let reported : IsReported rows cols calls l n s = story-of rows cols calls l n s a in
    let t = reported.0 in (
      t,
      reported.1,
      subst (λ (x : SessionView).
          IsShownRight rows cols (shown_of (seen (size_of_session x) parsed)) (last_read t pieces)) reported.1.logged
          (last-shown rows cols calls l.replies n t pieces parsed reported.1.session
          (read-of rows cols calls l n s t pieces parsed reported.1 r)),
    )
