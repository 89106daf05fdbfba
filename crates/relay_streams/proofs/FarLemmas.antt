-- Views of a run's sessions.
use Rattle.std.proofs.Common.{◌≡◌, ◌∙◌, ℕ, zero, suc, ◌≤◌, false, List, [], ◌∷◌, ◌++◌, length, take, drop, map, None}
use Rattle.std.proofs.Common.{Some, Ok, Err, Result, refl, sym, ap, subst, arith, take-append-drop}
use Rattle.std.specs.List.{list_any, slice_get, concat}
use Rattle.vte.specs.Moves.{Gives}
use Rattle.terminal_model.specs.Term.{Size, Term, shown_of}
use Rattle.termrelay.specs.Hub.{HubState, as_kept, IsNewHub}
use Rattle.termrelay.specs.Calls.{Call}
use Rattle.termrelay.specs.declared.runs.call.Reply.{Reply}
use Rattle.termrelay.specs.declared.error.HubError.{HubError}
use Rattle.termrelay.specs.declared.error.HubError.TheVariants as hub
use Rattle.termrelay.specs.Log.{SessionView, LogView, empty_log, MadeAll, RunsCalls}
use Rattle.termview.specs.Seen.{seen}
use Rattle.termview.specs.Standing.{shown_by}
use Rattle.termview.specs.declared.view.View.{View}
use Rattle.termview.specs.declared.until_cleared.UntilCleared.{UntilCleared}
use Rattle.screen_model.specs.Holds.{IsSide}
use Rattle.relay_theorem.specs.History.{Entry, Story, size_of_story}
use Rattle.relay_theorem.specs.Judge.{texts, last_frame, last_whole, judged, IsSure, IsShownRight}
use Rattle.relay_theorem.specs.Laws.{IsSession}
use Rattle.relay_theorem.specs.Headline.{last_read}
use Rattle.relay_theorem.specs.Isolation.{is_out_of_memory}
use Rattle.relay_theorem.proofs.HeadlineLemmas.{last-shown, wholes-shown}
use Rattle.relay_theorem.proofs.ServesLemmas.{logs-follow}
use Rattle.relay_theorem.proofs.LoggedLemmas.{story-at}
use Rattle.relay_streams.specs.Pieces.{cut_by}
use Rattle.relay_streams.specs.Far.{HasReadFirst, IsFarView, ShowsJudged, FarViewsShow, last_given}
use Rattle.relay_streams.specs.Turns.{fault_of}
use Rattle.relay_streams.specs.declared.error.RelayError.{RelayError}
use Rattle.relay_streams.specs.declared.error.RelayError.TheVariants.{Memory}
use Rattle.relay_streams.proofs.LawLemmas.{given-Gives}
use Rattle.relay_streams.proofs.PieceLemmas.{concat-cut_by}

-- ---- logs

-- one error in results of two types
pub same-error : {T U : Type 0} (e d : RelayError) (r : Result T RelayError) (s : Result U RelayError) → r ≡ Err e
    → r ≡ Err d → s ≡ Err e → s ≡ Err d
same-error {T} {U} e d r s is other so =
    let error : Result T RelayError → RelayError = λ r. elim r as (λ r. RelayError) [ Ok x ↦ d | Err y ↦ y ] in
    so ∙ ap Err (sym (ap error is) ∙ ap error other)

-- a run has ended for want of memory
pub run-refused : (h g : HubState as_kept) (l m : LogView) (calls : List Call) (e : HubError)
    → RunsCalls h l calls (Err e) g m → fault_of e ≡ Memory
run-refused h g l m calls hub.Memory r = refl
run-refused h g l m calls hub.Failed r = refl
run-refused h g l m calls hub.UnknownClient r = refl
run-refused h g l m calls (hub.Write e) r = absurd r

none-logged : (ts : List Story) (n : ℕ) → slice_get (map (λ t. t.session) ts) n ≡ None → length ts ≤ n
none-logged [] n is = omega arith
none-logged (t ∷ ts) zero is = absurd (let no : Some t.session ≡ None = is in cc)
none-logged (t ∷ ts) (suc n) is = omega (arith, none-logged ts n is)

module _ (rows cols : ℕ) (calls : List Call) (h g : HubState as_kept) (m : LogView) (new : IsNewHub rows cols h)
    (ran : MadeAll h empty_log calls g m) (fed : list_any is_out_of_memory m.replies ≡ false) (n most : ℕ)
    (cuts : List ℕ)
  where
    fed-all : list_any is_out_of_memory ran.0 ≡ false
    fed-all = ap (list_any is_out_of_memory) (sym ran.1) ∙ fed

    -- there is no such session
    pub none-found : slice_get m.sessions n ≡ None → IsFarView rows cols calls n most cuts None
    none-found is =
        let all = logs-follow rows cols calls ran.0 h g m.sessions new ran.2 in
        record {
          replies = ran.0;
          hub = all.0;
          stories = all.1;
          ran = all.2;
          fed = fed-all;
          is = none-logged all.1 n (ap (λ xs. slice_get xs n) all.4 ∙ is);
        }

    -- a view has read it
    pub one-found : (s : SessionView) (v : View UntilCleared) → slice_get m.sessions n ≡ Some s
        → HasReadFirst s most cuts v → IsFarView rows cols calls n most cuts (Some v)
    one-found s v is reads =
        let all = logs-follow rows cols calls ran.0 h g m.sessions new ran.2 in
        let found = story-at m.sessions all.1 n s all.4 is in
        record {
          replies = ran.0;
          hub = all.0;
          stories = all.1;
          ran = all.2;
          fed = fed-all;
          is = (
            found.story,
            found.is,
            subst (λ (x : SessionView). HasReadFirst x most cuts v) (sym found.logged) reads,
          );
        }

-- ---- what is shown

-- what is shown of what was parsed
seen-so : (t : Story) (most : ℕ) (cuts : List ℕ) (v : View UntilCleared) → (r : HasReadFirst t.session most cuts v)
    → shown_of (shown_by v) ≡ shown_of (seen (size_of_story t) r.parsed)
seen-so t most cuts v r =
    ap (λ (x : Term). shown_of x) r.holds.state_after.shows ∙ ap (λ (z : Size). shown_of (seen z r.parsed)) r.size

pub far-shown : FarViewsShow
far-shown rows cols calls replies n most cuts t v session r sure =
    let given = take most t.session.pumped in
    let pieces = cut_by cuts given in
    let joined : concat pieces ≡ given = concat-cut_by cuts given in
    let same : last_given t most ≡ last_read t pieces =
    ap (λ (xs : List ℕ). last_whole None t.entries (length xs)) (sym joined) in
    let shown = last-shown rows cols calls replies n t pieces r.parsed session (record {
      beyond = drop most t.session.pumped;
      joined = ap (λ xs. xs ++ drop most t.session.pumped) joined ∙ take-append-drop most t.session.pumped;
      hold = r.hold;
      leads = r.leads;
    }) in
    seen-so t most cuts v r ∙ shown (subst IsSure same sure) ∙ ap (judged rows cols) (sym same)

-- where the bytes given end with a frame
whole-given : (rows cols : ℕ) (calls : List Call) (replies : List Reply) (n most : ℕ) (cuts : List ℕ) (t : Story)
    (v : View UntilCleared) (prefix back : List Entry) → IsSession rows cols calls replies n t
    → HasReadFirst t.session most cuts v → t.entries ≡ prefix ++ back → take most t.session.pumped ≡ texts prefix
    → IsShownRight rows cols (shown_of (shown_by v)) (last_frame None prefix)
whole-given rows cols calls replies n most cuts t v prefix back session r are given sure =
    let bytes = take most t.session.pumped in
    let shown = wholes-shown rows cols calls replies n t prefix r.parsed r.hold session (record {
      back = back;
      parts = are;
      moves = map Gives (cut_by cuts bytes);
      given = given-Gives (cut_by cuts bytes) ∙ concat-cut_by cuts bytes ∙ given;
      leads = r.leads;
    }) in
    seen-so t most cuts v r ∙ shown.1 sure

pub shows-judged : (rows cols : ℕ) (calls : List Call) (n most : ℕ) (cuts : List ℕ) (v : View UntilCleared)
    → IsSide rows → IsSide cols → IsFarView rows cols calls n most cuts (Some v) → ShowsJudged rows cols calls n most v
shows-judged rows cols calls n most cuts v height width f =
    let t = f.is.0 in
    let session : IsSession rows cols calls f.replies n t =
    record { height = height; width = width; hub = f.hub; stories = f.stories; ran = f.ran; is = f.is.1 } in
    record {
      replies = f.replies;
      story = t;
      session = session;
      fed = f.fed;
      size = f.is.2.size;
      shows = far-shown rows cols calls f.replies n most cuts t v session f.is.2;
      whole = λ prefix back. whole-given rows cols calls f.replies n most cuts t v prefix back session f.is.2;
    }
