-- Calls from C on a word's object are calls on the hub or the view in it.
use Rattle.std.proofs.Common.{◌≡◌, ◌∙◌, ℕ, ℤ, List, [], ◌∷◌, map, Option, None, refl, sym, ap, subst}
use Rattle.std.specs.declared.io.Error.{Error}
use Rattle.vte.specs.Moves.{Gives}
use Rattle.vte.specs.Frames.{Drives, ends, gives}
use Rattle.vte.specs.Timeout.{IsExact}
use Rattle.terminal_model.specs.Term.{Size, Term, shown_of}
use Rattle.termview.specs.Seen.{seen}
use Rattle.termview.specs.Standing.{HoldsAt, view_size, shown_by}
use Rattle.termview.specs.Timeout.{until_cleared}
use Rattle.termrelay.specs.Hub.{HubState, as_kept}
use Rattle.termrelay.specs.Calls.{Call}
use Rattle.termrelay.specs.Log.{SessionView, LogView, RunsLogged}
use Rattle.termrelay.specs.declared.runs.call.Reply.{Reply}
use Rattle.relay_theorem.specs.History.{Story, size_of_session}
use Rattle.relay_theorem.specs.Judge.{IsShownRight}
use Rattle.relay_theorem.specs.Headline.{ReadsPrefix, last_read}
use Rattle.relay_theorem.specs.Logged.{IsLogged, LoggedFramesAreShown}
use Rattle.c_objects.specs.Runs.{FromC, sessions_after, RunsFromC, AreCallsOf, EachRunFromCIsLogged}
use Rattle.c_objects.specs.Views.{ViewState}
use Rattle.c_objects.specs.declared.object.Object.{Object}
use Rattle.c_objects.specs.declared.object.Object.TheVariants.{Hub, View, Screen, Recording, Filter}
use Rattle.c_theorem.specs.Shown.{HubRuns, ViewReads, ViewsFromCAreShown}

-- ---- the hub

-- the calls are made on a hub, and leave one
abbrev pub IsRun : HubState as_kept → List SessionView → List (FromC × ℤ) → Object → List SessionView → Type 0
IsRun h ss made y ts = (k : HubState as_kept) × (y ≡ Hub k) × RunsFromC h ss made k ts

pub run-of : (h : HubState as_kept) (ss ts : List SessionView) (made : List (FromC × ℤ)) (y : Object)
    → HubRuns (Hub h) ss made y ts → IsRun h ss made y ts
run-of h ss ts [] y (same, kept) = (h, same, (refl, kept))
run-of h ss ts ((call, code) ∷ made) y (z, fits, (g, did, is), later) =
    let rest : HubRuns (Hub g) (sessions_after h call code ss) made y ts =
    subst (λ (o : Object). HubRuns o (sessions_after h call code ss) made y ts) is later in
    let found = run-of g (sessions_after h call code ss) ts made y rest in
    (found.0, found.1, (g, fits, did, found.2))

-- ---- the view

-- the pieces lead the view to another
pub record Reads (v : ViewState) (parsed : List ℕ) (hold : Option (List ℕ)) (pieces : List (List ℕ)) (w : Object)
    : Type 0 where
  pub view : ViewState
  pub is : w ≡ View view
  pub parsed' : List ℕ
  pub hold' : Option (List ℕ)
  pub leads : Drives (map Gives pieces) parsed hold parsed' hold'
  pub holds : HoldsAt until_cleared view parsed' hold'
  pub size : view_size view ≡ view_size v

pub reads-of : IsExact until_cleared → (v : ViewState) (parsed : List ℕ) (hold : Option (List ℕ)) (pieces : List (List ℕ))
    (w : Object)
    → HoldsAt until_cleared v parsed hold → ViewReads (View v) pieces w → Reads v parsed hold pieces w
reads-of exact v parsed hold [] w at same = record {
  view = v;
  is = same;
  parsed' = parsed;
  hold' = hold;
  leads = ends parsed hold;
  holds = at;
  size = refl;
}
reads-of exact v parsed hold (piece ∷ pieces) w at (o, code, (u, did, is), later) =
    let t = did.exact parsed hold exact at in
    let p = t.leads in
    let rest : ViewReads (View u) pieces w = subst (λ (x : Object). ViewReads x pieces w) is later in
    let r = reads-of exact u p.parsed' p.hold' pieces w t.state_after rest in
    record {
      view = r.view;
      is = r.is;
      parsed' = r.parsed';
      hold' = r.hold';
      leads = gives piece (map Gives pieces) parsed hold p.parsed' p.hold' p.calls p.ticks r.parsed' r.hold' p.takes
          r.leads;
      holds = r.holds;
      size = r.size ∙ t.size;
    }

pub size-is : (z : Size) (s : SessionView) → z.rows ≡ s.rows → z.cols ≡ s.cols → z ≡ size_of_session s
size-is z s e f =
    ap (λ (n : ℕ). let y : Size = record { rows = n; cols = z.cols } in y) e
    ∙ ap (λ (n : ℕ). let y : Size = record { rows = s.rows; cols = n } in y) f

-- ---- both

-- the library's calls and their replies that these calls from C are
abbrev pub IsLoggedRun : HubState as_kept → List (FromC × ℤ) → HubState as_kept → List SessionView → Type 0
IsLoggedRun h made k ts =
    (calls : List Call) × (replies : List Reply) × AreCallsOf made calls replies × RunsLogged h [] calls replies k ts

-- what the view has parsed is what its size and the judge's law speak of
pub shows-of : (rows cols : ℕ) (s : SessionView) (t : Story) (pieces : List (List ℕ)) (v : ViewState) (parsed : List ℕ)
    → view_size v ≡ size_of_session s → shown_by v ≡ seen (view_size v) parsed
    → IsShownRight rows cols (shown_of (seen (size_of_session s) parsed)) (last_read t pieces)
    → IsShownRight rows cols (shown_of (shown_by v)) (last_read t pieces)
shows-of rows cols s t pieces v parsed sized shows right =
    subst (λ (x : Term). IsShownRight rows cols (shown_of x) (last_read t pieces))
    (sym (shows ∙ ap (λ (z : Size). seen z parsed) sized)) right

pub views-shown : Error → EachRunFromCIsLogged → LoggedFramesAreShown → IsExact until_cleared → ViewsFromCAreShown
views-shown e logged judged exact rows cols (Hub h) y made ss n s (View v) w pieces beyond height width new ran is fresh
    read joined =
    let run = run-of h [] ss made y ran in
    let all : IsLoggedRun h made run.0 ss = logged e h run.0 [] ss made run.2 in
    let r = reads-of exact v [] None pieces w fresh.holds read in
    let sized : view_size r.view ≡ size_of_session s = r.size ∙ size-is (view_size v) s fresh.rows_are fresh.cols_are in
    let l : LogView = record { replies = all.1; sessions = ss } in
    let is_logged : IsLogged rows cols all.0 l n s = record {
      height = height;
      width = width;
      hub = h;
      new = new;
      after = run.0;
      ran = (all.1, refl, all.3);
      is = is;
    } in
    let reads : ReadsPrefix s.pumped pieces r.parsed' =
    record { beyond = beyond; joined = joined; hold = r.hold'; leads = r.leads } in
    let found = judged rows cols all.0 l n s pieces r.parsed' is_logged reads in
    record {
      calls = all.0;
      replies = all.1;
      are = all.2;
      story = found.0;
      session = found.1.session;
      logged = found.1.logged;
      view = r.view;
      is = r.is;
      size = sized;
      shows = shows-of rows cols s found.0 pieces r.view r.parsed' sized r.holds.state_after.shows found.2;
    }
views-shown e logged judged exact rows cols (View h) y made ss n s v w pieces beyond height width new ran is fresh read
    joined =
    absurd new
views-shown e logged judged exact rows cols (Screen m) y made ss n s v w pieces beyond height width new ran is fresh
    read joined =
    absurd new
views-shown e logged judged exact rows cols (Recording r) y made ss n s v w pieces beyond height width new ran is fresh
    read joined =
    absurd new
views-shown e logged judged exact rows cols (Filter f) y made ss n s v w pieces beyond height width new ran is fresh
    read joined =
    absurd new
views-shown e logged judged exact rows cols (Hub h) y made ss n s (Hub g) w pieces beyond height width new ran is fresh
    read joined =
    absurd fresh
views-shown e logged judged exact rows cols (Hub h) y made ss n s (Screen m) w pieces beyond height width new ran
    is fresh read joined =
    absurd fresh
views-shown e logged judged exact rows cols (Hub h) y made ss n s (Recording r) w pieces beyond height width new ran
    is fresh read joined =
    absurd fresh
views-shown e logged judged exact rows cols (Hub h) y made ss n s (Filter f) w pieces beyond height width new ran
    is fresh read joined =
    absurd fresh
