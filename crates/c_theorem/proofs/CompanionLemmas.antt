-- What else holds of calls from C.
use Rattle.std.proofs.Common.{◌≡◌, ◌∙◌, ℕ, ℤ, List, [], ◌∷◌, ◌++◌, Option, None, refl, sym, ap, subst}
use Rattle.std.specs.declared.io.Error.{Error}
use Rattle.std.proofs.Common.{append_assoc}
use Rattle.std.proofs.lemmas.List.Folds.{concat-append}
use Rattle.std.specs.List.{concat}
use Rattle.vte.specs.Moves.{Move, Gives, Stops, given}
use Rattle.vte.specs.Hold.{held_of}
use Rattle.vte.specs.Frames.{Drives, ends, gives, stops}
use Rattle.vte.specs.Timeout.{IsExact}
use Rattle.terminal_model.specs.Term.{Size, Term, shown_of}
use Rattle.termview.specs.Seen.{seen}
use Rattle.termview.specs.Standing.{HoldsAt, view_size, shown_by}
use Rattle.termview.specs.Timeout.{until_cleared}
use Rattle.termrelay.specs.Hub.{clients_in}
use Rattle.termrelay.specs.Answers.{ClientState}
use Rattle.termrelay.specs.Calls.{Call}
use Rattle.termrelay.specs.Log.{SessionView, LogView}
use Rattle.relay_theorem.specs.History.{Entry, Story, size_of_session, size_of_story}
use Rattle.relay_theorem.specs.Judge.{IsShownRight, last_frame, texts}
use Rattle.relay_theorem.specs.Headline.{NoSessionIsTorn, ReadsFrames, ReadsPrefix, whole_read}
use Rattle.relay_theorem.specs.Isolation.{AreAlike, LoggedSessionsAreIsolated}
use Rattle.relay_theorem.specs.Logged.{IsLogged, HasStory, WholeLoggedFramesAreShown}
use Rattle.c_objects.specs.Runs.{FromC, AreCallsOf, EachRunFromCIsLogged}
use Rattle.c_objects.specs.Views.{ViewState, IsNewViewOf}
use Rattle.c_objects.specs.declared.object.Object.{Object}
use Rattle.c_objects.specs.declared.object.Object.TheVariants.{Hub, View, Screen, Recording, Filter}
use Rattle.c_theorem.specs.Shown.{ViewReads}
use Rattle.c_theorem.specs.Companions.{HandsTo, StoryFromC, ViewMoves, ShowsWhole, ShowTheSame, clients_of}
use Rattle.c_theorem.specs.Companions.{WholeFramesFromCAreShown, NoFrameFromCIsTorn, SessionsFromCAreIsolated}
use Rattle.c_theorem.proofs.ShownLemmas.{run-of, reads-of, size-is, IsLoggedRun}

-- ---- the run

-- the run of the library's calls that the calls from C are
record RunOf (rows cols : ℕ) (made : List (FromC × ℤ)) (y : Object) (n : ℕ) (s : SessionView) : Type 0 where
  calls : List Call
  log : LogView
  are : AreCallsOf made calls log.replies
  logged : IsLogged rows cols calls log n s
  left : y ≡ Hub logged.after

run-from : Error → EachRunFromCIsLogged → (rows cols : ℕ) (x y : Object) (made : List (FromC × ℤ)) (n : ℕ)
    (s : SessionView) → HandsTo rows cols x made y n s → RunOf rows cols made y n s
run-from e logged rows cols (Hub h) y made n s hands =
    let run = run-of h [] hands.sessions made y hands.ran in
    let all : IsLoggedRun h made run.0 hands.sessions = logged e h run.0 [] hands.sessions made run.2 in
    record {
      calls = all.0;
      log = record { replies = all.1; sessions = hands.sessions };
      are = all.2;
      logged = record {
        height = hands.height;
        width = hands.width;
        hub = h;
        new = hands.new;
        after = run.0;
        ran = (all.1, refl, all.3);
        is = hands.is;
      };
      left = run.1;
    }
run-from e logged rows cols (View v) y made n s hands = absurd hands.new
run-from e logged rows cols (Screen m) y made n s hands = absurd hands.new
run-from e logged rows cols (Recording r) y made n s hands = absurd hands.new
run-from e logged rows cols (Filter f) y made n s hands = absurd hands.new

story-from : (rows cols : ℕ) (made : List (FromC × ℤ)) (y : Object) (n : ℕ) (s : SessionView)
    (r : RunOf rows cols made y n s) (t : Story) → HasStory rows cols r.calls r.log n s t → StoryFromC rows cols made n s
story-from rows cols made y n s r t has = record {
  calls = r.calls;
  replies = r.log.replies;
  are = r.are;
  story = t;
  session = has.session;
  logged = has.logged;
}

-- ---- whole frames

-- the moves lead the view to another
record Moved (v : ViewState) (parsed : List ℕ) (hold : Option (List ℕ)) (moves : List Move) (w : Object) : Type 0 where
  view : ViewState
  is : w ≡ View view
  parsed' : List ℕ
  hold' : Option (List ℕ)
  leads : Drives moves parsed hold parsed' hold'
  holds : HoldsAt until_cleared view parsed' hold'
  size : view_size view ≡ view_size v

moves-of : IsExact until_cleared → (v : ViewState) (parsed : List ℕ) (hold : Option (List ℕ)) (moves : List Move)
    (w : Object) → HoldsAt until_cleared v parsed hold → ViewMoves (View v) moves w → Moved v parsed hold moves w
moves-of exact v parsed hold [] w at same = record {
  view = v;
  is = same;
  parsed' = parsed;
  hold' = hold;
  leads = ends parsed hold;
  holds = at;
  size = refl;
}
moves-of exact v parsed hold (Gives piece ∷ moves) w at (o, code, (u, did, is), later) =
    let t = did.exact parsed hold exact at in
    let p = t.leads in
    let rest : ViewMoves (View u) moves w = subst (λ (x : Object). ViewMoves x moves w) is later in
    let r = moves-of exact u p.parsed' p.hold' moves w t.state_after rest in
    record {
      view = r.view;
      is = r.is;
      parsed' = r.parsed';
      hold' = r.hold';
      leads = gives piece moves parsed hold p.parsed' p.hold' p.calls p.ticks r.parsed' r.hold' p.takes r.leads;
      holds = r.holds;
      size = r.size ∙ t.size;
    }
moves-of exact v parsed hold (Stops ∷ moves) w at (o, code, (u, did, is), later) =
    let t = did.exact parsed hold exact at in
    let rest : ViewMoves (View u) moves w = subst (λ (x : Object). ViewMoves x moves w) is later in
    let r = moves-of exact u (parsed ++ held_of hold) None moves w t rest in
    record {
      view = r.view;
      is = r.is;
      parsed' = r.parsed';
      hold' = r.hold';
      leads = stops moves parsed hold r.parsed' r.hold' r.leads;
      holds = r.holds;
      size = r.size ∙ (did.emptied parsed (held_of hold) at.state_after).size;
    }

-- what a view shows, by the bytes that it has parsed
shown-seen : (s : SessionView) (v : ViewState) (parsed : List ℕ) (hold : Option (List ℕ))
    → HoldsAt until_cleared v parsed hold → view_size v ≡ size_of_session s
    → shown_by v ≡ seen (size_of_session s) parsed
shown-seen s v parsed hold at sized = at.state_after.shows ∙ ap (λ (z : Size). seen z parsed) sized

-- what is known of a session's story where whole frames were read
abbrev ShowsPrefixes : ℕ → ℕ → SessionView → Story → Type 0
ShowsPrefixes rows cols s t = (prefix : List Entry) (parsed : List ℕ) (hold : Option (List ℕ))
    → ReadsFrames t prefix parsed hold
    → (hold ≡ None) × IsShownRight rows cols (shown_of (seen (size_of_session s) parsed)) (last_frame None prefix)

whole-view : IsExact until_cleared → (rows cols : ℕ) (s : SessionView) (t : Story) → ShowsPrefixes rows cols s t
    → (prefix back : List Entry) (moves : List Move) (v w : Object) → t.entries ≡ prefix ++ back
    → IsNewViewOf s.rows s.cols v → ViewMoves v moves w → given moves ≡ texts prefix
    → ShowsWhole rows cols s (last_frame None prefix) w
whole-view exact rows cols s t shows prefix back moves (View v) w parts fresh moved all =
    let r = moves-of exact v [] None moves w fresh.holds moved in
    let sized : view_size r.view ≡ size_of_session s = r.size ∙ size-is (view_size v) s fresh.rows_are fresh.cols_are in
    let right = shows prefix r.parsed' r.hold' (record {
      back = back;
      parts = parts;
      moves = moves;
      given = all;
      leads = r.leads;
    }) in
    record {
      view = r.view;
      is = r.is;
      size = sized;
      parsed = r.parsed';
      holds = subst (λ (hold : Option (List ℕ)). HoldsAt until_cleared r.view r.parsed' hold) right.0 r.holds;
      shows = subst (λ (x : Term). IsShownRight rows cols (shown_of x) (last_frame None prefix))
          (sym (shown-seen s r.view r.parsed' r.hold' r.holds sized)) right.1;
    }
whole-view exact rows cols s t shows prefix back moves (Hub h) w parts fresh moved all = absurd fresh
whole-view exact rows cols s t shows prefix back moves (Screen m) w parts fresh moved all = absurd fresh
whole-view exact rows cols s t shows prefix back moves (Recording r) w parts fresh moved all = absurd fresh
whole-view exact rows cols s t shows prefix back moves (Filter f) w parts fresh moved all = absurd fresh

pub whole-shown : Error → EachRunFromCIsLogged → WholeLoggedFramesAreShown → IsExact until_cleared
    → WholeFramesFromCAreShown
unfolding story-from
whole-shown e logged judged exact rows cols x y made n s hands =
    let r = run-from e logged rows cols x y made n s hands in
    let found = judged rows cols r.calls r.log n s r.logged in (
      story-from rows cols made y n s r found.0 found.1,
      whole-view exact rows cols s found.0 found.2,
    )

-- ---- no frame in part

reads-append : (v w u : Object) (pieces more : List (List ℕ)) → ViewReads v pieces w → ViewReads w more u
    → ViewReads v (pieces ++ more) u
reads-append v w u [] more same later = subst (λ (x : Object). ViewReads x more u) same later
reads-append v w u (piece ∷ pieces) more (o, code, did, read) later =
    (o, code, did, reads-append o w u pieces more read later)

still-shown : IsExact until_cleared → NoSessionIsTorn → (rows cols : ℕ) (made : List (FromC × ℤ)) (n : ℕ)
    (s : SessionView) (h : StoryFromC rows cols made n s) (v w u : Object) (pieces more : List (List ℕ))
    (beyond : List ℕ) → IsNewViewOf s.rows s.cols v → ViewReads v pieces w → ViewReads w more u
    → concat (pieces ++ more) ++ beyond ≡ s.pumped → whole_read h.story (pieces ++ more) ≡ whole_read h.story pieces
    → ShowTheSame w u
still-shown exact torn rows cols made n s h (View v) w u pieces more beyond fresh read later joined whole =
    let r = reads-of exact v [] None pieces w fresh.holds read in
    let q = reads-of exact v [] None (pieces ++ more) u fresh.holds
    (reads-append (View v) w u pieces more read later) in
    let start = size-is (view_size v) s fresh.rows_are fresh.cols_are in
    let first : ReadsPrefix s.pumped pieces r.parsed' = record {
      beyond = concat more ++ beyond;
      joined = sym (append_assoc (concat pieces) (concat more) beyond)
          ∙ ap (λ (xs : List ℕ). xs ++ beyond) (sym (concat-append pieces more)) ∙ joined;
      hold = r.hold';
      leads = r.leads;
    } in
    let all : ReadsPrefix s.pumped (pieces ++ more) q.parsed' =
    record { beyond = beyond; joined = joined; hold = q.hold'; leads = q.leads } in
    let same = torn rows cols h.calls h.replies n h.story pieces more r.parsed' q.parsed' h.session
    (subst (λ (x : SessionView). ReadsPrefix x.pumped pieces r.parsed') (sym h.logged) first)
    (subst (λ (x : SessionView). ReadsPrefix x.pumped (pieces ++ more) q.parsed') (sym h.logged) all) whole in
    let sized : size_of_story h.story ≡ size_of_session s = ap size_of_session h.logged in
    record {
      one = r.view;
      other = q.view;
      is_one = r.is;
      is_other = q.is;
      same = ap shown_of (shown-seen s q.view q.parsed' q.hold' q.holds (q.size ∙ start))
          ∙ ap (λ (z : Size). shown_of (seen z q.parsed')) (sym sized) ∙ same
          ∙ ap (λ (z : Size). shown_of (seen z r.parsed')) sized
          ∙ ap shown_of (sym (shown-seen s r.view r.parsed' r.hold' r.holds (r.size ∙ start)));
    }
still-shown exact torn rows cols made n s h (Hub g) w u pieces more beyond fresh read later joined whole = absurd fresh
still-shown exact torn rows cols made n s h (Screen m) w u pieces more beyond fresh read later joined whole =
    absurd fresh
still-shown exact torn rows cols made n s h (Recording r) w u pieces more beyond fresh read later joined whole =
    absurd fresh
still-shown exact torn rows cols made n s h (Filter f) w u pieces more beyond fresh read later joined whole =
    absurd fresh

pub none-torn : Error → EachRunFromCIsLogged → WholeLoggedFramesAreShown → NoSessionIsTorn → IsExact until_cleared
    → NoFrameFromCIsTorn
none-torn e logged judged torn exact rows cols x y made n s v w u pieces more beyond hands fresh read later joined =
    let r = run-from e logged rows cols x y made n s hands in
    let found = judged rows cols r.calls r.log n s r.logged in
    let h = story-from rows cols made y n s r found.0 found.1 in
    (h, still-shown exact torn rows cols made n s h v w u pieces more beyond fresh read later joined)

-- ---- isolation

pub isolated : Error → EachRunFromCIsLogged → WholeLoggedFramesAreShown → LoggedSessionsAreIsolated
    → SessionsFromCAreIsolated
unfolding run-from story-from
isolated e logged judged alone rows cols x y a b made others n m s z hands handed =
    let r = run-from e logged rows cols x y made n s hands in
    let q = run-from e logged rows cols a b others m z handed in
    let f = judged rows cols r.calls r.log n s r.logged in
    let g = judged rows cols q.calls q.log m z q.logged in (
      story-from rows cols made y n s r f.0 f.1,
      story-from rows cols others b m z q g.0 g.1,
      λ fed given same.
          subst (λ (these : ℕ → Option ClientState). AreAlike s z these (clients_of b)) (sym (ap clients_of r.left))
          (subst (λ (those : ℕ → Option ClientState). AreAlike s z (clients_in r.logged.after) those)
          (sym (ap clients_of q.left))
          (alone rows cols r.calls q.calls r.log q.log n m s z r.logged q.logged fed given same)),
    )
