-- What else holds of calls from C: whole frames are shown wherever a view is stopped, no frame is shown in part, and
-- other clients don't affect a session.
use Rattle.std.specs.Prelude.{◌≡◌, ℕ, ℤ, false, List, [], ◌∷◌, ◌++◌, Option, None, Some, slice_get}
use Rattle.std.specs.List.{concat, list_any}
use Rattle.vte.specs.Moves.{Move, Gives, Stops, given}
use Rattle.terminal_model.specs.Term.{shown_of}
use Rattle.screen_model.specs.Holds.{IsSide}
use Rattle.termview.specs.Standing.{HoldsAt, view_size, shown_by}
use Rattle.termview.specs.Timeout.{until_cleared}
use Rattle.termrelay.specs.Answers.{ClientState}
use Rattle.termrelay.specs.Calls.{Call}
use Rattle.termrelay.specs.Hub.{clients_in}
use Rattle.termrelay.specs.Log.{SessionView}
use Rattle.termrelay.specs.declared.runs.call.Reply.{Reply}
use Rattle.relay_theorem.specs.History.{Entry, Story, size_of_session}
use Rattle.relay_theorem.specs.Judge.{IsShownRight, last_frame, texts}
use Rattle.relay_theorem.specs.Laws.{IsSession}
use Rattle.relay_theorem.specs.Headline.{whole_read}
use Rattle.relay_theorem.specs.Isolation.{AreAlike, is_out_of_memory, own_calls}
use Rattle.c_objects.specs.Hubs.{IsNewHubOf}
use Rattle.c_objects.specs.Objects.{ViewDoes}
use Rattle.c_objects.specs.Runs.{FromC, AreCallsOf}
use Rattle.c_objects.specs.Views as view
use Rattle.c_objects.specs.Views.{ViewState, IsNewViewOf, Advances}
use Rattle.c_objects.specs.declared.object.Object.{Object}
use Rattle.c_objects.specs.declared.object.Object.TheVariants.{Hub, View, Screen, Recording, Filter}
use Rattle.c_theorem.specs.Shown.{HubRuns, ViewReads}

-- A new hub x was taken to y by calls from C, and s is its n-th session.
pub record HandsTo (rows cols : ℕ) (x : Object) (made : List (FromC × ℤ)) (y : Object) (n : ℕ) (s : SessionView)
    : Type 0 where
  pub height : IsSide rows
  pub width : IsSide cols
  pub new : IsNewHubOf rows cols x
  pub sessions : List SessionView
  pub ran : HubRuns x [] made y sessions
  pub is : slice_get sessions n ≡ Some s

-- the session's story, in the library's calls and replies that the calls from C are
pub record StoryFromC (rows cols : ℕ) (made : List (FromC × ℤ)) (n : ℕ) (s : SessionView) : Type 0 where
  pub calls : List Call
  pub replies : List Reply
  pub are : AreCallsOf made calls replies
  pub story : Story
  pub session : IsSession rows cols calls replies n story
  pub logged : story.session ≡ s

-- ---- whole frames

-- calls from C on a word's view, one after another: it reads a piece, or its update is stopped by hand
abbrev pub ViewMoves : Object → List Move → Object → Type 0
ViewMoves v [] w = w ≡ v
ViewMoves v (Gives piece ∷ moves) w =
    (u : Object) × (code : ℤ) × ViewDoes (Advances piece) v code u × ViewMoves u moves w
ViewMoves v (Stops ∷ moves) w = (u : Object) × (code : ℤ) × ViewDoes view.Stops v code u × ViewMoves u moves w

-- The view of a word, which has the session's size, holds nothing back. It shows the screen at the moment of this
-- frame, or a blank screen without one, unless that screen had U+FE0F.
pub record ShowsWhole (rows cols : ℕ) (s : SessionView) (last : Option Entry) (w : Object) : Type 0 where
  pub view : ViewState
  pub is : w ≡ View view
  pub size : view_size view ≡ size_of_session s
  pub parsed : List ℕ
  pub holds : HoldsAt until_cleared view parsed None
  pub shows : IsShownRight rows cols (shown_of (shown_by view)) last

-- A new view of the session's size reads its first frames, whole, in any pieces, and wherever it is stopped by hand. It
-- shows the last one.
abbrev pub WholeFramesFromCAreShown : Type 0
WholeFramesFromCAreShown = (rows cols : ℕ) (x y : Object) (made : List (FromC × ℤ)) (n : ℕ) (s : SessionView)
    → HandsTo rows cols x made y n s → (h : StoryFromC rows cols made n s)
    × ((prefix back : List Entry) (moves : List Move) (v w : Object) → h.story.entries ≡ prefix ++ back
    → IsNewViewOf s.rows s.cols v → ViewMoves v moves w → given moves ≡ texts prefix
    → ShowsWhole rows cols s (last_frame None prefix) w)

-- ---- no frame in part

-- two words hold views that show the same
pub record ShowTheSame (v w : Object) : Type 0 where
  pub one : ViewState
  pub other : ViewState
  pub is_one : v ≡ View one
  pub is_other : w ≡ View other
  pub same : shown_of (shown_by other) ≡ shown_of (shown_by one)

-- A new view of the session's size reads a prefix of the bytes that the client was handed, and then more of them. If no
-- further frame lies wholly in these, it still shows the same.
abbrev pub NoFrameFromCIsTorn : Type 0
NoFrameFromCIsTorn = (rows cols : ℕ) (x y : Object) (made : List (FromC × ℤ)) (n : ℕ) (s : SessionView)
    (v w u : Object) (pieces more : List (List ℕ)) (beyond : List ℕ) → HandsTo rows cols x made y n s
    → IsNewViewOf s.rows s.cols v → ViewReads v pieces w → ViewReads w more u
    → concat (pieces ++ more) ++ beyond ≡ s.pumped → (h : StoryFromC rows cols made n s)
    × (whole_read h.story (pieces ++ more) ≡ whole_read h.story pieces → ShowTheSame w u)

-- ---- isolation

-- the client at each key of the hub in a word
abbrev pub clients_of : Object → ℕ → Option ClientState
clients_of (Hub h) = clients_in h
clients_of (View v) = λ key. None
clients_of (Screen m) = λ key. None
clients_of (Recording r) = λ key. None
clients_of (Filter f) = λ key. None

-- Two sessions of two hubs that C makes, with the same own calls: they are handed the same bytes, and are alike in all
-- else, whatever the other calls and the keys were, if no call of the two failed for want of memory.
abbrev pub SessionsFromCAreIsolated : Type 0
SessionsFromCAreIsolated = (rows cols : ℕ) (x y a b : Object) (made others : List (FromC × ℤ)) (n m : ℕ)
    (s z : SessionView) → HandsTo rows cols x made y n s → HandsTo rows cols a others b m z
    → (h : StoryFromC rows cols made n s) × (g : StoryFromC rows cols others m z)
    × (list_any is_out_of_memory h.replies ≡ false → list_any is_out_of_memory g.replies ≡ false
    → own_calls n h.calls h.replies ≡ own_calls m g.calls g.replies → AreAlike s z (clients_of y) (clients_of b))
