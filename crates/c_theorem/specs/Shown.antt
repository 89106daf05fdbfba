-- What a view shows of the bytes that C was handed, both by calls from C.
use Rattle.std.specs.Prelude.{◌≡◌, ℕ, ℤ, List, [], ◌∷◌, ◌++◌, Some, slice_get}
use Rattle.std.specs.List.{concat}
use Rattle.terminal_model.specs.Term.{shown_of}
use Rattle.screen_model.specs.Holds.{IsSide}
use Rattle.termview.specs.Standing.{view_size, shown_by}
use Rattle.termrelay.specs.Calls.{Call}
use Rattle.termrelay.specs.Log.{SessionView}
use Rattle.termrelay.specs.declared.runs.call.Reply.{Reply}
use Rattle.relay_theorem.specs.History.{Story, size_of_session}
use Rattle.relay_theorem.specs.Judge.{IsShownRight}
use Rattle.relay_theorem.specs.Laws.{IsSession}
use Rattle.relay_theorem.specs.Headline.{last_read}
use Rattle.c_objects.specs.Hubs.{IsNewHubOf}
use Rattle.c_objects.specs.Objects.{HubDoes, ViewDoes}
use Rattle.c_objects.specs.Runs.{FromC, IsFromC, Does, sessions_after, AreCallsOf}
use Rattle.c_objects.specs.Views.{ViewState, IsNewViewOf, Advances}
use Rattle.c_objects.specs.declared.object.Object.{Object}
use Rattle.c_objects.specs.declared.object.Object.TheVariants.{Hub, View, Screen, Recording, Filter}

-- the sessions of a word's object after a call from C that returns this number; only a hub has sessions
abbrev pub handed : Object → FromC → ℤ → List SessionView → List SessionView
handed (Hub h) call code ss = sessions_after h call code ss
handed (View v) call code ss = ss
handed (Screen m) call code ss = ss
handed (Recording r) call code ss = ss
handed (Filter f) call code ss = ss

-- Calls from C on a word, one after another, with the numbers that they return. They take its object from x to y. The
-- bytes that each client was handed are in the sessions, which go from ss to ts.
abbrev pub HubRuns : Object → List SessionView → List (FromC × ℤ) → Object → List SessionView → Type 0
HubRuns x ss [] y ts = (y ≡ x) × (ts ≡ ss)
HubRuns x ss ((call, code) ∷ made) y ts =
    (z : Object) × IsFromC call × HubDoes (Does call) x code z × HubRuns z (handed x call code ss) made y ts

-- a word's view reads these pieces, one after another
abbrev pub ViewReads : Object → List (List ℕ) → Object → Type 0
ViewReads v [] w = w ≡ v
ViewReads v (piece ∷ pieces) w =
    (u : Object) × (code : ℤ) × ViewDoes (Advances piece) v code u × ViewReads u pieces w

-- The view of a word, which has the session's size, shows the screen at the moment of the last frame that lies wholly
-- in the pieces, unless that screen had U+FE0F. That moment is one of the session's story, in the library's calls and
-- replies that the calls from C are.
pub record ShowsLastFrame (rows cols : ℕ) (made : List (FromC × ℤ)) (n : ℕ) (s : SessionView) (pieces : List (List ℕ))
    (w : Object) : Type 0 where
  pub calls : List Call
  pub replies : List Reply
  pub are : AreCallsOf made calls replies
  pub story : Story
  pub session : IsSession rows cols calls replies n story
  pub logged : story.session ≡ s
  pub view : ViewState
  pub is : w ≡ View view
  pub size : view_size view ≡ size_of_session s
  pub shows : IsShownRight rows cols (shown_of (shown_by view)) (last_read story pieces)

-- A new hub x was taken to y by calls from C, and s is its n-th session. A new view of that session's size reads a
-- prefix of the bytes that the session's client was handed.
abbrev pub ViewsFromCAreShown : Type 0
ViewsFromCAreShown = (rows cols : ℕ) (x y : Object) (made : List (FromC × ℤ)) (ss : List SessionView) (n : ℕ)
    (s : SessionView) (v w : Object) (pieces : List (List ℕ)) (beyond : List ℕ)
    → IsSide rows → IsSide cols → IsNewHubOf rows cols x → HubRuns x [] made y ss → slice_get ss n ≡ Some s
    → IsNewViewOf s.rows s.cols v → ViewReads v pieces w → concat pieces ++ beyond ≡ s.pumped
    → ShowsLastFrame rows cols made n s pieces w
