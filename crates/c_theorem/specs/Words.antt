-- Calls from C on words: what they do to the objects in them.
use Rattle.std.specs.Prelude.{◌≡◌, ℕ, ℤ, List, [], ◌∷◌, ◌++◌, Option, None, Some, slice_get}
use Rattle.std.specs.List.{concat}
use Rattle.vte.specs.Moves.{Move, Gives, Stops}
use Rattle.screen_model.specs.Holds.{IsSide}
use Rattle.termrelay.specs.Log.{SessionView}
use Rattle.c_objects.specs.Hubs.{IsNewHubOf}
use Rattle.c_objects.specs.Objects.{HubDoes, ViewDoes}
use Rattle.c_objects.specs.Runs.{FromC, IsFromC, Does}
use Rattle.c_objects.specs.Views as view
use Rattle.c_objects.specs.Views.{IsNewViewOf, Advances}
use Rattle.c_objects.specs.Words.{OnWord}
use Rattle.c_objects.specs.declared.object.Object.{Object}
use Rattle.c_theorem.specs.Shown.{handed, HubRuns, ShowsLastFrame, ViewReads}
use Rattle.c_theorem.specs.Companions.{ViewMoves}

-- the sessions after a call on a word; a null word has none
abbrev pub handed_in : Option Object → FromC → ℤ → List SessionView → List SessionView
handed_in None call code ss = ss
handed_in (Some x) call code ss = handed x call code ss

-- calls on a word that may hold a hub, one after another, with the numbers that they return
abbrev pub WordRuns : Option Object → List SessionView → List (FromC × ℤ) → Option Object → List SessionView → Type 0
WordRuns x ss [] y ts = (y ≡ x) × (ts ≡ ss)
WordRuns x ss ((call, code) ∷ made) y ts =
    (z : Option Object) × IsFromC call × OnWord (HubDoes (Does call)) x code z
    × WordRuns z (handed_in x call code ss) made y ts

-- a word that may hold a view reads these pieces, one after another
abbrev pub WordReads : Option Object → List (List ℕ) → Option Object → Type 0
WordReads v [] w = w ≡ v
WordReads v (piece ∷ pieces) w =
    (u : Option Object) × (code : ℤ) × OnWord (ViewDoes (Advances piece)) v code u × WordReads u pieces w

-- and may also be stopped by hand
abbrev pub WordMoves : Option Object → List Move → Option Object → Type 0
WordMoves v [] w = w ≡ v
WordMoves v (Gives piece ∷ moves) w =
    (u : Option Object) × (code : ℤ) × OnWord (ViewDoes (Advances piece)) v code u × WordMoves u moves w
WordMoves v (Stops ∷ moves) w =
    (u : Option Object) × (code : ℤ) × OnWord (ViewDoes view.Stops) v code u × WordMoves u moves w

-- What is done to a word that holds an object is done to the object, and the word still holds one. So the laws on
-- objects are laws on words.
pub record WordsAreObjects : Type 0 where
  pub runs : (x : Object) (ss ts : List SessionView) (made : List (FromC × ℤ)) (w : Option Object)
      → WordRuns (Some x) ss made w ts → (y : Object) × (w ≡ Some y) × HubRuns x ss made y ts
  pub reads : (v : Object) (pieces : List (List ℕ)) (w : Option Object) → WordReads (Some v) pieces w
      → (y : Object) × (w ≡ Some y) × ViewReads v pieces y
  pub moves : (v : Object) (moves : List Move) (w : Option Object) → WordMoves (Some v) moves w
      → (y : Object) × (w ≡ Some y) × ViewMoves v moves y

-- the promise, for words
abbrev pub ViewsInWordsAreShown : Type 0
ViewsInWordsAreShown = (rows cols : ℕ) (x v : Object) (y w : Option Object) (made : List (FromC × ℤ))
    (ss : List SessionView) (n : ℕ) (s : SessionView) (pieces : List (List ℕ)) (beyond : List ℕ)
    → IsSide rows → IsSide cols → IsNewHubOf rows cols x → WordRuns (Some x) [] made y ss → slice_get ss n ≡ Some s
    → IsNewViewOf s.rows s.cols v → WordReads (Some v) pieces w → concat pieces ++ beyond ≡ s.pumped
    → (o : Object) × (w ≡ Some o) × ShowsLastFrame rows cols made n s pieces o
