-- Laws of what events and acts make of a screen.
use Rattle.std.specs.Prelude.{◌≡◌, ℕ, false, List, [], ◌∷◌, ◌++◌}
use Rattle.vte_core.specs.Event.{Event}
use Rattle.screen_model.specs.State.{State}
use Rattle.screen_model.specs.Call.{ScreenView}
use Rattle.screen_model.specs.Step.{resized_to}
use Rattle.screen_model.specs.Made.{Act, Fed, Resized, played, events_added, bytes_fed, made_on, made}
use Rattle.vt100.specs.Tries.{alive}
use Rattle.vt100.specs.Goes.{GoesThrough}
use Rattle.vt100.specs.Parsing.{ParserView, ParserIsAfter}

-- the callbacks that do nothing
abbrev pub GoesAlone : List Event → ScreenView → ScreenView → Type 0
GoesAlone es v w = GoesThrough {C = Unit {0}} (λ c x k d y. x ≡ y) (λ c r a d. c ≡ d) es tt v tt w

-- with them a screen that doesn't fail plays the events
abbrev pub PlaysEvents : Type 0
PlaysEvents = (es : List Event) (s : State) (w : ScreenView) → GoesAlone es (alive s) w → w.failed ≡ false
    → w ≡ alive (played es s)

-- and a screen that was fed bytes, in whatever pieces, is what the joined bytes make
abbrev pub FeedsMake : Type 0
FeedsMake = (past bytes : List ℕ) (s : State) (w : ScreenView) → GoesAlone (events_added past bytes) (alive s) w
    → w.failed ≡ false → w ≡ alive (made_on past s (Fed bytes ∷ []))

-- two feeds are one feed of the joined bytes
abbrev pub FeedsJoin : Type 0
FeedsJoin = (past : List ℕ) (s : State) (a b : List ℕ) (acts : List Act)
    → made_on past s (Fed a ∷ Fed b ∷ acts) ≡ made_on past s (Fed (a ++ b) ∷ acts)

-- feeding nothing changes nothing
abbrev pub FeedsNothing : Type 0
FeedsNothing = (past : List ℕ) (s : State) (acts : List Act) → made_on past s (Fed [] ∷ acts) ≡ made_on past s acts

-- acts after acts go on where these end
abbrev pub ActsFollow : Type 0
ActsFollow = (rows cols capacity : ℕ) (acts more : List Act)
    → made rows cols capacity (acts ++ more) ≡ made_on (bytes_fed acts) (made rows cols capacity acts) more

-- a parser into which its screen at another size is put is as a resize of its own would have left it: a sequence
-- or a character that its bytes leave unfinished goes on
abbrev pub ResizedScreensArePutIn : Type 0
ResizedScreensArePutIn = (p : ParserView (Unit {0})) (w : ScreenView) (height width rows cols capacity : ℕ)
    (acts : List Act) → ParserIsAfter p rows cols capacity acts
    → w ≡ alive (resized_to height width p.screen.state).state
    → ParserIsAfter (record p { screen = w }) rows cols capacity (acts ++ Resized height width ∷ [])
