-- What a far terminal shows of a log's session.
use Rattle.std.specs.Prelude.{◌≡◌, ℕ, List, Option, Some, None, slice_get}
use Rattle.terminal_model.specs.Term.{shown_of}
use Rattle.screen_model.specs.Holds.{IsSide}
use Rattle.termrelay.specs.Hub.{HubState, as_kept, IsNewHub}
use Rattle.termrelay.specs.Calls.{Call}
use Rattle.termrelay.specs.Log.{SessionView, LogView, empty_log, MadeAll}
use Rattle.termview.specs.Seen.{seen}
use Rattle.relay_theorem.specs.History.{Entry, Story, size_of_session}
use Rattle.relay_theorem.specs.Judge.{last_frame, IsShownRight}
use Rattle.relay_theorem.specs.Laws.{IsSession}
use Rattle.relay_theorem.specs.Headline.{ReadsFrames, ReadsPrefix, last_read}

-- a run of these calls on a new hub with an empty log has left the log l, whose n-th session is s
pub record IsLogged (rows cols : ℕ) (calls : List Call) (l : LogView) (n : ℕ) (s : SessionView) : Type 0 where
  pub height : IsSide rows
  pub width : IsSide cols
  pub hub : HubState as_kept
  pub new : IsNewHub rows cols hub
  pub after : HubState as_kept
  pub ran : MadeAll hub empty_log calls after l
  pub is : slice_get l.sessions n ≡ Some s

-- the story of a log's session, in the history of the calls and the log's replies
pub record HasStory (rows cols : ℕ) (calls : List Call) (l : LogView) (n : ℕ) (s : SessionView) (t : Story)
    : Type 0 where
  pub session : IsSession rows cols calls l.replies n t
  pub logged : t.session ≡ s

-- A view that reads a prefix of the session's bytes reads the same prefix of the bytes of its story.
abbrev pub EachLoggedReadIsARead : Type 0
EachLoggedReadIsARead = (rows cols : ℕ) (calls : List Call) (l : LogView) (n : ℕ) (s : SessionView)
    (pieces : List (List ℕ)) (parsed : List ℕ) → IsLogged rows cols calls l n s → ReadsPrefix s.pumped pieces parsed
    → (t : Story) × HasStory rows cols calls l n s t × ReadsPrefix t.session.pumped pieces parsed

-- A view of the session's size shows the screen at the moment of the last frame that lies wholly in the pieces, unless
-- that screen had U+FE0F.
abbrev pub LoggedFramesAreShown : Type 0
LoggedFramesAreShown = (rows cols : ℕ) (calls : List Call) (l : LogView) (n : ℕ) (s : SessionView)
    (pieces : List (List ℕ)) (parsed : List ℕ) → IsLogged rows cols calls l n s → ReadsPrefix s.pumped pieces parsed
    → (t : Story) × HasStory rows cols calls l n s t
    × IsShownRight rows cols (shown_of (seen (size_of_session s) parsed)) (last_read t pieces)

-- A view that has read whole frames shows the screen at the last one's moment, unless that screen had U+FE0F, and has
-- buffered nothing.
abbrev pub WholeLoggedFramesAreShown : Type 0
WholeLoggedFramesAreShown = (rows cols : ℕ) (calls : List Call) (l : LogView) (n : ℕ) (s : SessionView)
    → IsLogged rows cols calls l n s → (t : Story) × HasStory rows cols calls l n s t
    × ((prefix : List Entry) (parsed : List ℕ) (hold : Option (List ℕ)) → ReadsFrames t prefix parsed hold
    → (hold ≡ None) × IsShownRight rows cols (shown_of (seen (size_of_session s) parsed)) (last_frame None prefix))
