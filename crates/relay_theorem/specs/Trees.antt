-- What a screen shows that is fed the frames of a session, and the clients of a hub with that screen.
use Rattle.std.specs.Prelude.{◌≡◌, ℕ, false, List, [], ◌++◌, length, Option, Some, None}
use Rattle.terminal_model.specs.Term.{shown_of}
use Rattle.screen_model.specs.State.{State}
use Rattle.screen_model.specs.Shown.{shown_state}
use Rattle.screen_model.specs.Made.{Act, bytes_fed, made}
use Rattle.termview.specs.Seen.{seen}
use Rattle.termrelay.specs.Hub.{HubState, screen_in, shown_in}
use Rattle.termrelay.specs.Calls.{Call, Runs}
use Rattle.termrelay.specs.declared.runs.call.Reply.{Reply}
use Rattle.relay_theorem.specs.History.{as_reported, fresh, Entry, Story, size_of_story}
use Rattle.relay_theorem.specs.Judge.{last_whole, IsShownRight}
use Rattle.relay_theorem.specs.Laws.{IsSession}
use Rattle.relay_theorem.specs.Headline.{ReadsPrefix, last_read, resizes_made}

-- A prefix of these bytes was fed, in any pieces, and the screen wasn't resized.
pub record AreFedFrom (bytes : List ℕ) (acts : List Act) : Type 0 where
  pub beyond : List ℕ
  pub fed : bytes_fed acts ++ beyond ≡ bytes
  pub sized : resizes_made acts ≡ 0

-- the session's last frame that lies wholly in what was fed
abbrev pub last_fed : Story → List Act → Option Entry
last_fed t acts = last_whole None t.entries (length (bytes_fed acts))

-- what was fed and resized before a request; nothing without a request
abbrev pub acts_at : Option Entry → List Act
acts_at None = []
acts_at (Some e) = e.moment

-- a screen of the session's size after these acts
abbrev pub screen_fed : Story → List Act → State
screen_fed t acts = made t.session.rows t.session.cols 0 acts

-- ---- laws

-- A screen of the session's size is fed a prefix of its bytes. While it is in no synchronized update, it shows the
-- first hub's screen at the moment of the last whole frame, unless that screen had U+FE0F.
abbrev pub EachFedScreenIsRight : Type 0
EachFedScreenIsRight = (rows cols : ℕ) (calls : List Call) (replies : List Reply) (n : ℕ) (t : Story)
    (acts : List Act) → IsSession rows cols calls replies n t → AreFedFrom t.session.pumped acts
    → (screen_fed t acts).updating ≡ false
    → IsShownRight rows cols (shown_state (screen_fed t acts)) (last_fed t acts)

-- The same holds of the screen of a hub after any calls, wherever it isn't held back.
abbrev pub EachFedHubIsRight : Type 0
EachFedHubIsRight = (rows cols : ℕ) (calls others : List Call) (replies answers : List Reply) (n : ℕ) (t : Story)
    (hub : HubState as_reported) → IsSession rows cols calls replies n t
    → Runs (fresh t.session.rows t.session.cols) others answers hub
    → AreFedFrom t.session.pumped hub.parser.acts → (screen_in hub).state.updating ≡ false
    → IsShownRight rows cols (shown_in hub) (last_fed t hub.parser.acts)

-- A second hub of the session's size is fed a prefix of its bytes, and has clients of its own. A view that reads a
-- prefix of what is pumped to one of these, in any pieces, shows what the first hub's screen showed at a whole frame:
-- the last one that the second hub had been fed wholly when it made the last frame that the view has read.
abbrev pub TreesAreShown : Type 0
TreesAreShown = (rows cols : ℕ) (calls others : List Call) (replies answers : List Reply) (n m : ℕ) (t u : Story)
    (pieces : List (List ℕ)) (parsed : List ℕ) → IsSession rows cols calls replies n t
    → (s : IsSession t.session.rows t.session.cols others answers m u)
    → AreFedFrom t.session.pumped s.hub.parser.acts → ReadsPrefix u.session.pumped pieces parsed
    → IsShownRight rows cols (shown_of (seen (size_of_story u) parsed)) (last_fed t (acts_at (last_read u pieces)))
