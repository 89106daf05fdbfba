-- What a far terminal makes of a session of a run.
use Rattle.std.specs.Prelude.{◌≡◌, ℕ, ◌≤◌, false, List, [], ◌++◌, length, take, map, Option, None, Some}
use Rattle.std.specs.List.{list_any, slice_get}
use Rattle.vte.specs.Moves.{Gives}
use Rattle.vte.specs.Frames.{Drives}
use Rattle.terminal_model.specs.Term.{Size, shown_of}
use Rattle.termrelay.specs.Calls.{Call}
use Rattle.termview.specs.Standing.{HoldsAt, view_size, shown_by}
use Rattle.termview.specs.declared.view.View.{View}
use Rattle.termview.specs.declared.until_cleared.UntilCleared.{UntilCleared}
use Rattle.termrelay.specs.Hub.{HubState}
use Rattle.termrelay.specs.Log.{SessionView}
use Rattle.termrelay.specs.declared.runs.call.Reply.{Reply}
use Rattle.relay_theorem.specs.History.{as_reported, Entry, Story, size_of_session, size_of_story, fresh, RunsReported}
use Rattle.relay_theorem.specs.Judge.{texts, last_frame, last_whole, IsShownRight}
use Rattle.relay_theorem.specs.Laws.{IsSession}
use Rattle.relay_theorem.specs.Isolation.{is_out_of_memory}
use Rattle.termview.specs.Timeout.{until_cleared}
use Rattle.relay_streams.specs.Pieces.{cut_by}

-- a view of this size is in the state of a new one that has read these bytes, in pieces of these lengths
pub record HasRead (z : Size) (bytes cuts : List ℕ) (v : View UntilCleared) : Type 0 where
  pub parsed : List ℕ
  pub hold : Option (List ℕ)
  pub leads : Drives (map Gives (cut_by cuts bytes)) [] None parsed hold
  pub holds : HoldsAt until_cleared v parsed hold
  pub size : view_size v ≡ z

-- a view of a session's size is in the state of a new one that has read the first bytes pumped to the session
abbrev pub HasReadFirst : SessionView → ℕ → List ℕ → View UntilCleared → Type 0
HasReadFirst s most cuts v = HasRead (size_of_session s) (take most s.pumped) cuts v

-- there is no n-th session among these, or the view has read its first bytes
abbrev pub FoundIn : List Story → ℕ → ℕ → List ℕ → Option (View UntilCleared) → Type 0
FoundIn ts n most cuts None = length ts ≤ n
FoundIn ts n most cuts (Some v) = (t : Story) × (slice_get ts n ≡ Some t) × HasReadFirst t.session most cuts v

-- A new hub can give such replies to these calls, none of them a refusal for want of memory. The view was found for
-- the n-th of the sessions that the hub then has.
pub record IsFarView (rows cols : ℕ) (calls : List Call) (n most : ℕ) (cuts : List ℕ)
    (found : Option (View UntilCleared)) : Type 0 where
  pub replies : List Reply
  pub hub : HubState as_reported
  pub stories : List Story
  pub ran : RunsReported (fresh rows cols) [] calls replies hub stories
  pub fed : list_any is_out_of_memory replies ≡ false
  pub is : FoundIn stories n most cuts found

-- the last frame that lies wholly in the bytes that the view was given
abbrev pub last_given : Story → ℕ → Option Entry
last_given t most = last_whole None t.entries (length (take most t.session.pumped))

-- A new hub can give such replies to these calls, none of them a refusal for want of memory. The view has the size of
-- the n-th session that the hub then has. It shows what the judge says of the last frame that lies wholly in the
-- bytes that it was given, unless that frame's screen was unsure. If the session's first entries make up these bytes,
-- the same holds of the last frame among them.
pub record ShowsJudged (rows cols : ℕ) (calls : List Call) (n most : ℕ) (v : View UntilCleared) : Type 0 where
  pub replies : List Reply
  pub story : Story
  pub session : IsSession rows cols calls replies n story
  pub fed : list_any is_out_of_memory replies ≡ false
  pub size : view_size v ≡ size_of_story story
  pub shows : IsShownRight rows cols (shown_of (shown_by v)) (last_given story most)
  pub whole : (prefix back : List Entry) → story.entries ≡ prefix ++ back → take most story.session.pumped
      ≡ texts prefix
      → IsShownRight rows cols (shown_of (shown_by v)) (last_frame None prefix)

-- such a view shows what the judge says of the last frame that lies wholly in the bytes that it was given, unless
-- that frame's screen was unsure
abbrev pub FarViewsShow : Type 0
FarViewsShow = (rows cols : ℕ) (calls : List Call) (replies : List Reply) (n most : ℕ) (cuts : List ℕ) (t : Story)
    (v : View UntilCleared) → IsSession rows cols calls replies n t → HasReadFirst t.session most cuts v
    → IsShownRight rows cols (shown_of (shown_by v)) (last_given t most)
