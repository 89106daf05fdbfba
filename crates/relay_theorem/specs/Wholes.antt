-- What a terminal shows that reads a whole frame, whatever it has read before.
use Rattle.std.specs.Prelude.{◌≡◌, ℕ, ◌≤◌, false, List, ◌++◌, map, length, Option, Some, None, Result, Ok}
use Rattle.std.specs.List.{concat}
use Rattle.vte_core.specs.Ground.{AtGround}
use Rattle.vte.specs.Moves.{Gives}
use Rattle.vte.specs.Frames.{Drives}
use Rattle.terminal_model.specs.Term.{shown_of}
use Rattle.termview.specs.Seen.{seen}
use Rattle.termrelay.specs.Whole.{whole_of}
use Rattle.termrelay.specs.Hub.{HubState, as_kept}
use Rattle.termrelay.specs.Joins.{DrawsWhole}
use Rattle.termrelay.specs.Calls.{Call}
use Rattle.termrelay.specs.declared.runs.call.Reply.{Reply}
use Rattle.termrelay.specs.declared.error.HubError.{HubError}
use Rattle.relay_theorem.specs.History.{Entry, Story, size_of_story, as_reported}
use Rattle.relay_theorem.specs.Judge.{texts, whole_in, IsShownRight}
use Rattle.relay_theorem.specs.Laws.{base_after, IsSession}
use Rattle.relay_theorem.specs.Serves.{Matches}
use Rattle.relay_theorem.specs.Redraws.{redrawn_then, last_redrawn}

-- the whole frame after a session's first answers; none before its first frame, and none if it is too long
abbrev pub whole_after : ℕ → ℕ → Story → List Entry → Option (List ℕ)
whole_after rows cols t first = whole_of (size_of_story t) (base_after rows cols None first)

-- A view that has parsed `past`, and buffered nothing, reads these pieces. It has then parsed `parsed`. They are a
-- prefix of the whole frame after a session's first answers, and of the texts of its later frames.
pub record ReadsWhole (rows cols : ℕ) (past : List ℕ) (t : Story) (whole : List ℕ) (first later : List Entry)
    (pieces : List (List ℕ)) (parsed : List ℕ) : Type 0 where
  pub parts : t.entries ≡ first ++ later
  pub made : whole_after rows cols t first ≡ Some whole
  pub beyond : List ℕ
  pub joined : concat pieces ++ beyond ≡ whole ++ texts later
  pub hold : Option (List ℕ)
  pub leads : Drives (map Gives pieces) past None parsed hold

-- ---- laws

-- Whatever a view of the session's size has read, if nothing is unfinished: once it has read the whole frame, it shows
-- the screen at the moment of the last whole one, unless that screen had U+FE0F. The whole frame counts as the last
-- frame before it.
abbrev pub WholeFramesLeadFromAnything : Type 0
WholeFramesLeadFromAnything = (rows cols : ℕ) (calls : List Call) (replies : List Reply) (n : ℕ) (past : List ℕ)
    (t : Story) (whole : List ℕ) (first later : List Entry) (pieces : List (List ℕ)) (parsed : List ℕ)
    → IsSession rows cols calls replies n t
    → AtGround 1024 past → ReadsWhole rows cols past t whole first later pieces parsed
    → length whole ≤ length (concat pieces)
    → IsShownRight rows cols (shown_of (seen (size_of_story t) parsed)) (last_redrawn whole first later pieces)

-- A view that reads more bytes, but no further whole frame, still shows the same. Before the whole frame has come
-- wholly, that is what it showed before it.
abbrev pub NoWholeFrameIsTorn : Type 0
NoWholeFrameIsTorn = (rows cols : ℕ) (calls : List Call) (replies : List Reply) (n : ℕ) (past : List ℕ) (t : Story)
    (whole : List ℕ) (first later : List Entry) (pieces more : List (List ℕ)) (parsed parsed' : List ℕ)
    → IsSession rows cols calls replies n t → AtGround 1024 past
    → ReadsWhole rows cols past t whole first later pieces parsed
    → ReadsWhole rows cols past t whole first later (pieces ++ more) parsed'
    → whole_in (redrawn_then whole first later) (length (concat (pieces ++ more)))
    ≡ whole_in (redrawn_then whole first later) (length (concat pieces))
    → shown_of (seen (size_of_story t) parsed') ≡ shown_of (seen (size_of_story t) parsed)

-- whole frames of any session leave nothing unfinished
abbrev pub EachFrameEndsAtGround : Type 0
EachFrameEndsAtGround = (rows cols : ℕ) (calls : List Call) (replies : List Reply) (n : ℕ) (t : Story)
    (prefix back : List Entry) → IsSession rows cols calls replies n t → t.entries ≡ prefix ++ back
    → AtGround 1024 (texts prefix)

-- the whole frame that a hub gives on request is the one after all answers to the client's session so far
abbrev pub EachWholeIsReported : Type 0
EachWholeIsReported = (rows cols : ℕ) (calls : List Call) (replies : List Reply) (n : ℕ) (t : Story)
    → (s : IsSession rows cols calls replies n t) → t.session.ended ≡ false
    → (text : Option (List ℕ)) → DrawsWhole s.hub t.session.client (Ok text)
    → text ≡ whole_after rows cols t t.entries

-- a hub and its history are asked for the same whole frames
abbrev pub EachWholeMatches : Type 0
EachWholeMatches = (h : HubState as_kept) (u : HubState as_reported) (key : ℕ)
    (result : Result (Option (List ℕ)) HubError) → Matches h u → DrawsWhole h key result → DrawsWhole u key result
