-- What a terminal shows that begins with a redraw.
use Rattle.std.specs.Prelude.{◌≡◌, ℕ, false, List, [], ◌∷◌, ◌++◌, length, Option, Some, None, drop, slice_get, Ok}
use Rattle.std.specs.Option.{option_map}
use Rattle.std.specs.List.{concat}
use Rattle.terminal_model.specs.Term.{shown_of}
use Rattle.termview.specs.Seen.{seen}
use Rattle.termrelay.specs.Redraw.{redraw_of}
use Rattle.termrelay.specs.Hub.{HubState}
use Rattle.termrelay.specs.Calls.{Call, Redraw}
use Rattle.termrelay.specs.Log.{LogView, SessionView}
use Rattle.termrelay.specs.declared.runs.call.Reply.{Reply}
use Rattle.termrelay.specs.declared.runs.call.Reply.TheVariants.{Redrawn}
use Rattle.termrelay.specs.Joins.{Redraws}
use Rattle.relay_theorem.specs.History.{Entry, Story, size_of_session, size_of_story, as_reported, RunsReported}
use Rattle.relay_theorem.specs.Judge.{texts, last_frame, whole_in, last_whole, IsShownRight}
use Rattle.relay_theorem.specs.Laws.{base_after, IsSession}
use Rattle.relay_theorem.specs.Headline.{ReadsPrefix}
use Rattle.relay_theorem.specs.Logged.{IsLogged, HasStory}

-- the redraw after a session's first answers; none if it is too long
abbrev pub redraw_after : ℕ → ℕ → Story → List Entry → Option (List ℕ)
redraw_after rows cols t first = redraw_of (size_of_story t) (base_after rows cols None first)

-- a redraw counts as the last frame before it, with its own text
abbrev pub redrawn : List ℕ → Option Entry → List Entry
redrawn redraw None = []
redrawn redraw (Some e) = record e { text = redraw } ∷ []

-- what is read: the redraw after the first answers, and then the later frames
abbrev pub redrawn_then : List ℕ → List Entry → List Entry → List Entry
redrawn_then redraw first later = redrawn redraw (last_frame None first) ++ later

-- A new view has read these pieces, and has parsed `parsed`. They are a prefix of the redraw after a session's first
-- answers, and of the texts of its later frames.
pub record ReadsRedraw (rows cols : ℕ) (t : Story) (redraw : List ℕ) (first later : List Entry)
    (pieces : List (List ℕ)) (parsed : List ℕ) : Type 0 where
  pub parts : t.entries ≡ first ++ later
  pub made : redraw_after rows cols t first ≡ Some redraw
  pub reads : ReadsPrefix (redraw ++ texts later) pieces parsed

-- the last frame that lies wholly in the pieces, the redraw counting as one
abbrev pub last_redrawn : List ℕ → List Entry → List Entry → List (List ℕ) → Option Entry
last_redrawn redraw first later pieces =
    last_whole None (redrawn_then redraw first later) (length (concat pieces))

-- ---- laws

-- A view of the session's size reads a redraw, and then later frames, in any pieces. It shows the screen at the moment
-- of the last whole frame, unless that screen had U+FE0F.
abbrev pub RedrawnFramesAreShown : Type 0
RedrawnFramesAreShown = (rows cols : ℕ) (calls : List Call) (replies : List Reply) (n : ℕ) (t : Story) (redraw : List ℕ)
    (first later : List Entry) (pieces : List (List ℕ)) (parsed : List ℕ) → IsSession rows cols calls replies n t
    → ReadsRedraw rows cols t redraw first later pieces parsed
    → IsShownRight rows cols (shown_of (seen (size_of_story t) parsed)) (last_redrawn redraw first later pieces)

-- A view that reads more bytes, but no further whole frame, still shows the same, also if the last whole frame had
-- U+FE0F.
abbrev pub NoRedrawIsTorn : Type 0
NoRedrawIsTorn = (rows cols : ℕ) (calls : List Call) (replies : List Reply) (n : ℕ) (t : Story) (redraw : List ℕ)
    (first later : List Entry) (pieces more : List (List ℕ)) (parsed parsed' : List ℕ)
    → IsSession rows cols calls replies n t
    → ReadsRedraw rows cols t redraw first later pieces parsed
    → ReadsRedraw rows cols t redraw first later (pieces ++ more) parsed'
    → whole_in (redrawn_then redraw first later) (length (concat (pieces ++ more)))
    ≡ whole_in (redrawn_then redraw first later) (length (concat pieces))
    → shown_of (seen (size_of_story t) parsed') ≡ shown_of (seen (size_of_story t) parsed)

-- the redraw that a hub gives on request is the redraw after all answers to the client's session so far
abbrev pub EachRedrawIsReported : Type 0
EachRedrawIsReported = (rows cols : ℕ) (calls : List Call) (replies : List Reply) (n : ℕ) (t : Story)
    → (s : IsSession rows cols calls replies n t) → t.session.ended ≡ false
    → (text : Option (List ℕ)) → Redraws s.hub t.session.client (Ok text)
    → text ≡ redraw_after rows cols t t.entries

-- a session's later answers come after its earlier ones, whatever calls come later
pub record GrowsTo (t u : Story) : Type 0 where
  pub later : List Entry
  pub entries : u.entries ≡ t.entries ++ later
  pub size : size_of_story u ≡ size_of_story t

abbrev pub EachStoryGrows : Type 0
EachStoryGrows = (h k : HubState as_reported) (ts us : List Story) (calls : List Call) (replies : List Reply) (n : ℕ)
    (t : Story) → RunsReported h ts calls replies k us → slice_get ts n ≡ Some t
    → (u : Story) × (slice_get us n ≡ Some u) × GrowsTo t u

-- ---- redraws of a run

-- the reply brings this redraw
abbrev pub IsRedraw : List ℕ → Reply → Type 0
IsRedraw redraw (Redrawn text) = option_map (λ bytes. bytes.items) text ≡ Some redraw
IsRedraw redraw reply = ⊥

-- Among these calls is a request for a redraw of the client of the n-th session, which had the story t then and hadn't
-- ended. The reply is this redraw.
pub record RedrawnIn (rows cols : ℕ) (calls : List Call) (replies : List Reply) (n : ℕ) (t : Story) (redraw : List ℕ)
    : Type 0 where
  pub before : List Call
  pub later : List Call
  pub calls_are : calls ≡ before ++ Redraw t.session.client ∷ later
  pub replied : List Reply
  pub reply : Reply
  pub others : List Reply
  pub replies_are : replies ≡ replied ++ reply ∷ others
  pub told : IsRedraw redraw reply
  pub session : IsSession rows cols before replied n t
  pub live : t.session.ended ≡ false

-- the redraw is the one after the session's answers before it, and the session's further answers come after these
abbrev pub EachRunRedraws : Type 0
EachRunRedraws = (rows cols : ℕ) (calls : List Call) (replies : List Reply) (n : ℕ) (t u : Story) (redraw : List ℕ)
    → RedrawnIn rows cols calls replies n t redraw → IsSession rows cols calls replies n u
    → (redraw_after rows cols t t.entries ≡ Some redraw) × GrowsTo t u

-- The same for a log. A view of the session's size reads a redraw that a call of the run was answered with, and then
-- the bytes that were pumped to the session later, in any pieces. Bytes that were still pending at that call aren't
-- among them.
abbrev pub LoggedRedrawsAreShown : Type 0
LoggedRedrawsAreShown = (rows cols : ℕ) (calls : List Call) (l : LogView) (n : ℕ) (s : SessionView) (t : Story)
    (redraw : List ℕ) (pieces : List (List ℕ)) (parsed : List ℕ) → IsLogged rows cols calls l n s
    → RedrawnIn rows cols calls l.replies n t redraw
    → ReadsPrefix (redraw ++ drop (length (texts t.entries)) s.pumped) pieces parsed
    → (u : Story) × HasStory rows cols calls l n s u × ((later : List Entry) × (u.entries ≡ t.entries ++ later)
    × IsShownRight rows cols (shown_of (seen (size_of_session s) parsed)) (last_redrawn redraw t.entries later pieces))
