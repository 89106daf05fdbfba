-- A far terminal shows what it should, judged by the history.
use Rattle.std.specs.Prelude.{◌≡◌, ℕ, suc, true, List, [], ◌∷◌, ◌++◌, Option, Some, None, map, length}
use Rattle.std.specs.List.{AllByRecursion, concat}
use Rattle.vte.specs.Moves.{Move, Gives, given}
use Rattle.vte.specs.Frames.{IsFrame, Drives}
use Rattle.terminal_model.specs.Term.{shown_of}
use Rattle.screen_model.specs.Made.{Act, Fed, Resized, bytes_fed}
use Rattle.termrelay.specs.Answers.{is_frame}
use Rattle.termrelay.specs.declared.answer.Answer.TheVariants.{Unsure}
use Rattle.termview.specs.Seen.{seen}
use Rattle.termrelay.specs.Calls.{Call}
use Rattle.termrelay.specs.declared.runs.call.Reply.{Reply}
use Rattle.relay_theorem.specs.History.{Entry, Story, size_of_story}
use Rattle.relay_theorem.specs.Judge.{texts, last_frame, whole_in, last_whole, IsShownRight}
use Rattle.relay_theorem.specs.Laws.{IsSession}

-- the text of each frame of a session is read as one frame
abbrev pub EachTextIsAFrame : Type 0
EachTextIsAFrame = (rows cols : ℕ) (calls : List Call) (replies : List Reply) (n : ℕ) (t : Story)
    → IsSession rows cols calls replies n t
    → AllByRecursion (λ e. is_frame e.answer ≡ true → IsFrame e.text) t.entries

-- A new view has read the texts of a story's first entries `prefix`, in any pieces and wherever `stop_sync` was called.
-- It has parsed `parsed` and buffered `hold`.
pub record ReadsFrames (t : Story) (prefix : List Entry) (parsed : List ℕ) (hold : Option (List ℕ)) : Type 0 where
  pub back : List Entry
  pub parts : t.entries ≡ prefix ++ back
  pub moves : List Move
  pub given : given moves ≡ texts prefix
  pub leads : Drives moves [] None parsed hold

-- A view of the session's size shows the screen at the last frame's moment, unless that screen had U+FE0F. It has
-- buffered nothing.
abbrev pub WholeSessionsAreShown : Type 0
WholeSessionsAreShown = (rows cols : ℕ) (calls : List Call) (replies : List Reply) (n : ℕ) (t : Story)
    (prefix : List Entry) (parsed : List ℕ) (hold : Option (List ℕ)) → IsSession rows cols calls replies n t
    → ReadsFrames t prefix parsed hold
    → (hold ≡ None) × IsShownRight rows cols (shown_of (seen (size_of_story t) parsed)) (last_frame None prefix)

-- A new view has read these pieces, which are a prefix of `bytes`, and has parsed `parsed`.
pub record ReadsPrefix (bytes : List ℕ) (pieces : List (List ℕ)) (parsed : List ℕ) : Type 0 where
  pub beyond : List ℕ
  pub joined : concat pieces ++ beyond ≡ bytes
  pub hold : Option (List ℕ)
  pub leads : Drives (map Gives pieces) [] None parsed hold

-- the last frame that lies wholly in the pieces
abbrev pub last_read : Story → List (List ℕ) → Option Entry
last_read t pieces = last_whole None t.entries (length (concat pieces))

-- A view of a session's size reads the bytes pumped to it in any pieces. It shows the screen at the moment of the last
-- whole frame, unless that screen had U+FE0F.
abbrev pub LastWholeFrameIsShown : Type 0
LastWholeFrameIsShown = (rows cols : ℕ) (calls : List Call) (replies : List Reply) (n : ℕ) (t : Story)
    (pieces : List (List ℕ)) (parsed : List ℕ) → IsSession rows cols calls replies n t
    → ReadsPrefix t.session.pumped pieces parsed
    → IsShownRight rows cols (shown_of (seen (size_of_story t) parsed)) (last_read t pieces)

-- the entries that lie wholly in the pieces
abbrev pub whole_read : Story → List (List ℕ) → List Entry
whole_read t pieces = whole_in t.entries (length (concat pieces))

-- A view that reads more bytes, but no further whole frame, still shows the same, also if the last whole frame had
-- U+FE0F.
abbrev pub NoSessionIsTorn : Type 0
NoSessionIsTorn = (rows cols : ℕ) (calls : List Call) (replies : List Reply) (n : ℕ) (t : Story)
    (pieces more : List (List ℕ)) (parsed parsed' : List ℕ) → IsSession rows cols calls replies n t
    → ReadsPrefix t.session.pumped pieces parsed → ReadsPrefix t.session.pumped (pieces ++ more) parsed'
    → whole_read t (pieces ++ more) ≡ whole_read t pieces
    → shown_of (seen (size_of_story t) parsed') ≡ shown_of (seen (size_of_story t) parsed)

-- how many resizes were made
abbrev pub resizes_made : List Act → ℕ
resizes_made [] = 0
resizes_made (Fed bytes ∷ acts) = resizes_made acts
resizes_made (Resized rows cols ∷ acts) = suc (resizes_made acts)

-- Two answers of one run were given at one moment: before both, equally many bytes were fed and equally many resizes
-- made. A feed of no bytes doesn't make another moment.
pub record AreAtOneMoment (e f : Entry) : Type 0 where
  pub fed : length (bytes_fed e.moment) ≡ length (bytes_fed f.moment)
  pub resized : resizes_made e.moment ≡ resizes_made f.moment

-- Views of two sessions show the same if their last whole frames were requested at one moment.
abbrev pub OneMomentShowsTheSame : Type 0
OneMomentShowsTheSame = (rows cols : ℕ) (calls : List Call) (replies : List Reply) (n m : ℕ) (t u : Story)
    (pieces others : List (List ℕ)) (parsed parsed' : List ℕ) (e f : Entry)
    → IsSession rows cols calls replies n t → IsSession rows cols calls replies m u
    → ReadsPrefix t.session.pumped pieces parsed → ReadsPrefix u.session.pumped others parsed'
    → last_read t pieces ≡ Some e → last_read u others ≡ Some f → AreAtOneMoment e f
    → (e.answer ≡ Unsure → ⊥) → (f.answer ≡ Unsure → ⊥)
    → (size_of_story t ≡ size_of_story u)
    × (shown_of (seen (size_of_story t) parsed) ≡ shown_of (seen (size_of_story u) parsed'))

-- The same holds for views that have read only whole frames, wherever `stop_sync` was called.
abbrev pub OneMomentShowsTheSameWhole : Type 0
OneMomentShowsTheSameWhole = (rows cols : ℕ) (calls : List Call) (replies : List Reply) (n m : ℕ) (t u : Story)
    (prefix others : List Entry) (parsed parsed' : List ℕ) (hold hold' : Option (List ℕ)) (e f : Entry)
    → IsSession rows cols calls replies n t → IsSession rows cols calls replies m u
    → ReadsFrames t prefix parsed hold → ReadsFrames u others parsed' hold'
    → last_frame None prefix ≡ Some e → last_frame None others ≡ Some f → AreAtOneMoment e f
    → (e.answer ≡ Unsure → ⊥) → (f.answer ≡ Unsure → ⊥)
    → (size_of_story t ≡ size_of_story u)
    × (shown_of (seen (size_of_story t) parsed) ≡ shown_of (seen (size_of_story u) parsed'))
