-- A short history, and which frame a far terminal should show.
use Rattle.std.specs.Prelude.{◌≡◌, ℕ, List, [], ◌∷◌, codes, length, map, Option, Some, None}
use Rattle.std.specs.declared.io.Error.{Error}
use Rattle.screen_model.specs.Made.{Fed, Resized}
use Rattle.termrelay.specs.declared.answer.Answer.{Answer}
use Rattle.termrelay.specs.declared.answer.Answer.TheVariants.{Full, Unchanged, Behind}
use Rattle.termrelay.specs.declared.runs.call.Take.TheVariants.{Bytes, Fault}
use Rattle.termrelay.specs.declared.runs.call.Reply.{Reply}
use Rattle.termrelay.specs.declared.runs.call.Reply.TheVariants.{Done, Attached, Answered, Refused}
use Rattle.termrelay.specs.declared.error.HubError.TheVariants.{UnknownClient, Write}
use Rattle.termrelay.specs.Calls.{Call, Feed, Resize, Attach, Frame, Pump}
use Rattle.termrelay.specs.Hub.{HubState}
use Rattle.relay_theorem.specs.History.{as_reported, Entry, Story, fresh, RunsReported}
use Rattle.relay_theorem.specs.Judge.{last_whole}

-- On a screen of one row and two columns, a frame of an `a` waits for a client. Its writer takes 10 bytes and fails,
-- and later takes the rest. Then the client ends by a resize.
abbrev pub calls : List Call
calls =
    Attach ∷ Feed (codes "a") ∷ Frame 0 ∷ Pump 0 (Bytes 10 ∷ Fault ∷ []) ∷ Frame 0 ∷ Pump 0 [] ∷ Frame 0 ∷ Resize 1 2
    ∷ Frame 0 ∷ []

-- the replies to these calls, if the writer fails with this error
abbrev pub replies : Error → List Reply
replies e =
    Attached 0 ∷ Done ∷ Answered Full ∷ Refused (Write e) ∷ Answered Behind ∷ Done ∷ Answered Unchanged ∷ Done
    ∷ Refused UnknownClient ∷ []

abbrev pub entries_of_all : List Story → List Entry
entries_of_all [] = []
entries_of_all (t ∷ ts) = t.entries

abbrev pub pumped_of_all : List Story → List ℕ
pumped_of_all [] = []
pumped_of_all (t ∷ ts) = t.session.pumped

abbrev pub answer_in : Option Entry → List Answer
answer_in None = []
answer_in (Some e) = e.answer ∷ []

-- the history, if the writer fails with this error
pub record ExampleIsReported (e : Error) : Type 0 where
  pub hub : HubState as_reported
  pub stories : List Story
  pub runs : RunsReported (fresh 1 2) [] calls (replies e) hub stories
  pub acts : hub.parser.acts ≡ Fed (codes "a") ∷ Resized 1 2 ∷ []
  pub answers : map (λ x. x.answer) (entries_of_all stories) ≡ Full ∷ Behind ∷ Unchanged ∷ []
  pub pumped : length (pumped_of_all stories) ≡ 47
  -- the frame lies wholly in its 47 bytes, and not in 46
  pub torn : answer_in (last_whole None (entries_of_all stories) 46) ≡ []
  pub whole : answer_in (last_whole None (entries_of_all stories) 47) ≡ Full ∷ []

-- this is the history for any error of the writer
abbrev pub EachExampleIsReported : Type 0
EachExampleIsReported = (e : Error) → ExampleIsReported e
