-- Laws of what a view shows.
use Rattle.std.specs.Prelude.{◌≡◌, ℕ, ◌<◌, ◌≤◌, List, ◌++◌, Option, None, map, take, length}
use Rattle.std.specs.List.{All, AllByRecursion, concat}
use Rattle.vte_core.specs.Shapes.{events}
use Rattle.vte_core.specs.Ground.{AtGround}
use Rattle.vte_types.specs.Call.{Call}
use Rattle.vte.specs.Performed.{calls_of_all}
use Rattle.vte.specs.Stretch.{last_of, calls_from}
use Rattle.vte.specs.Marks.{start_mark, end_mark}
use Rattle.vte.specs.Hold.{limit}
use Rattle.vte.specs.Moves.{Move, Gives, given}
use Rattle.vte.specs.Frames.{IsFrame, IsPrefix, Drives}
use Rattle.vt100_forms.specs.Form.{Form, bytes_of}
use Rattle.terminal_model.specs.Term.{Size, Term, IsTerm}
use Rattle.terminal_model.specs.Apply.{run}
use Rattle.terminal_model.specs.FormText.{IsSentForm}
use Rattle.forms_read.specs.Terminals.{IsSmall}
use Rattle.termview.specs.Step.{view_step, view_steps}
use Rattle.termview.specs.Seen.{seen}

-- more bytes have the effect of the calls that a parser makes for them
abbrev pub MoreBytesStep : Type 0
MoreBytesStep = (z : Size) (past bytes : List ℕ)
    → seen z (past ++ bytes) ≡ view_steps z (calls_from past bytes) (seen z past)

-- Outside of a character or a sequence, a start mark or a prefix of it changes nothing, and neither does an end mark.
abbrev pub MarksShowNothing : Type 0
MarksShowNothing = (z : Size) (past : List ℕ) → AtGround 1024 past
    → ((count : ℕ) → count ≤ 8 → seen z (past ++ take count start_mark) ≡ seen z past)
    × (seen z (past ++ end_mark) ≡ seen z past)

-- bytes between the marks have the same effect as without them, if they don't end inside a character or a sequence
abbrev pub FramesShowTheirBodies : Type 0
FramesShowTheirBodies = (z : Size) (past body : List ℕ) → AtGround 1024 past → AtGround 1024 body
    → seen z (past ++ (start_mark ++ (body ++ end_mark)))
    ≡ view_steps z (calls_of_all (last_of past) (events 1024 body)) (seen z past)

-- Whole frames are shown, in any pieces and wherever `stop_sync` is called. After them nothing is buffered, and the
-- parser is at ground.
abbrev pub WholeFramesAreShown : Type 0
WholeFramesAreShown = (z : Size) (frames : List (List ℕ)) (moves : List Move) (past parsed : List ℕ)
    (hold : Option (List ℕ)) → AtGround 1024 past → All IsFrame frames → given moves ≡ concat frames
    → Drives moves past None parsed hold
    → (seen z parsed ≡ seen z (past ++ concat frames)) × (hold ≡ None) × AtGround 1024 parsed

-- exactly the frames that were given whole are shown
pub record ShowsWhole (z : Size) (frames : List (List ℕ)) (past bytes parsed : List ℕ) : Type 0 where
  pub prefix : IsPrefix frames bytes
  pub shows : seen z parsed ≡ seen z (past ++ concat prefix.whole)

-- frames below the buffer's limit are never shown in part, whatever prefix of them arrives, in any pieces
abbrev pub NoFrameIsTorn : Type 0
NoFrameIsTorn = (z : Size) (frames pieces : List (List ℕ)) (beyond past parsed : List ℕ) (hold : Option (List ℕ))
    → AtGround 1024 past → All IsFrame frames → All (λ frame. length frame < limit) frames
    → concat pieces ++ beyond ≡ concat frames → Drives (map Gives pieces) past None parsed hold
    → ShowsWhole z frames past (concat pieces) parsed

-- every call keeps the invariant of a terminal
abbrev pub EachCallKeepsTerminals : Type 0
EachCallKeepsTerminals = (z : Size) (c : Call) (t : Term) → IsTerm z t → IsTerm z (view_step z c t)

-- the invariant holds after any bytes
abbrev pub EachStreamShowsATerminal : Type 0
EachStreamShowsATerminal = (z : Size) (bytes : List ℕ) → 0 < z.rows → 0 < z.cols → IsTerm z (seen z bytes)

-- The bytes of forms have the effect of the forms, after any past that leaves the parser at ground, and leave it at
-- ground again. Their texts may have U+FE0F.
abbrev pub EachWrittenFormIsShown : Type 0
EachWrittenFormIsShown = (z : Size) (past : List ℕ) (fs : List Form) → 0 < z.rows → 0 < z.cols → IsSmall z
    → AtGround 1024 past → AllByRecursion IsSentForm fs
    → (seen z (past ++ bytes_of fs) ≡ run z fs (seen z past)) × AtGround 1024 (past ++ bytes_of fs)
