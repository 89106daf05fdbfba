-- Frames: updates from a start mark to an end mark, given one after another, in pieces.
use Rattle.std.specs.Prelude.{◌≡◌, ◌≢◌, ℕ, ◌<◌, ◌≤◌, false, List, [], ◌∷◌, ◌++◌, Option, None, Some, map, take, length}
use Rattle.std.specs.List.{All, concat, list_any}
use Rattle.vte_core.specs.Shapes.{events}
use Rattle.vte_core.specs.Ground.{AtGround, IsText}
use Rattle.vte_types.specs.Call.{Call, set_private_mode}
use Rattle.vte_types.specs.declared.mode.PrivateMode.TheVariants.{Named}
use Rattle.vte_types.specs.declared.mode.NamedPrivateMode.TheVariants.{SyncUpdate}
use Rattle.vte.specs.Table.{opens}
use Rattle.vte.specs.Timeout.{Tick}
use Rattle.vte.specs.Marks.{start_mark, end_mark}
use Rattle.vte.specs.Stretch.{calls_from, opens_in, OpensAt}
use Rattle.vte.specs.Hold.{limit, closing, held_of, Takes}
use Rattle.vte.specs.Moves.{Move, Gives, Stops, given}

-- a body between the marks: no end mark ends before the frame does, and no event of the body opens an update
pub record IsFrame (frame : List ℕ) : Type 0 where
  pub body : List ℕ
  pub is : frame ≡ start_mark ++ (body ++ end_mark)
  pub ends_once : (before after : List ℕ) → body ++ end_mark ≡ before ++ (end_mark ++ after) → after ≡ []
  pub opens_nothing : list_any opens (events 1024 body) ≡ false

-- the moves take parsed bytes and held bytes to others, whatever calls they make, and however they set the timeout
pub data Drives : List Move → List ℕ → Option (List ℕ) → List ℕ → Option (List ℕ) → Type 0 where
  ends : (parsed : List ℕ) (hold : Option (List ℕ)) → Drives [] parsed hold parsed hold
  gives : (piece : List ℕ) (moves : List Move) (parsed : List ℕ) (hold : Option (List ℕ)) (mid : List ℕ)
      (mid_hold : Option (List ℕ)) (calls : List Call) (ticks : List Tick) (parsed' : List ℕ) (hold' : Option (List ℕ))
      → Takes parsed hold piece mid mid_hold calls ticks
      → Drives moves mid mid_hold parsed' hold' → Drives (Gives piece ∷ moves) parsed hold parsed' hold'
  -- all held bytes are parsed, and no update is open
  stops : (moves : List Move) (parsed : List ℕ) (hold : Option (List ℕ)) (parsed' : List ℕ) (hold' : Option (List ℕ))
      → Drives moves (parsed ++ held_of hold) None parsed' hold' → Drives (Stops ∷ moves) parsed hold parsed' hold'

abbrev pub MovesFollow : Type 0
MovesFollow = (moves more : List Move) (parsed : List ℕ) (hold : Option (List ℕ)) (mid : List ℕ)
    (mid_hold : Option (List ℕ)) (parsed' : List ℕ) (hold' : Option (List ℕ))
    → Drives moves parsed hold mid mid_hold → Drives more mid mid_hold parsed' hold'
    → Drives (moves ++ more) parsed hold parsed' hold'

-- whole frames are parsed, however they are cut into pieces, and wherever an update is stopped by hand
abbrev pub WholeFramesAreParsed : Type 0
WholeFramesAreParsed = (frames : List (List ℕ)) (moves : List Move) (past parsed : List ℕ) (hold : Option (List ℕ))
    → All IsFrame frames → given moves ≡ concat frames → Drives moves past None parsed hold
    → (parsed ≡ past ++ concat frames) × (hold ≡ None)

-- the bytes are a prefix of the next frame, and not all of it
abbrev pub IsPart : List ℕ → List (List ℕ) → Type 0
IsPart part [] = part ≡ []
IsPart part (frame ∷ frames) = (left : List ℕ) × (frame ≡ part ++ left) × (left ≢ [])

-- the bytes are some of the first frames, and a prefix of the next one, which isn't all of it
pub record IsPrefix (frames : List (List ℕ)) (bytes : List ℕ) : Type 0 where
  pub whole : List (List ℕ)
  pub rest : List (List ℕ)
  pub part : List ℕ
  pub frames_are : frames ≡ whole ++ rest
  pub bytes_are : bytes ≡ concat whole ++ part
  pub is_part : IsPart part rest

-- what is parsed and held after whole frames and part of one
pub data Rests (whole part parsed : List ℕ) (hold : Option (List ℕ)) : Type 0 where
  -- less than the start mark was given, and no update is open
  closed : length part < 8 → parsed ≡ whole ++ part → hold ≡ None → Rests whole part parsed hold
  -- the start mark is parsed, and the rest is held
  opened : (held : List ℕ) → part ≡ start_mark ++ held → parsed ≡ whole ++ start_mark → hold ≡ Some held
      → Rests whole part parsed hold
  -- the start mark is held, and the rest with it
  kept : 8 ≤ length part → parsed ≡ whole → hold ≡ Some part → Rests whole part parsed hold

-- exactly the frames that were given whole are parsed, and of the next one at most its start mark
pub record IsUntorn (frames : List (List ℕ)) (past bytes parsed : List ℕ) (hold : Option (List ℕ)) : Type 0 where
  pub prefix : IsPrefix frames bytes
  pub rests : Rests (past ++ concat prefix.whole) prefix.part parsed hold

-- frames below the hold's limit are never torn, however a prefix of them is cut into pieces
abbrev pub FramesAreNeverTorn : Type 0
FramesAreNeverTorn = (frames pieces : List (List ℕ)) (beyond past parsed : List ℕ) (hold : Option (List ℕ))
    → All IsFrame frames → All (λ frame. length frame < limit) frames → concat pieces ++ beyond ≡ concat frames
    → Drives (map Gives pieces) past None parsed hold → IsUntorn frames past (concat pieces) parsed hold

-- what is parsed beyond whole frames is a prefix of the start mark
abbrev pub OnlyAMarkIsBegun : Type 0
OnlyAMarkIsBegun = (whole part parsed : List ℕ) (hold : Option (List ℕ)) (rest : List (List ℕ))
    → All IsFrame rest → IsPart part rest
    → Rests whole part parsed hold → (count : ℕ) × (count ≤ 8) × (parsed ≡ whole ++ take count start_mark)

-- a start mark opens an update at its last byte and not before, whatever came before it
abbrev pub StartMarksOpen : Type 0
StartMarksOpen = (past : List ℕ) → OpensAt past start_mark 8

-- no sequence is unfinished after a start mark, or after an end mark
abbrev pub MarksEndAtGround : Type 0
MarksEndAtGround = (past : List ℕ) → AtGround 1024 (past ++ start_mark) × AtGround 1024 (past ++ end_mark)

-- If no sequence is unfinished before it, a start mark makes no call before its last byte, and then the call that says
-- that an update was opened.
abbrev pub StartMarksCall : Type 0
StartMarksCall = (past : List ℕ) → AtGround 1024 past
    → ((count : ℕ) → count < 8 → calls_from past (take count start_mark) ≡ [])
    × (calls_from past start_mark ≡ set_private_mode (Named SyncUpdate) ∷ [])

abbrev pub EndMarksCall : Type 0
EndMarksCall = (past : List ℕ)
    → (opens_in past end_mark ≡ false) × (AtGround 1024 past → calls_from past end_mark ≡ closing)

-- no sequence is unfinished after whole frames
abbrev pub FramesEndAtGround : Type 0
FramesEndAtGround = (frames : List (List ℕ)) (past : List ℕ)
    → All IsFrame frames → AtGround 1024 past → AtGround 1024 (past ++ concat frames)

-- parts that leave no sequence unfinished, and open no update, do neither when they are joined
abbrev pub PartsOpenNothing : Type 0
PartsOpenNothing = (parts : List (List ℕ))
    → All (AtGround 1024) parts → All (λ part. list_any opens (events 1024 part) ≡ false) parts
    → AtGround 1024 (concat parts) × (list_any opens (events 1024 (concat parts)) ≡ false)

-- text without ESC between the marks is a frame
abbrev pub TextsMakeFrames : Type 0
TextsMakeFrames = (text : List ℕ) → IsText text → IsFrame (start_mark ++ (text ++ end_mark))
