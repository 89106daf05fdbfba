-- A hub's value in contracts, by its fields, and the invariant of the fields.
use Rattle.std.specs.Prelude.{◌≡◌, ℕ, ◌<◌, false, List, IfSome}
use Rattle.slab.specs.Slab.{Slab, get}
use Rattle.terminal_model.specs.Term.{Size, Shown}
use Rattle.vt100_core.specs.Picture.{grid_size}
use Rattle.screen_model.specs.Made.{Act}
use Rattle.screen_model.specs.Holds.{AreActs}
use Rattle.vt100.specs.Parsing.{ParserView, ParserIsAfter}
use Rattle.termrelay.specs.Hub.{HubState, as_kept}
use Rattle.termrelay.specs.ClientRecord.{RecordView, IsRecordOf}
use Rattle.termrelay.specs.Frames.{FramesView, most_moments, IsLatestOf, IsNumbered, EachLast}
use Rattle.termrelay.specs.declared.hub.Hub.TheInside.{Inside}

abbrev pub hub_of : Inside → HubState as_kept
hub_of h = record { parser = h.parser; clients = h.clients.slots }

-- the parser is in the state after some acts on a new one
pub record IsMade (p : ParserView (Unit {0})) : Type 0 where
  pub rows : ℕ
  pub cols : ℕ
  pub capacity : ℕ
  pub acts : List Act
  pub are : AreActs rows cols capacity acts
  pub state_after : ParserIsAfter p rows cols capacity acts

-- what was shown at each moment, by which the last frame of each client and the latest frame are numbered
pub record EachIsNumbered (z : Size) (clients : Slab RecordView) (v : FramesView) : Type 0 where
  pub shown_at : ℕ → Shown
  pub each : EachLast clients (IsNumbered shown_at v.moments z)
  pub latest : IfSome v.latest (IsNumbered shown_at v.moments z)

-- Unless the hub has failed, its parser is in the state after some acts. Then each client's last frame has the screen's
-- size, and at most the longest frame's bytes wait for each client. The latest frame leads to what the screen shows.
-- Unless there are too many moments, the frames are numbered.
pub record IsHub (h : Inside) : Type 0 where
  pub made : h.parser.screen.failed ≡ false → IsMade h.parser
  pub served : h.parser.screen.failed ≡ false → (key : ℕ)
      → IfSome (get h.clients key) (IsRecordOf h.parser.screen)
  pub latest : IfSome h.frames.latest (IsLatestOf h.parser.screen h.frames.moments)
  pub numbered : h.parser.screen.failed ≡ false → h.frames.moments < most_moments
      → EachIsNumbered (grid_size h.parser.screen.state.shown) h.clients h.frames
