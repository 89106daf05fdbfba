-- What a call makes of a sheet that rows may leave.
use Rattle.std.specs.Prelude.{◌≡◌, Bool, Result, OnOk, OnErr, IsOk}
use Rattle.vt100_rows.specs.Row.{RowView}
use Rattle.vt100_core.specs.Grid.{GridView, IsAllocated, SameLimits}
use Rattle.vt100_core.specs.Scroll.{Scrolled, ScrollsNoneOff}
use Rattle.vt100_core.specs.Text.{PrintedGrid}
use Rattle.screen_model.specs.Step.{reports_of}
use Rattle.screen_model.specs.Call.{Receives}
use Rattle.vt100.specs.declared.screen.reported.Reporter.{Reporter}
use Rattle.vt100.specs.Tries.{ReceivesPrefix}

-- what one character makes of a sheet, and the rows that leave it
abbrev pub scrolled_of : PrintedGrid → Scrolled
scrolled_of d = record { grid = d.grid; sunk = d.sunk }

-- A call that makes x of a sheet g, which is then h. It reports the rows that leave to the callbacks of a reporter s,
-- which is then t. An allocation fails only where rows that are kept scroll off. Then what h shows is unspecified,
-- but its bounds are the same, and the callbacks got only a prefix of the rows.
pub record Draws {C A E : Type 0} (scrolls : C → RowView → Bool → C → Type 0) (x : Scrolled) (g : GridView)
    (s : Reporter C) (result : Result A E) (h : GridView) (t : Reporter C) : Type 0 where
  pub grid : OnOk result (h ≡ x.grid)
  pub same : t.callbacks.ghost_name ≡ s.callbacks.ghost_name
  pub receives : OnOk result (Receives scrolls s.callbacks.now (reports_of s.alternate_screen x.sunk) t.callbacks.now)
  pub reported : OnErr result (ReceivesPrefix scrolls s.callbacks.now (reports_of s.alternate_screen x.sunk)
      t.callbacks.now)
  pub limits : SameLimits g h
  pub keeps_none : g.kept.capacity ≡ 0 → IsOk result
  pub stays : ScrollsNoneOff g x.grid → IsOk result
  pub allocated : IsAllocated h
