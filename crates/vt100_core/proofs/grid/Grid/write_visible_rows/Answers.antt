use Rattle.std.proofs.Common.{◌∷◌, ap, sym, ◌∙◌}
use Rattle.std.proofs.lemmas.Bool.{false≢true}
use Rattle.vt100_rows.specs.Row.{RowView}
use Rattle.vt100_capture.specs.Capture.{new_capture}
use Rattle.vt100_capture.proofs.CaptureLemmas.{IsCaptured-next, left-none}
use Rattle.vt100_core.specs.Grid.{visible}
use Rattle.vt100_core.proofs.grid.Grid.write_visible_rows.Goals as goal

pub loop-row-preserved : goal.loop-row-preserved
loop-row-preserved g c =
    IsCaptured-next g.W.Write.write_str_gives new_capture (visible c.args.self.now) c.args.writer.now
    c.loop-row.row-iterator c.next.new.self c.new.result c.loop-row.state c.write_formatted_basic.new.state
    c.loop-row.writer c.write_formatted_basic.new.writer
    (c.in-Some.ensures.steps ∙ ap (λ (y : RowView). y ∷ c.next.new.self) (sym c.new.ensures)) c.loop-row.invariant
    c.in_ok-write_formatted_basic.ensures.text c.in_ok-write_formatted_basic.ensures.state

pub returns-in_err-write_formatted_basic-clause-empty : goal.returns-in_err-write_formatted_basic-clause-empty
returns-in_err-write_formatted_basic-clause-empty g c e =
    absurd (false≢true (c.in_err-write_formatted_basic.ensures.empty
    (left-none g.W.Write.write_str_gives new_capture (visible c.args.self.now) c.args.writer.now
    c.loop-row.row-iterator c.next.new.self c.new.result c.loop-row.state c.loop-row.writer
    (c.in-Some.ensures.steps ∙ ap (λ (y : RowView). y ∷ c.next.new.self) (sym c.new.ensures)) c.loop-row.invariant e)))
