use Rattle.std.proofs.Common.{sym, ap, ◌∙◌, subst}
use Rattle.std.specs.Fmt.{WritesInCalls}
use Rattle.vt100_rows.specs.Basic.{basic_text}
use Rattle.vt100_capture.specs.Capture.{CaptureView}
use Rattle.vt100_capture.proofs.CaptureLemmas.{captured-newline, captured-plain}
use Rattle.vt100_capture.proofs.state.RowContents.write_formatted_basic.Goals as goal
use Rattle.vt100_capture.proofs.state.RowContents.write_formatted_basic.Goals.{then-state+in_ok-write_char, else-state}

pub returns-clause-text : goal.returns-clause-text
returns-clause-text g c =
    let gives = g.W.Write.write_str_gives in
    let s = c.args.state.now in
    let v = c.args.self.now in
    let w = c.args.writer.now in
    let x = c.write_contents_formatted_basic.new.writer in
    let own = ap (λ (y : CaptureView). y.attrs) c.state.view_is in
    let pending = ap (λ (y : CaptureView). y.newline_pending) c.state.view_is in
    let row = subst (λ y. WritesInCalls gives c.if-state.writer (basic_text y c.state.inside.attrs) x) c.self.view_is
    c.in_ok-write_contents_formatted_basic.ensures.text in
    elim c.if-state.branch [
      | then-state+in_ok-write_char z ↦
          captured-newline gives s v c.state.inside.attrs w z.write_char.new.self x own
          (subst (λ y. WritesInCalls gives y (basic_text v c.state.inside.attrs) x) z.writer-is row)
          (sym pending ∙ z.if-state.true) z.in_ok-write_char.ensures.writes
      | else-state z ↦
          captured-plain gives s v c.state.inside.attrs w c.if-state.writer x own row (sym pending ∙ z.if-state.false)
          z.writer-is
    ]
