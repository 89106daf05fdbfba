use Rattle.std.proofs.Common.{◌≡◌, ◌∙◌, false, Some, None, ap, sym}
use Rattle.std.specs.Option.{option_map}
use Rattle.vt100_core.specs.Picture.{grid_size}
use Rattle.screen_model.specs.Shown.{shown_state}
use Rattle.termrelay.specs.Answers.{due, is_frame}
use Rattle.termrelay.specs.ClientRecord.{IsFrameOf, shown_at_last}
use Rattle.termrelay.proofs.NumberLemmas.{unchanged-shown, kept-latest, last-keeps, keeps-same}
use Rattle.termrelay.proofs.frames.SharedFrames.made.Goals as goal
use Rattle.termrelay.proofs.frames.SharedFrames.made.Goals.{in-Some, in_default}

pub returns-clause-latest : goal.returns-clause-latest
returns-clause-latest c =
    let now = c.args.now.now in
    let none : is_frame (due (grid_size now.state.shown) (shown_state now.state) (shown_at_last c.args.record.now.last))
    ≡ false =
    ap is_frame (sym c.due-answer.ensures) ∙ sym c.is_frame.ensures ∙ c.if-is_frame.false in
    elim c.match-last.branch [
      | in-Some w ↦
          let f = w.in-Some.last.now.value in
          let is : c.args.record.now.last ≡ Some f =
          sym c.last.ensures ∙ ap (option_map (λ l. l.now.value)) w.in-Some.is in
          let frame : IsFrameOf now f = rw is at c.requires.served.last in
          let none_here = rw is at none in
          rw w.self-is (kept-latest f c.args.self.now.moments now w.keep.new.self.latest w.keep.new.self.moments
          w.keep.ensures.moments w.keep.ensures.latest frame
          (unchanged-shown now f c.requires.unscrolled frame.base none_here))
      | in_default w ↦ rw w.self-is c.requires.latest
    ]

pub returns-clause-numbers : goal.returns-clause-numbers
returns-clause-numbers c =
    let z = grid_size c.args.now.now.state.shown in
    let last = c.args.record.now.last in
    elim c.match-last.branch [
      | in-Some w ↦
          let f = w.in-Some.last.now.value in
          rw w.self-is (last-keeps z c.args.self.now w.keep.new.self last f
          (sym c.last.ensures ∙ ap (option_map (λ l. l.now.value)) w.in-Some.is) w.keep.ensures.moments
          w.keep.ensures.latest)
      | in_default w ↦ rw w.self-is (keeps-same z c.args.self.now last None (λ s are. tt))
    ]
