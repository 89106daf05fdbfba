use Rattle.std.proofs.Common.{◌∙◌, ◌+◌, ap}
use Rattle.std.proofs.lemmas.Result.{IfOk-weaker}
use Rattle.recorded_screen.proofs.FramedLemmas.{is_framed}
use Rattle.recorded_screen.proofs.frames.framed_svg.Goals as goal

pub returns-clause-placed : goal.returns-clause-placed
returns-clause-placed c =
    let s = c.args.screen.now.state in
    IfOk-weaker c.framed.result _ _ (λ bytes is. is_framed _ _ _ _ _ _ _ _ _
    (c.rows_of-rows.ensures ∙ ap (λ m. m + s.shown.height) c.kept_of.ensures.count)
    (c.get.ensures.value ∙ c.size.ensures.cols) is c.in_ok-picture.ensures.placed) c.framed.ensures.bytes
