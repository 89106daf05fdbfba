use Rattle.std.proofs.Common.{◌∙◌, ap, sym}
use Rattle.termrelay.specs.ClientRecord.{is_unsure_screen}
use Rattle.termrelay.proofs.NumberLemmas.{copy-unsure}
use Rattle.termrelay.proofs.frames.SharedFrames.base.Goals as goal

pub new-requires : goal.new-requires
new-requires c =
    c.requires.unsure ∙ copy-unsure c.args.now.now c.requires.unscrolled
    ∙ ap is_unsure_screen (sym c.in_ok-screen.ensures.copy)
