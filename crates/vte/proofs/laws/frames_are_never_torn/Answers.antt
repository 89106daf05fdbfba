use Rattle.std.proofs.lemmas.List.Elements.{recursion_from_All}
use Rattle.vte.specs.Frames.{IsFrame}
use Rattle.vte.proofs.FrameMoves.{never_torn, mark_begun}
use Rattle.vte.proofs.laws.frames_are_never_torn.Goals as goal

pub returns-clause-untorn : goal.returns-clause-untorn
returns-clause-untorn c = never_torn

pub returns-clause-begun : goal.returns-clause-begun
returns-clause-begun c = λ whole part parsed hold rest all is r.
    mark_begun whole part parsed hold rest (recursion_from_All IsFrame rest all) is r
