use Rattle.std.proofs.lemmas.List.Elements.{recursion_from_All}
use Rattle.vte.specs.Frames.{IsFrame}
use Rattle.vte.proofs.FrameMoves.{whole_are_parsed, frames_ground, moves_follow}
use Rattle.vte.proofs.laws.whole_frames_are_parsed.Goals as goal

pub returns-clause-parsed : goal.returns-clause-parsed
returns-clause-parsed c = whole_are_parsed

pub returns-clause-finished : goal.returns-clause-finished
returns-clause-finished c = λ frames past all g. frames_ground frames past (recursion_from_All IsFrame frames all) g

pub returns-clause-moves : goal.returns-clause-moves
returns-clause-moves c = moves_follow
