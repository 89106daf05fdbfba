use Rattle.std.specs.List.{list_any}
use Rattle.std.proofs.Common.{◌≡◌, false}
use Rattle.std.proofs.lemmas.List.Elements.{recursion_from_All}
use Rattle.vte_core.specs.Shapes.{events}
use Rattle.vte_core.specs.Ground.{AtGround}
use Rattle.vte.specs.Table.{opens}
use Rattle.vte.proofs.FrameBodies.{parts_open_nothing, text_makes_frame}
use Rattle.vte.proofs.laws.frames_are_made.Goals as goal

pub returns-clause-parts : goal.returns-clause-parts
returns-clause-parts c = λ parts h k. parts_open_nothing parts (recursion_from_All (AtGround 1024) parts h)
    (recursion_from_All (λ part. list_any opens (events 1024 part) ≡ false) parts k)

pub returns-clause-texts : goal.returns-clause-texts
returns-clause-texts c = text_makes_frame
