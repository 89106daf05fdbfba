use Rattle.std.proofs.Common.{refl, arith}
use Rattle.std.proofs.lemmas.Grind.{common_steps}
use Rattle.c_objects.proofs.Drafts.{pushed}
use Rattle.c_objects.proofs.draft.Draft.push.Goals as goal

pub returns : goal.returns
returns c =
    pushed c.args.self.now c.args.bytes.now c.extend_from_slice-room.new.self.items 1022 c.min-most.result refl
    (grind (arith, common_steps)) (grind (arith, common_steps)) (grind (arith, common_steps))
