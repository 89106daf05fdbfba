use Rattle.std.proofs.Common.{length}
use Rattle.screen_probe_command.proofs.steps.unhex.Given as goal

abbrev pub decreases-loop-rest : goal.decreases-loop-rest
decreases-loop-rest l = length l.rest
