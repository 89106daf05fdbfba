use Rattle.vt100_forms.proofs.TextRunLemmas.{IsRun-ascii}
use Rattle.vt100_forms.proofs.text_run.TextRun.push_ascii.Goals as goal

pub invariant_of-self : goal.invariant_of-self
invariant_of-self c =
    IsRun-ascii c.self.inside c.args.self.now c.args.c c.self.invariant c.self.view_is c.requires.room c.requires.ascii
