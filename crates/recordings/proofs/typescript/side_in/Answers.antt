use Rattle.recordings.proofs.TypescriptLemmas.{no_size}
use Rattle.recordings.proofs.typescript.side_in.Goals as goal

pub returns-in-Err : goal.returns-in-Err
returns-in-Err c = no_size c.args.text.now c.in-Err.ensures.cases.0
