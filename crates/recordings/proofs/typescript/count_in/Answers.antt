use Rattle.recordings.proofs.TypescriptLemmas.{no_count}
use Rattle.recordings.proofs.typescript.count_in.Goals as goal

pub returns-in-Err : goal.returns-in-Err
returns-in-Err c = no_count c.args.text.now c.in-Err.ensures.cases.0
