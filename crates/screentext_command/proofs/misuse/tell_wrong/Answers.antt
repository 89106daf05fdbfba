use Rattle.clap.specs.Words.{found_of, rows_of}
use Rattle.screentext_command.proofs.misuse.tell_wrong.Goals as goal

pub returns-clause-told : goal.returns-clause-told
returns-clause-told g c =
    c.tell_found.ensures (rows_of (found_of c.args.matches.now)) c.in_ok-misuse.ensures.misuse
