use Rattle.clap.specs.Words.{found_of, rows_of}
use Rattle.screentext_command.proofs.WordsLemmas.{says_all, some_goes}
use Rattle.screentext_command.proofs.words.invocation_of.Goals as goal

pub returns-clause-says : goal.returns-clause-says
returns-clause-says c =
    some_goes c.all.result c.all.ensures.made (λ i made. says_all (rows_of (found_of c.args.matches.now)) _ _ _ i
    c.in_ok-request.ensures.says c.in_ok-source.ensures.says c.in_ok-pictures.ensures.says made)
