use Rattle.std.proofs.Common.{◌∙◌, ap, sym}
use Rattle.std.specs.Option.{option_map}
use Rattle.clap.specs.Words.{found_of}
use Rattle.clap.proofs.WalkLemmas.{first_value-rows}
use Rattle.screentext_command.proofs.misuse.wrong_value.Goals as goal

pub returns : goal.returns
returns c =
    sym (c.get_str.ensures ∙ first_value-rows (found_of c.args.matches.now) c.args.word.now)
    ∙ ap (option_map (λ s. s.now)) c.in_ok-value.was
