use Rattle.screentext_command.specs.Command.{told}
use Rattle.screentext_command.specs.declared.help.TheConstants.{HELP, VERSION}
use Rattle.screentext_command.proofs.WordsLemmas.{help_told, version_told}
use Rattle.screentext_command.proofs.commands.obey.Goals as goal

pub returns-in-Help : goal.returns-in-Help
returns-in-Help g c = λ words meant. told HELP.now (help_told words (rw c.in-Help.is at meant)) c.print.ensures

pub returns-in-Version : goal.returns-in-Version
returns-in-Version g c = λ words meant.
    told VERSION.now (version_told words (rw c.in-Version.is at meant)) c.print-in-Version.ensures
