use Rattle.std.proofs.Common.{◌∙◌, ap}
use Rattle.recordings.specs.Recorded.{size_said}
use Rattle.screen_model.specs.State.{State}
use Rattle.screentext_command.specs.Texts.{changes_text, screen_at}
use Rattle.screentext_command.proofs.WordsLemmas.{ok_goes}
use Rattle.screentext_command.proofs.answer.screen_of.Goals as goal

pub returns-in-Some-clause-text : goal.returns-in-Some-clause-text
returns-in-Some-clause-text c =
    rw c.in-Some.is (ok_goes c.changes_since.result c.changes_since.ensures.changes (λ text is. is
    ∙ ap (λ (s : State). changes_text c.args.request.look
    (screen_at (size_said c.args.size) 0 c.args.recording.now c.in-Some.since).shown s.shown)
    c.in_ok-terminal.ensures.shows))
