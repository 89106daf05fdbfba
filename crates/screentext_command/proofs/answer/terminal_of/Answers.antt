use Rattle.std.proofs.Common.{◌∙◌, List, ap}
use Rattle.recordings.specs.declared.recording.Event.{Event}
use Rattle.recorded_screen.specs.Moment.{acts_until}
use Rattle.screen_model.specs.Call.{ScreenView}
use Rattle.screen_model.specs.Made.{made}
use Rattle.screentext_command.proofs.answer.terminal_of.Goals as goal

pub returns-clause-live : goal.returns-clause-live
returns-clause-live c = ap (λ (v : ScreenView). v.failed) c.in_ok-terminal.ensures.shows.screen

pub returns-clause-shows : goal.returns-clause-shows
returns-clause-shows c =
    ap (λ (v : ScreenView). v.state) c.in_ok-terminal.ensures.shows.screen
    ∙ ap (λ (es : List Event). made c.args.size.rows.value c.args.size.cols.value c.args.capacity
    (acts_until c.args.moment es)) c.deref.ensures.value
