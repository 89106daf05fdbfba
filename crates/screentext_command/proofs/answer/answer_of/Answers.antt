use Rattle.std.proofs.Common.{inl}
use Rattle.screentext_command.proofs.MissingLemmas.{err_goes, unfit_form}
use Rattle.screentext_command.specs.declared.words.Form.TheVariants as form
use Rattle.screentext_command.proofs.answer.answer_of.Goals as goal

pub returns-in-Still-clause-fault : goal.returns-in-Still-clause-fault
returns-in-Still-clause-fault c = err_goes c.screen_of.result c.screen_of.ensures.fault (λ e memory. inl memory)

pub returns-in-Film-clause-fault : goal.returns-in-Film-clause-fault
returns-in-Film-clause-fault c =
    err_goes c.film_of.result c.film_of.ensures.fault (λ e fault. unfit_form c.args.request.form form.Film
    c.args.recording.now c.args.moments e c.in-Film.is fault)

pub returns-in-Player-clause-fault : goal.returns-in-Player-clause-fault
returns-in-Player-clause-fault c =
    err_goes c.player_of.result c.player_of.ensures.fault (λ e fault. unfit_form c.args.request.form form.Player
    c.args.recording.now c.args.moments e c.in-Player.is fault)
