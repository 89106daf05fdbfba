use Rattle.std.proofs.Common.{◌≡◌, ◌∙◌, Err, inr, rules}
use Rattle.std.proofs.lemmas.Result.{IfErr-weaker, IfOk-weaker}
use Rattle.row_pictures.specs.Frames.{frame_said}
use Rattle.recorded_screen.specs.declared.reel.TheConstants.{LONGEST_FILM}
use Rattle.recorded_screen.proofs.FramedLemmas.{fault_framed, is_framed, too_long_framed}
use Rattle.recorded_screen.proofs.frames.framed_film.Goals as goal

pub returns-in_err-picture-clause-fault : goal.returns-in_err-picture-clause-fault
returns-in_err-picture-clause-fault c =
    let e = c.in_err-picture.field-0.0 in
    let is : c.from_residual.result ≡ Err e = search (rules, c.from_residual.ensures) in
    rw is (fault_framed (frame_said c.args.frame.now) LONGEST_FILM c.args.look.now c.args.size c.args.pace
    c.args.moment c.args.events.now e c.in_err-picture.ensures.fault)

pub returns-clause-film : goal.returns-clause-film
returns-clause-film c =
    IfOk-weaker c.short.result _ _ (λ bytes same. is_framed _ _ _ _ _ _ _ _ _
    (c.get.ensures.value ∙ c.widest-most.ensures.rows) (c.get-2.ensures.value ∙ c.widest-most.ensures.cols)
    (same ∙ c.in_ok-framed.ensures.bytes) c.in_ok-picture.ensures.film) c.short.ensures.same

pub returns-clause-fault : goal.returns-clause-fault
returns-clause-fault c =
    IfErr-weaker c.short.result _ _ (λ e long. inr (
      long.0,
      too_long_framed (frame_said c.args.frame.now) LONGEST_FILM c.args.look.now c.args.size c.args.pace c.args.moment
          c.args.events.now _ _ _ _ (c.get.ensures.value ∙ c.widest-most.ensures.rows)
          (c.get-2.ensures.value ∙ c.widest-most.ensures.cols) c.in_ok-framed.ensures.bytes
          c.in_ok-picture.ensures.film long.1,
    )) c.short.ensures.long
