use Rattle.std.proofs.lemmas.Result.{err_from_is_err_and}
use Rattle.std.proofs.Common.{◌≡◌, ◌∙◌, ℕ, List, Err, IsOk, false, true, refl, subst, ap}
use Rattle.charset_filter.specs.Lines.{HasPassed}
use Rattle.charset_filter.specs.declared.lines.LineDrawing.{LineDrawing}
use Rattle.relay_streams.specs.declared.error.RelayError.TheVariants.{Memory}
use Rattle.relay_commands.specs.Carried.{Carried}
use Rattle.relay_streams.proofs.LiveLemmas.{unpassed}
use Rattle.relay_commands.proofs.CarryLemmas.{carried-through, on-any}
use Rattle.relay_commands.proofs.far_screen.FilteredHubTakesPiecesViewUntilCleared.take_piece.Goals as goal

pub returns-in_err-pass : goal.returns-in_err-pass
returns-in_err-pass c =
    let made = c.from_residual in
    let p = err_from_is_err_and made.result made.ensures.1 in
    let is : c.from_residual.result ≡ Err Memory = p.1 ∙ ap Err p.2 in
    rw is (record {
      step = (
        refl,
        tt,
        λ rows cols lines past fed base at passes.
            unpassed rows cols lines fed _ base (λ kept. absurd (let no : false ≡ true =
            subst IsOk c.in_err-pass.was (c.pass.ensures.kept past
            (subst (λ (l : LineDrawing). HasPassed c.args.self.now.filter l past) kept passes)) in cc)),
      );
    })

pub returns : goal.returns
returns c = record {
  step = (
    refl,
    on-any c.carry_frame.result _ (λ lines past passes. (c.in_ok-pass.ensures.passed lines past passes).0),
    λ rows cols lines past fed base at passes.
        subst (λ (xs : List ℕ). Carried lines rows cols fed xs base c.args.self.now.client c.args.view.now
        c.carry_frame.result c.carry_frame.new.view c.carry_frame.new.hub)
        (c.given.ensures ∙ (c.in_ok-pass.ensures.passed lines past passes).1)
        (carried-through lines rows cols fed c.given.result.now base _ _ _ _ _ (c.carry_frame.ensures rows cols fed base
        at)),
  );
}
