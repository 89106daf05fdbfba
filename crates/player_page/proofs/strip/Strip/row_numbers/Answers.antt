use Rattle.std.proofs.Common.{◌≡◌, ◌+◌, ◌∙◌, Err, ap, length, length-append, rules, subst, sym, [], ◌∷◌}
use Rattle.player_page.specs.Strips.{AreNumbers}
use Rattle.player_page.proofs.MomentLemmas.{fails_for, no_numbers, one_number}
use Rattle.player_page.proofs.strip.Strip.row_numbers.Goals as goal

pub loop-row-init : goal.loop-row-init
loop-row-init c = let strip = c.args.self.now in record {
  count = ap length c.new-numbers.ensures.items;
  numbers = subst (AreNumbers c.args.look.now c.args.screen.now.state strip strip) (sym c.new-numbers.ensures.items)
      (no_numbers c.args.look.now c.args.screen.now.state strip);
  drawn = λ size events n after drawn. drawn;
}

pub loop-row-preserved : goal.loop-row-preserved
loop-row-preserved c =
    let look = c.args.look.now in
    let state = c.args.screen.now.state in
    let so_far = c.loop-row.invariant in
    let found = c.in_ok-row_number.ensures.number in
    let number = c.in_ok-row_number.field-0 in
    record {
      count = ap length c.in_ok-push.ensures.items ∙ length-append c.loop-row.numbers.items (number ∷ [])
          ∙ ap (λ n. n + 1) so_far.count;
      numbers = subst (AreNumbers look state c.args.self.now c.row_number.new.self) (sym c.in_ok-push.ensures.items)
          (one_number look state c.args.self.now c.loop-row.self c.row_number.new.self c.loop-row.numbers.items
          c.loop-row.row number found.0 so_far.count so_far.numbers found.2 found.1);
      drawn = λ size events n after before.
          c.in_ok-row_number.ensures.drawn size events n after (so_far.drawn size events n after before);
    }

pub returns-in_err-row_number-clause-fault : goal.returns-in_err-row_number-clause-fault
returns-in_err-row_number-clause-fault c =
    let e = c.in_err-row_number.field-0.0 in
    let is : c.from_residual.result ≡ Err e = search (rules, c.from_residual.ensures) in
    rw is (fails_for _ _ e (λ long size events n after drawn.
    long size events n after (c.loop-row.invariant.drawn size events n after drawn)) c.in_err-row_number.ensures.fault)
