use Rattle.std.proofs.Common.{[], refl}
use Rattle.relay_streams.proofs.ViewLemmas.{not_led, led_on}
use Rattle.relay_streams.proofs.showing.UnchangedTakesPiecesViewUntilCleared.take_piece.Goals as goal

pub returns : goal.returns
returns c = record {
  step = (
    refl,
    led_on c.args.view.now c.args.view.now c.advance.new.self [] c.args.piece.now (not_led c.args.view.now)
        (λ parsed hold at. c.advance.ensures.exact parsed hold c.until_cleared_is_exact.ensures at),
  );
}
