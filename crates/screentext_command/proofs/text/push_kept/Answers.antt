use Rattle.std.proofs.Common.{append-nil, sym}
use Rattle.std.specs.Prelude.{string_bytes}
use Rattle.screentext_command.proofs.TextLemmas.{is_alive, kept_more, scrolled_more}
use Rattle.screentext_command.proofs.text.push_kept.Goals as goal

pub loop-above-init : goal.loop-above-init
loop-above-init c = record {
  text = sym (append-nil (string_bytes c.args.out.now));
  screen = is_alive c.args.screen.now c.requires;
}

pub loop-above-preserved : goal.loop-above-preserved
loop-above-preserved c =
    let screen = scrolled_more c.args.screen.now.state c.args.count c.loop-above.above c.loop-above.screen
    c.set_scrollback.new.self c.loop-above.invariant.screen c.in_ok-set_scrollback.ensures.tries.screen in
    record {
      text = kept_more _ _ _ c.args.look c.args.screen.now.state c.args.count c.loop-above.above
          c.set_scrollback.new.self screen c.loop-above.invariant.text c.in_ok-push_line.ensures;
      screen = screen;
    }
