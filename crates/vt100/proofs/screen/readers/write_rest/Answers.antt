use Rattle.std.proofs.Common.{sym, ◌∙◌}
use Rattle.std.specs.Prelude.{string_bytes}
use Rattle.vt100.proofs.BetweenLemmas.{rest-newline}
use Rattle.vt100.proofs.screen.readers.write_rest.Goals as goal

pub returns-in_ok-push-clause-text : goal.returns-in_ok-push-clause-text
returns-in_ok-push-clause-text c = rest-newline c.args.row.now c.args.start c.saturating_sub.result c.args.cols
    (string_bytes c.args.contents.now) (string_bytes c.write_contents.new.contents) (string_bytes c.push.new.self)
    c.saturating_sub.ensures c.in_ok-write_contents.ensures.text (sym c.wrapped.ensures ∙ c.if-not-wrapped.true)
    c.in_ok-push.ensures.bytes
