use Rattle.std.proofs.Common.{refl}
use Rattle.vt100.proofs.PlayLemmas.{resized_state_after}
use Rattle.vt100.proofs.parser.Parser.set_size.Goals as goal

pub returns-clause-made : goal.returns-clause-made
returns-clause-made g c = rw (← c.self.view_is) (λ height width capacity acts at. resized_state_after
    g.CB.Callbacks.scrolls
    _ _ _ _ _ refl c.set_size_with_cb.ensures.resizes.tries height width capacity acts at)
