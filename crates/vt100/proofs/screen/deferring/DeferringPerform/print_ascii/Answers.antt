use Rattle.std.proofs.Common.{◌≡◌, None, rules}
use Rattle.vt100.proofs.DeferringLemmas.{text_at_once}
use Rattle.vt100.proofs.screen.deferring.DeferringPerform.print_ascii.Goals as goal

pub returns : goal.returns
returns g c =
    let none : c.args.self.now.erasing ≡ None = search rules in
    text_at_once g.CB.Callbacks.step g.CB.Callbacks.scrolls c.args.text.now _ _ none c.utf8.text c.print_ascii.ensures
