use Rattle.std.proofs.Common.{◌≡◌, refl}
use Rattle.vt100.proofs.DeferringLemmas.{performs_text, late_ascii}
use Rattle.vt100.proofs.screen.deferring.Deferring.print_over.Goals as goal

pub run-requires-clause-drawn : goal.run-requires-clause-drawn
run-requires-clause-drawn g c =
    rw c.as_bytes.ensures.value (λ k d l. (refl, c.requires.printable k d l))

pub returns : goal.returns
returns g c = performs_text g.CB.Callbacks.step g.CB.Callbacks.scrolls c.args.text.now _ _ c.utf8.text c.requires.some
    refl (late_ascii g.CB.Callbacks.step g.CB.Callbacks.scrolls c.args.self.now.erasing c.args.text.now _
    c.requires.live (c.is_live.ensures.live c.requires.live) c.requires.some c.requires.printable c.requires.room
    (rw c.as_bytes.ensures.value at c.run.ensures))
