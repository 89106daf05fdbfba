use Rattle.std.proofs.Common.{◌<◌, length, map, arith}
use Rattle.std.proofs.lemmas.Bool.Decides.{nat_tests}
use Rattle.std.proofs.lemmas.List.{length-map}
use Rattle.vt100.proofs.RunLemmas.{goes-typed_all, all-handled}
use Rattle.vt100.proofs.screen.wrapped.WrappedScreen.print_taken.Goals as goal

pub run-requires-clause-drawn : goal.run-requires-clause-drawn
run-requires-clause-drawn g c = rw c.as_slice.ensures.value c.take_run-rest.ensures.drawn

pub returns-clause-printed : goal.returns-clause-printed
returns-clause-printed g c =
    let items = c.take_run-rest.new.run.items in
    let xs = map g.G.Glyph.code items in
    let many = length-map items g.G.Glyph.code in
    let some : 0 < length xs = grind (arith, nat_tests) in (
      xs,
      c.take_run-rest.ensures.parts,
      goes-typed_all g.CB.Callbacks.step g.CB.Callbacks.scrolls xs _ some
          (all-handled xs c.take_run-rest.ensures.shown) c.is_live.ensures.live
          (rw c.as_slice.ensures.value at c.run.ensures),
    )
