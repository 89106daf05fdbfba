use Rattle.std.proofs.Common.{ℕ, List, map, subst, ap}
use Rattle.vte_types.specs.Call.{Calls, input}
use Rattle.termview.specs.Picture.{Does}
use Rattle.termview.proofs.picture.Picture.input_taken.Goals as goal

pub input_run-requires-clause-drawn : goal.input_run-requires-clause-drawn
input_run-requires-clause-drawn g c = rw c.as_slice.ensures.value c.take_run-rest.ensures.drawn

pub input_run-requires-clause-shown : goal.input_run-requires-clause-shown
input_run-requires-clause-shown g c = rw c.as_slice.ensures.value c.take_run-rest.ensures.shown

pub returns-clause-shown : goal.returns-clause-shown
returns-clause-shown g c =
    let code = g.G.Glyph.code in (
      map code c.take_run-rest.new.run.items,
      c.take_run-rest.ensures.parts,
      subst (λ (ys : List ℕ). Calls Does c.args.self.now (map input ys) c.input_run.new.self)
          (ap (map code) c.as_slice.ensures.value) c.input_run.ensures,
    )
