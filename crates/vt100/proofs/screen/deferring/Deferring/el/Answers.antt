use Rattle.std.proofs.Common.{◌≡◌, ◌∙◌, sym, refl}
use Rattle.vt100.proofs.DeferringLemmas.{does_put_off, does_el_plain}
use Rattle.vt100.proofs.screen.deferring.Deferring.el.Goals as goal

pub returns-then-draws_plainly : goal.returns-then-draws_plainly
returns-then-draws_plainly g c = rw c.requires.none (
  does_el_plain c.args.params.now _ _ _ c.requires.live
      (sym c.canonicalize_params_1.ensures ∙ c.if-canonicalize_params_1-ne0.false)
      (c.draws_plainly.ensures c.if-draws_plainly.true) c.erase_plain.ensures,
  refl,
)

pub returns-else-draws_plainly : goal.returns-else-draws_plainly
returns-else-draws_plainly g c = rw (c.requires.none, c.proper_attrs.ensures) (
  does_put_off c.args.params.now _ _ c.requires.live
      (sym c.canonicalize_params_1.ensures ∙ c.if-canonicalize_params_1-ne0.false),
  refl,
)
