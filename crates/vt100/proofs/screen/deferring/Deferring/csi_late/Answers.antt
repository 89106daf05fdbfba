use Rattle.std.proofs.Common.{◌≡◌, ◌∙◌, sym, refl, arith}
use Rattle.vt100.proofs.DeferringLemmas.{does_late_el, does_late_sgr, IsWide-of}
use Rattle.vt100.proofs.screen.deferring.Deferring.csi_late.Goals as goal

pub returns-in-K : goal.returns-in-K
returns-in-K g c = rw (c.in-K.is, c.proper_attrs.ensures) (
  does_late_el c.args.params.now c.args.self.now.erasing _ _ (IsWide-of _ (c.is_live.ensures.live c.requires))
      c.requires (sym c.canonicalize_params_1.ensures ∙ c.if-canonicalize_params_1-eq0.true),
  refl,
)

pub returns-in-m : goal.returns-in-m
returns-in-m g c = rw c.in-m.is (
  does_late_sgr c.args.params.now c.args.self.now.erasing (c.are_frequent.ensures c.if-are_frequent.true)
      c.sgr_csi.ensures,
  refl,
)
