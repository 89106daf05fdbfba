use Rattle.std.proofs.Common.{◌≡◌, ap, sym, ◌∙◌, false, Option, Some, None}
use Rattle.std.specs.Option.{option_copied, IfSome}
use Rattle.slab.specs.Slab.{get}
use Rattle.screen_model.specs.Call.{ScreenView}
use Rattle.vt100.specs.WriterLaws.{IsUnscrolled}
use Rattle.termrelay.specs.ClientRecord.{base_of, IsBaseOf}
use Rattle.termrelay.specs.Hub.{HubState, as_kept}
use Rattle.termrelay.proofs.HubLemmas.{found-served, served-base}
use Rattle.termrelay.proofs.hub.Hub.whole_frame.Goals as goal

base-unscrolled : (now : ScreenView) (base : Option ScreenView) → IfSome base (IsBaseOf now)
    → IfSome base (λ v. IsUnscrolled v.state)
base-unscrolled now None h = tt
base-unscrolled now (Some v) h = h.unscrolled

pub whole_frame-requires : goal.whole_frame-requires
whole_frame-requires c =
    let p = c.self.inside.parser in
    let s = c.self.inside.clients in
    let r = c.in-Some.field-0.now in
    let live : p.screen.failed ≡ false =
    ap (λ (v : HubState as_kept). v.parser.screen.failed) c.self.view_is ∙ sym c.has_failed.ensures
    ∙ c.if-has_failed.false in
    let found : get s c.key.result ≡ Some r = sym c.get.ensures ∙ ap option_copied c.in-Some.is in
    base-unscrolled p.screen (base_of r.last) (served-base p.screen r.last
    (found-served s c.key.result r p.screen found (c.self.invariant.served live)).last)
