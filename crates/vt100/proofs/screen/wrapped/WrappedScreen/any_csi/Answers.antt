use Rattle.std.proofs.Common.{◌≡◌, ◌-◌, arith}
use Rattle.screen_model.specs.Effect.{changes, later, number_or}
use Rattle.screen_model.specs.Step.{in_region}
use Rattle.vt100.proofs.EventLemmas.{does_as, does_change, does_scroll, plain_does}
use Rattle.vt100.proofs.screen.wrapped.WrappedScreen.any_csi.Goals as goal

pub returns-in-64 : goal.returns-in-64
returns-in-64 g c = plain_does _ c.in-64.is (does_change (rw c.canonicalize_params_1.ensures at c.ich.ensures))

pub returns-in-A : goal.returns-in-A
returns-in-A g c = plain_does _ c.in-A.is (does_change (rw c.canonicalize_params_1-in-A.ensures at c.cuu.ensures))

pub returns-in-B : goal.returns-in-B
returns-in-B g c = plain_does _ c.in-B.is (does_change (rw c.canonicalize_params_1-in-B.ensures at c.cud.ensures))

pub returns-in-C : goal.returns-in-C
returns-in-C g c = plain_does _ c.in-C.is (does_change (rw c.canonicalize_params_1-in-C.ensures at c.cuf.ensures))

pub returns-in-D : goal.returns-in-D
returns-in-D g c = plain_does _ c.in-D.is (does_change (rw c.canonicalize_params_1-in-D.ensures at c.cub.ensures))

pub returns-in-E : goal.returns-in-E
returns-in-E g c = plain_does _ c.in-E.is (does_change (rw c.canonicalize_params_1-in-E.ensures at c.cnl.ensures))

pub returns-in-F : goal.returns-in-F
returns-in-F g c = plain_does _ c.in-F.is (does_change (rw c.canonicalize_params_1-in-F.ensures at c.cpl.ensures))

pub returns-in-G : goal.returns-in-G
returns-in-G g c = plain_does _ c.in-G.is (does_change (rw c.canonicalize_params_1-in-G.ensures at c.cha.ensures))

pub returns-in-H : goal.returns-in-H
returns-in-H g c =
    let n = c.canonicalize_params_2.ensures in
    plain_does _ c.in-H.is (does_change (rw n.second at (rw n.first at c.cup.ensures)))

pub returns-in-L : goal.returns-in-L
returns-in-L g c = plain_does _ c.in-L.is (does_change (rw c.canonicalize_params_1-in-L.ensures at c.il.ensures))

pub returns-in-M : goal.returns-in-M
returns-in-M g c = plain_does _ c.in-M.is (does_change (rw c.canonicalize_params_1-in-M.ensures at c.dl.ensures))

pub returns-in-P : goal.returns-in-P
returns-in-P g c = plain_does _ c.in-P.is (does_change (rw c.canonicalize_params_1-in-P.ensures at c.dch.ensures))

pub returns-in-S : goal.returns-in-S
returns-in-S g c = plain_does _ c.in-S.is (does_scroll (rw c.canonicalize_params_1-in-S.ensures at c.su.ensures))

pub returns-in-T : goal.returns-in-T
returns-in-T g c = plain_does _ c.in-T.is (does_change (rw c.canonicalize_params_1-in-T.ensures at c.sd.ensures))

pub returns-in-X : goal.returns-in-X
returns-in-X g c = plain_does _ c.in-X.is (does_change (rw c.canonicalize_params_1-in-X.ensures at c.ech.ensures))

pub returns-in-96 : goal.returns-in-96
returns-in-96 g c = plain_does _ c.in-96.is (does_change (rw c.canonicalize_params_1-in-96.ensures at c.hpa.ensures))

pub returns-in-b : goal.returns-in-b
returns-in-b g c = plain_does _ c.in-b.is (does_scroll (rw c.canonicalize_params_1-in-b.ensures at c.rep.ensures))

pub returns-in-d : goal.returns-in-d
returns-in-d g c = plain_does _ c.in-d.is (does_change (rw c.canonicalize_params_1-in-d.ensures at c.vpa.ensures))

pub returns-in-f : goal.returns-in-f
returns-in-f g c =
    let n = c.canonicalize_params_2-in-f.ensures in
    plain_does _ c.in-f.is (does_change (rw n.second at (rw n.first at c.cup-in-f.ensures)))

pub returns-in-r : goal.returns-in-r
returns-in-r g c =
    let gs = c.args.params.now in
    let s = c.args.self.now.screen.state in
    let r = c.canonicalize_params_2-in-r.result in
    let top : r.0 ≡ number_or 1 gs = c.canonicalize_params_2-in-r.ensures.first in
    let bottom : r.1 ≡ number_or s.shown.height (later gs) = grind arith in
    plain_does _ c.in-r.is (does_as (λ t. changes (in_region (r.0 - 1) (r.1 - 1) t))
    (λ i. changes (in_region (top i - 1) (bottom i - 1) s)) (does_change c.decstbm.ensures))
