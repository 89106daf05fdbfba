use Rattle.std.proofs.Common.{arith, rules, ap, ◌∙◌}
use Rattle.std.specs.Prelude.{Some}
use Rattle.vt100_core.proofs.TextLemmas.{hidden-is, IsDrawn-shown, printed-dropped, printed-joined}
use Rattle.vt100_core.proofs.TextLemmas.{printed-spaced}
use Rattle.vt100_core.proofs.grid.Grid.any_text.Goals as goal

pub join-requires-clause-zero_width : goal.join-requires-clause-zero_width
join-requires-clause-zero_width g c =
    (IsDrawn-shown c.args.self.now c.args.c c.in-Some.columns c.in-Some.ensures).drawn ∙ ap Some c.if-columns-eq0.true

pub join-requires-clause-after_some : goal.join-requires-clause-after_some
join-requires-clause-after_some g c =
    (IsDrawn-shown c.args.self.now c.args.c c.in-Some.columns c.in-Some.ensures).after c.if-columns-eq0.true

pub space-requires-clause-drawn : goal.space-requires-clause-drawn
space-requires-clause-drawn g c = (IsDrawn-shown c.args.self.now c.args.c c.in-Some.columns c.in-Some.ensures).drawn

pub space-requires-clause-fits : goal.space-requires-clause-fits
space-requires-clause-fits g c = (IsDrawn-shown c.args.self.now c.args.c c.in-Some.columns c.in-Some.ensures).fits

pub returns-in-None : goal.returns-in-None
returns-in-None g c =
    rw (printed-dropped c.args.self.now c.args.c c.args.attrs (hidden-is _ _ c.in-None.ensures)) (search rules)

pub returns-then-columns-eq0 : goal.returns-then-columns-eq0
returns-then-columns-eq0 g c =
    let d = IsDrawn-shown c.args.self.now c.args.c c.in-Some.columns c.in-Some.ensures in
    rw (printed-joined c.args.self.now c.args.c c.args.attrs d.kept (d.columns ∙ c.if-columns-eq0.true)) c.join.ensures

pub returns-else-columns-eq0 : goal.returns-else-columns-eq0
returns-else-columns-eq0 g c =
    let d = IsDrawn-shown c.args.self.now c.args.c c.in-Some.columns c.in-Some.ensures in
    rw (printed-spaced c.args.self.now c.args.c c.args.attrs d.kept (omega (arith, d.columns))) c.space.ensures
