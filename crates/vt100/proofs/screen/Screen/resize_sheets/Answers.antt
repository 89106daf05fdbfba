use Rattle.std.proofs.Common.{Bool, cond, not, ap, subst, ◌∙◌, arith}
use Rattle.vt100_core.specs.Resize.{KeepsNoMore}
use Rattle.vt100.proofs.ReceiveLemmas.{ok-along}
use Rattle.vt100.proofs.ProperScreens.{settled_screen}
use Rattle.vt100.proofs.screen.Screen.resize_sheets.Goals as goal

pub invariant_of-self : goal.invariant_of-self
invariant_of-self g c =
    let r = c.resize_both-resized in
    settled_screen c.self.inside r.new.alternate r.new.main c.args.size.rows.value c.args.size.cols.value r.result
    c.note_failure.result c.note_failure.new.failed c.self.invariant c.note_failure.ensures.done
    c.note_failure.ensures.same
    c.note_failure.ensures.failed r.ensures.alternate r.ensures.main r.ensures.alternate_keeps r.ensures.main_keeps
    r.ensures.alternate_allocated r.ensures.main_allocated

pub invariant_of-self-2 : goal.invariant_of-self-2
invariant_of-self-2 g c =
    let r = c.resize_both-resized-2 in
    settled_screen c.self.inside r.new.main r.new.alternate c.args.size.rows.value c.args.size.cols.value r.result
    c.note_failure-2.result c.note_failure-2.new.failed c.self.invariant c.note_failure-2.ensures.done
    c.note_failure-2.ensures.same
    c.note_failure-2.ensures.failed r.ensures.main r.ensures.alternate r.ensures.main_keeps r.ensures.alternate_keeps
    r.ensures.main_allocated r.ensures.alternate_allocated

pub returns-then-self-2-clause-smaller : goal.returns-then-self-2-clause-smaller
returns-then-self-2-clause-smaller g c = rw (← c.self.view_is) (λ live size.
    let i = c.self.invariant in
    let r = c.resize_both-resized in
    let main = subst (λ (b : Bool). KeepsNoMore (cond b c.self.inside.other_grid c.self.inside.grid)
    c.args.size.rows.value) c.if-self-2.true size.2 in
    ok-along r.result c.note_failure.result c.note_failure.ensures.refused
    (r.ensures.smaller (omega (arith, size.0, i.height live)) (omega (arith, size.1, i.width live)) main
    size.0 size.1 (i.shown_keeps ∙ ap not c.if-self-2.true)))

pub returns-clause-smaller : goal.returns-clause-smaller
returns-clause-smaller g c = rw (← c.self.view_is) (λ live size.
    let i = c.self.invariant in
    let r = c.resize_both-resized-2 in
    let main = subst (λ (b : Bool). KeepsNoMore (cond b c.self.inside.other_grid c.self.inside.grid)
    c.args.size.rows.value) c.if-self-2.false size.2 in
    ok-along r.result c.note_failure-2.result c.note_failure-2.ensures.refused
    (r.ensures.smaller size.0 size.1 main (omega (arith, size.0, i.height live)) (omega (arith, size.1, i.width live))
    (i.other_keeps ∙ c.if-self-2.false)))
