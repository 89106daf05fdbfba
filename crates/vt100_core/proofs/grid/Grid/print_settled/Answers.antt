use Rattle.std.proofs.Common.{◌≡◌, ◌∙◌, ◌+◌, ◌*◌, ◌/◌, ◌%◌, ◌==◌, ◌&&◌, false, arith, rules, ap, refl}
use Rattle.std.specs.Prelude.{Err}
use Rattle.std.proofs.lemmas.Nat.{div-add-mod'}
use Rattle.vt100_core.proofs.RepeatLemmas.{prints-then, prints-refused, quiet-prints, settled-prints, settled-refuses}
use Rattle.vt100_core.proofs.RepeatLemmas.{alike-next, row-within}
use Rattle.vt100_core.proofs.grid.Grid.print_settled.Goals as goal

pub returns-then-not-first_row_leaves : goal.returns-then-not-first_row_leaves
returns-then-not-first_row_leaves g c =
    let s = c.args.self.now in
    let m = c.args.per_row in
    let n = c.args.count in
    let quiet : ((s.top == 0) && (s.row == s.bottom)) ≡ false = search rules in
    prints-then {T = Unit {0}} (n / m * m) (n % m) n c.args.c (div-add-mod' n m)
    (quiet-prints {T = Unit {0}} {x = tt} (n / m) s c.args.c c.args.columns m c.args.attrs.now
    c.first_row_leaves.ensures.valid c.requires.allocated c.requires.settled quiet) c.print_each.ensures

pub loop-i-preserved : goal.loop-i-preserved
loop-i-preserved g c =
    let m = c.args.per_row in
    let i = c.loop-i._i in
    let e = c.in_ok-keep_first-in-Ok.ensures in
    let count : i * m + m ≡ (i + 1) * m = grind arith in
    record {
      printed = prints-then (i * m) m ((i + 1) * m) c.args.c count c.loop-i.invariant.printed
          (settled-prints {U = Unit {0}} {y = tt} c.args.c c.args.columns m c.args.attrs.now
          c.first_row_leaves.ensures.valid c.requires.allocated c.requires.settled c.loop-i.invariant.alike e.scrolls);
      alike = alike-next c.args.self.now c.loop-i.self c.keep_first.new.self c.loop-i.invariant.alike e.scrolls.grid;
      spare = e.spare ∙ c.loop-i.invariant.spare;
    }

pub returns-in_err-keep_first-in-Ok : goal.returns-in_err-keep_first-in-Ok
returns-in_err-keep_first-in-Ok g c =
    let m = c.args.per_row in
    let i = c.loop-i._i in
    let is : c.from_residual.result ≡ Err c.in_err-keep_first-in-Ok.field-0.0 = search rules in
    rw is (prints-refused {T = Unit {0}} (i * m + m) c.args.count c.args.c (row-within i m c.args.count c.requires.settled.some
    (omega arith))
    (prints-then (i * m) m (i * m + m) c.args.c refl c.loop-i.invariant.printed
    (settled-refuses {U = Unit {0}} c.args.c c.args.columns m c.args.attrs.now c.first_row_leaves.ensures.valid
    c.requires.allocated c.requires.settled c.loop-i.invariant.alike c.in_err-keep_first-in-Ok.ensures.scrolls)))

pub returns-after-loop-i : goal.returns-after-loop-i
returns-after-loop-i g c =
    let m = c.args.per_row in
    let n = c.args.count in
    let done : c.loop-i._i ≡ n / m = omega arith in
    prints-then (c.loop-i._i * m) (n % m) n c.args.c (ap (λ k. k * m + n % m) done ∙ div-add-mod' n m)
    c.loop-i.invariant.printed c.print_each-in-Ok.ensures
