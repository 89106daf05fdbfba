use Rattle.std.proofs.Common.{◌≡◌, ◌∙◌, ◌-◌, ◌/◌, ◌<◌, ◌≤◌, ◌+◌, arith, rules, subst, ap}
use Rattle.std.specs.Prelude.{Err}
use Rattle.vt100_core.specs.Grid.{GridView, IsGrid}
use Rattle.vt100_core.proofs.RepeatLemmas.{prints-then, prints-refused, settles}
use Rattle.vt100_core.proofs.grid.Grid.print_rows.Goals as goal

pub returns-in_err-print_each-in-Ok : goal.returns-in_err-print_each-in-Ok
returns-in_err-print_each-in-Ok g c =
    let is : c.from_residual.result ≡ Err c.in_err-print_each-in-Ok.field-0.0 = search rules in
    let per_row = c.from-per_row.result in
    let some : per_row ≤ c.args.count = omega (arith, c.max.ensures, c.if-count-max.false) in
    rw is (prints-refused {T = Unit {0}} per_row c.args.count c.args.c some c.in_err-print_each-in-Ok.ensures)

pub print_settled-requires-clause-settled : goal.print_settled-requires-clause-settled
print_settled-requires-clause-settled g c =
    let s = c.args.self.now in
    let n = c.args.columns in
    let width = c.cols-cols.ensures ∙ ap (λ (x : GridView). x.width) c.self.view_is in
    let col = ap (λ (x : GridView). x.col) c.self.view_is in
    let all : c.from-per_row.result ≡ s.width / n = c.from-per_row.ensures ∙ ap (λ w. w / n) width in
    let full : s.width < s.col + n = omega (arith, width, col, c.if-self-cols.false, c.requires.fits) in
    settles s c.print_each-in-Ok.new.self c.in-Ok.before c.args.c n c.from-per_row.result c.args.attrs.now
    (subst IsGrid c.self.view_is c.self.invariant) c.requires.allocated c.requires.drawn c.requires.some c.requires.fits
    all full c.in-Ok.ensures c.in_ok-print_each-in-Ok.ensures.grid
    (c.is_drawn_alike.ensures.0 c.if-is_drawn_alike.true)

pub returns-then-is_drawn_alike : goal.returns-then-is_drawn_alike
returns-then-is_drawn_alike g c =
    let per_row = c.from-per_row.result in
    let all : per_row + (c.args.count - per_row) ≡ c.args.count = omega (arith, c.max.ensures, c.if-count-max.false) in
    prints-then {T = Unit {0}} per_row (c.args.count - per_row) c.args.count c.args.c all
    c.in_ok-print_each-in-Ok.ensures c.print_settled.ensures

pub returns-else-is_drawn_alike : goal.returns-else-is_drawn_alike
returns-else-is_drawn_alike g c =
    let per_row = c.from-per_row.result in
    let all : per_row + (c.args.count - per_row) ≡ c.args.count = omega (arith, c.max.ensures, c.if-count-max.false) in
    prints-then {T = Unit {0}} per_row (c.args.count - per_row) c.args.count c.args.c all
    c.in_ok-print_each-in-Ok.ensures c.print_each-in-Ok-2.ensures
