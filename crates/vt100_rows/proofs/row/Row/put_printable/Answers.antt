use Rattle.std.proofs.Common.{subst, arith, ◌≡◌, ◌==◌, ap, false, refl}
use Rattle.std.proofs.lemmas.Grind.{common_steps}
use Rattle.vt100_cells.specs.Cell.{cell_of}
use Rattle.vt100_cells.proofs.CellLemmas.{IsCell-printable}
use Rattle.vt100_cells.proofs.WidthLemmas.{printable-is}
use Rattle.vt100_rows.specs.Row.{RowView, IsRow, IsBlankFrom, placed}
use Rattle.vt100_rows.proofs.RowLemmas.{IsRow-placed}
use Rattle.vt100_rows.proofs.BlankLemmas.{fields-at, blank-put}
use Rattle.vt100_rows.proofs.row.Row.put_printable.Goals as goal

pub invariant_of-self : goal.invariant_of-self
invariant_of-self c =
    let x = cell_of c.args.c c.args.attrs.now in
    let narrow : x.wide ≡ false = ap (λ n. n == 2) (printable-is c.args.c c.requires.printable).1 in
    fields-at _ _ _ (placed c.args.self.now c.args.col x c.args.attrs.now) (grind (arith, common_steps))
    (IsRow-placed c.args.self.now c.args.col x c.args.attrs.now (rw (← c.self.view_is) c.self.invariant.row)
    (IsCell-printable c.args.c c.args.attrs.now c.requires.printable) refl
    (rw narrow (omega (arith, c.requires.in_row))))
    (let r : IsRow c.args.self.now = rw (← c.self.view_is) c.self.invariant.row in
    let b : IsBlankFrom c.args.self.now.cells c.self.inside.filled = subst (λ (v : RowView). IsBlankFrom v.cells
    c.self.inside.filled) c.self.view_is c.self.invariant.blank in
    blank-put c.args.self.now.cells c.self.inside.filled c.max-self-inside.result c.args.col x c.args.attrs.now r.narrow
    b
    (omega (arith, c.max-self-inside.ensures)) (λ h. grind (arith, common_steps)))

pub returns : goal.returns
returns c =
    let narrow : (cell_of c.args.c c.args.attrs.now).wide ≡ false = ap (λ n. n == 2)
    (printable-is c.args.c c.requires.printable).1 in
    grind (arith, common_steps)
