use Rattle.std.proofs.Common.{arith, subst}
use Rattle.std.proofs.lemmas.Grind.{common_steps}
use Rattle.vt100_rows.specs.Row.{RowView, IsRow, IsBlankFrom, placed}
use Rattle.vt100_rows.proofs.RowLemmas.{IsRow-placed}
use Rattle.vt100_rows.proofs.BlankLemmas.{fields-at, blank-put}
use Rattle.vt100_rows.proofs.row.Row.put_cell.Goals as goal

pub invariant_of-self : goal.invariant_of-self
invariant_of-self c =
    fields-at _ _ _ (placed c.args.self.now c.args.col c.args.cell c.args.attrs) (grind (arith, common_steps))
    (IsRow-placed c.args.self.now c.args.col c.args.cell c.args.attrs (rw (← c.self.view_is) c.self.invariant.row)
    c.puts_end.ensures.valid c.requires.text c.requires.in_row)
    (let r : IsRow c.args.self.now = rw (← c.self.view_is) c.self.invariant.row in
    let b : IsBlankFrom c.args.self.now.cells c.self.inside.filled = subst (λ (v : RowView). IsBlankFrom v.cells
    c.self.inside.filled) c.self.view_is c.self.invariant.blank in
    blank-put c.args.self.now.cells c.self.inside.filled c.max-filled.result c.args.col c.args.cell c.args.attrs
    r.narrow b
    (omega (arith, c.max-filled.ensures)) (λ h. grind (arith, common_steps)))
