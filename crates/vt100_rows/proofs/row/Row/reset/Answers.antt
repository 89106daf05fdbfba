use Rattle.std.proofs.Common.{◌≡◌, arith, length, subst, sym, min, List}
use Rattle.vt100_cells.specs.Cell.{CellView}
use Rattle.std.proofs.lemmas.Grind.{common_steps}
use Rattle.vt100_rows.specs.Row.{IsRow, IsBlankFrom, blank_row}
use Rattle.vt100_rows.proofs.RowLemmas.{IsRow-blank}
use Rattle.vt100_rows.proofs.BlankLemmas.{fields-at, blank-min, blank-new}
use Rattle.vt100_rows.proofs.row.Row.reset.Goals as goal

pub reset_prefix-requires-clause-blank : goal.reset_prefix-requires-clause-blank
reset_prefix-requires-clause-blank c =
    let m : c.min-end.result ≡ min c.self.inside.filled (length c.self.inside.cells.items) =
    omega (arith, c.min-end.ensures, c.from.ensures, c.len.ensures, c.self.inside.cells.ok.0) in
    subst (λ (xs : List CellView). IsBlankFrom xs c.min-end.result) (sym c.deref_mut.ensures.value)
    (blank-min c.self.inside.cells.items c.self.inside.filled c.min-end.result c.self.invariant.blank m)

pub invariant_of-self : goal.invariant_of-self
invariant_of-self c =
    fields-at _ _ _ (blank_row (length c.args.self.now.cells)) (grind (arith, common_steps))
    (let r : IsRow c.args.self.now = rw (← c.self.view_is) c.self.invariant.row
    in IsRow-blank (length c.args.self.now.cells) r.narrow)
    (blank-new (length c.args.self.now.cells))
