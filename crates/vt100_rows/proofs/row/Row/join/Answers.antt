use Rattle.std.proofs.Common.{ap, ◌∙◌, sym, ◌≤◌, length, arith}
use Rattle.std.proofs.lemmas.Bool.{ne_eqb}
use Rattle.vt100_rows.specs.Row.{RowView, join_row}
use Rattle.vt100_rows.proofs.JoinLemmas.{IsRow-join, joins-in_place, joins-full, joins-narrow}
use Rattle.vt100_cells.specs.Cells.{cell_at}
use Rattle.vt100_rows.proofs.RowLemmas.{IsRow-at}
use Rattle.vt100_rows.proofs.BlankLemmas.{blank-set, base-before}
use Rattle.vt100_rows.proofs.row.Row.join.Goals as goal

pub returns-then-not-is_widened-clause-row : goal.returns-then-not-is_widened-clause-row
returns-then-not-is_widened-clause-row c =
    let within : c.args.col ≤ length c.self.inside.cells.items =
    omega (arith, c.requires.in_row, ap (λ (v : RowView). length v.cells) c.self.view_is) in
    joins-in_place (record { cells = c.self.inside.cells.items; wrapped = c.self.inside.wrapped }) c.deref.result.now
    c.deref-3.result.now c.args.col c.from.result c.base_col-base.result c.args.c
    c.joined-joined.result c.at-2.result.now c.args.attrs c.deref.ensures.value c.deref-3.ensures.value c.from.ensures
    c.base_col-base.ensures c.at-2.ensures c.joined-joined.ensures
    (sym c.is_widened.ensures ∙ c.if-not-is_widened.true) c.requires.after_some within
    ∙ ap (λ (v : RowView). join_row v c.args.col c.args.c c.args.attrs) c.self.view_is

pub returns-then-not-has_room-clause-row : goal.returns-then-not-has_room-clause-row
returns-then-not-has_room-clause-row c =
    let within : c.args.col ≤ length c.self.inside.cells.items =
    omega (arith, c.requires.in_row, ap (λ (v : RowView). length v.cells) c.self.view_is) in
    sym c.self.view_is ∙ joins-full (record { cells = c.self.inside.cells.items; wrapped = c.self.inside.wrapped })
    c.deref.result.now c.deref-2.result.now c.args.col c.from.result c.base_col-base.result c.args.c
    c.at.result.now c.args.attrs c.deref.ensures.value c.deref-2.ensures.value c.from.ensures c.base_col-base.ensures
    c.at.ensures
    (sym c.has_room.ensures ∙ c.if-not-has_room.true) c.requires.after_some within
    ∙ ap (λ (v : RowView). join_row v c.args.col c.args.c c.args.attrs) c.self.view_is

pub invariant_of-self : goal.invariant_of-self
invariant_of-self c = record {
  row = IsRow-at _ (join_row c.args.self.now c.args.col c.args.c c.args.attrs)
      (returns-then-not-is_widened-clause-row c)
      (IsRow-join c.args.self.now c.args.col c.args.c c.args.attrs (rw (← c.self.view_is) c.self.invariant.row)
      c.ranges.c.0 c.requires.zero_width c.requires.after_some c.requires.in_row);
  blank = blank-set c.self.inside.cells.items c.self.inside.filled c.max-self-inside.result c.base_col-base.result
      c.joined-joined.result c.self.invariant.blank (omega (arith, c.max-self-inside.ensures))
      (omega (
        arith,
        c.max-self-inside.ensures,
        c.base_col-base.ensures,
        c.from.ensures,
        base-before (cell_at c.deref.result.now) c.from.result (omega (arith, c.from.ensures, c.requires.after_some)),
      ));
}

pub returns-then-c-ne65039-clause-row : goal.returns-then-c-ne65039-clause-row
returns-then-c-ne65039-clause-row c =
    c.join_in_place.ensures
    ∙ (joins-narrow c.args.self.now c.args.col c.args.c c.args.attrs (ne_eqb c.args.c 0xFE0F c.if-c-ne65039.true)).0

pub returns-then-c-ne65039-clause-answer : goal.returns-then-c-ne65039-clause-answer
returns-then-c-ne65039-clause-answer c =
    (joins-narrow c.args.self.now c.args.col c.args.c c.args.attrs (ne_eqb c.args.c 0xFE0F c.if-c-ne65039.true)).1
