use Rattle.std.proofs.Common.{sym, arith}
use Rattle.std.proofs.lemmas.Bool.Decides.{nat_tests}
use Rattle.ucd_table.specs.Rows.{in_ranges}
use Rattle.vt100_cells.proofs.NarrowScripts.{drawn-narrow}
use Rattle.vt100_cells.proofs.char3.is_common_three.Goals as goal

pub returns-in-7680-to-8191-clause-narrow : goal.returns-in-7680-to-8191-clause-narrow
unfolding in_ranges
returns-in-7680-to-8191-clause-narrow c _ = (
  grind (arith, nat_tests),
  sym (drawn-narrow c.args.code (omega arith)
      (grind (arith, nat_tests)) (omega arith)),
)

pub returns-in-7680-to-8191-2-clause-narrow : goal.returns-in-7680-to-8191-2-clause-narrow
unfolding in_ranges
returns-in-7680-to-8191-2-clause-narrow c _ = (
  grind (arith, nat_tests),
  sym (drawn-narrow c.args.code (omega arith)
      (grind (arith, nat_tests)) (omega arith)),
)

pub returns-in-7680-to-8191-3-clause-narrow : goal.returns-in-7680-to-8191-3-clause-narrow
unfolding in_ranges
returns-in-7680-to-8191-3-clause-narrow c _ = (
  grind (arith, nat_tests),
  sym (drawn-narrow c.args.code (omega arith)
      (grind (arith, nat_tests)) (omega arith)),
)

pub returns-in-7680-to-8191-4-clause-narrow : goal.returns-in-7680-to-8191-4-clause-narrow
unfolding in_ranges
returns-in-7680-to-8191-4-clause-narrow c _ = (
  grind (arith, nat_tests),
  sym (drawn-narrow c.args.code (omega arith)
      (grind (arith, nat_tests)) (omega arith)),
)

pub returns-in-7680-to-8191-5-clause-narrow : goal.returns-in-7680-to-8191-5-clause-narrow
unfolding in_ranges
returns-in-7680-to-8191-5-clause-narrow c _ = (
  grind (arith, nat_tests),
  sym (drawn-narrow c.args.code (omega arith)
      (grind (arith, nat_tests)) (omega arith)),
)

pub returns-then-matches-clause-narrow : goal.returns-then-matches-clause-narrow
unfolding in_ranges
returns-then-matches-clause-narrow c _ = (
  grind (arith, nat_tests),
  sym (drawn-narrow c.args.code (omega arith)
      (grind (arith, nat_tests)) (omega arith)),
)
