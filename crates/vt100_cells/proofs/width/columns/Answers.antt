use Rattle.std.proofs.Common.{arith}
use Rattle.std.proofs.lemmas.Bool.Decides.{nat_tests}
use Rattle.ucd_table.specs.Rows.{in_ranges}
use Rattle.vt100_cells.proofs.WidthLemmas.{drawn-ascii}
use Rattle.vt100_cells.proofs.NarrowScripts.{drawn-narrow}
use Rattle.vt100_cells.proofs.WideScripts.{drawn-wide}
use Rattle.vt100_cells.proofs.JoiningMarks.{drawn-joining}
use Rattle.vt100_cells.proofs.width.columns.Goals as goal

pub returns-in-32-to-126 : goal.returns-in-32-to-126
returns-in-32-to-126 c = drawn-ascii c.args.c (omega arith) (omega arith)

pub returns-in-32-to-126-2 : goal.returns-in-32-to-126-2
unfolding in_ranges
returns-in-32-to-126-2 c = drawn-narrow c.args.c (omega arith) (grind (arith, nat_tests)) (omega arith)

pub returns-in-32-to-126-3 : goal.returns-in-32-to-126-3
unfolding in_ranges
returns-in-32-to-126-3 c = drawn-narrow c.args.c (omega arith) (grind (arith, nat_tests)) (omega arith)

pub returns-in-32-to-126-4 : goal.returns-in-32-to-126-4
unfolding in_ranges
returns-in-32-to-126-4 c = drawn-narrow c.args.c (omega arith) (grind (arith, nat_tests)) (omega arith)

pub returns-in-32-to-126-5 : goal.returns-in-32-to-126-5
unfolding in_ranges
returns-in-32-to-126-5 c = drawn-narrow c.args.c (omega arith) (grind (arith, nat_tests)) (omega arith)

pub returns-in-32-to-126-6 : goal.returns-in-32-to-126-6
unfolding in_ranges
returns-in-32-to-126-6 c = drawn-narrow c.args.c (omega arith) (grind (arith, nat_tests)) (omega arith)

pub returns-in-32-to-126-7 : goal.returns-in-32-to-126-7
unfolding in_ranges
returns-in-32-to-126-7 c = drawn-narrow c.args.c (omega arith) (grind (arith, nat_tests)) (omega arith)

pub returns-in-32-to-126-8 : goal.returns-in-32-to-126-8
unfolding in_ranges
returns-in-32-to-126-8 c = drawn-narrow c.args.c (omega arith) (grind (arith, nat_tests)) (omega arith)

pub returns-in-32-to-126-9 : goal.returns-in-32-to-126-9
unfolding in_ranges
returns-in-32-to-126-9 c = drawn-narrow c.args.c (omega arith) (grind (arith, nat_tests)) (omega arith)

pub returns-in-32-to-126-10 : goal.returns-in-32-to-126-10
unfolding in_ranges
returns-in-32-to-126-10 c = drawn-narrow c.args.c (omega arith) (grind (arith, nat_tests)) (omega arith)

pub returns-in-32-to-126-11 : goal.returns-in-32-to-126-11
unfolding in_ranges
returns-in-32-to-126-11 c = drawn-narrow c.args.c (omega arith) (grind (arith, nat_tests)) (omega arith)

pub returns-in-768-to-823 : goal.returns-in-768-to-823
unfolding in_ranges
returns-in-768-to-823 c = drawn-joining c.args.c (omega arith) (grind (arith, nat_tests)) (omega arith)

pub returns-in-768-to-823-2 : goal.returns-in-768-to-823-2
unfolding in_ranges
returns-in-768-to-823-2 c = drawn-joining c.args.c (omega arith) (grind (arith, nat_tests)) (omega arith)

pub returns-in-19968-to-40959 : goal.returns-in-19968-to-40959
unfolding in_ranges
returns-in-19968-to-40959 c = drawn-wide c.args.c (omega arith) (grind (arith, nat_tests)) (omega arith)

pub returns-in-19968-to-40959-2 : goal.returns-in-19968-to-40959-2
unfolding in_ranges
returns-in-19968-to-40959-2 c = drawn-wide c.args.c (omega arith) (grind (arith, nat_tests)) (omega arith)

pub returns-in-19968-to-40959-3 : goal.returns-in-19968-to-40959-3
unfolding in_ranges
returns-in-19968-to-40959-3 c = drawn-wide c.args.c (omega arith) (grind (arith, nat_tests)) (omega arith)

pub returns-in-19968-to-40959-4 : goal.returns-in-19968-to-40959-4
unfolding in_ranges
returns-in-19968-to-40959-4 c = drawn-wide c.args.c (omega arith) (grind (arith, nat_tests)) (omega arith)
