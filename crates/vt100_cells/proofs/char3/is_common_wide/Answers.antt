use Rattle.std.proofs.Common.{sym, arith}
use Rattle.std.proofs.lemmas.Bool.Decides.{nat_tests}
use Rattle.ucd_table.specs.Rows.{in_ranges}
use Rattle.vt100_cells.proofs.WideScripts.{drawn-wide}
use Rattle.vt100_cells.proofs.char3.is_common_wide.Goals as goal

pub returns-in-12288-to-12329-clause-wide : goal.returns-in-12288-to-12329-clause-wide
unfolding in_ranges
returns-in-12288-to-12329-clause-wide c _ = sym (drawn-wide c.args.code (omega arith) (grind (arith, nat_tests))
    (omega arith))

pub returns-in-12288-to-12329-2-clause-wide : goal.returns-in-12288-to-12329-2-clause-wide
unfolding in_ranges
returns-in-12288-to-12329-2-clause-wide c _ = sym (drawn-wide c.args.code (omega arith) (grind (arith, nat_tests))
    (omega arith))

pub returns-in-12288-to-12329-3-clause-wide : goal.returns-in-12288-to-12329-3-clause-wide
unfolding in_ranges
returns-in-12288-to-12329-3-clause-wide c _ = sym (drawn-wide c.args.code (omega arith) (grind (arith, nat_tests))
    (omega arith))

pub returns-in-12288-to-12329-4-clause-wide : goal.returns-in-12288-to-12329-4-clause-wide
unfolding in_ranges
returns-in-12288-to-12329-4-clause-wide c _ = sym (drawn-wide c.args.code (omega arith) (grind (arith, nat_tests))
    (omega arith))

pub returns-in-12288-to-12329-5-clause-wide : goal.returns-in-12288-to-12329-5-clause-wide
unfolding in_ranges
returns-in-12288-to-12329-5-clause-wide c _ = sym (drawn-wide c.args.code (omega arith) (grind (arith, nat_tests))
    (omega arith))

pub returns-in-12288-to-12329-6-clause-wide : goal.returns-in-12288-to-12329-6-clause-wide
unfolding in_ranges
returns-in-12288-to-12329-6-clause-wide c _ = sym (drawn-wide c.args.code (omega arith) (grind (arith, nat_tests))
    (omega arith))

pub returns-in-12288-to-12329-7-clause-wide : goal.returns-in-12288-to-12329-7-clause-wide
unfolding in_ranges
returns-in-12288-to-12329-7-clause-wide c _ = sym (drawn-wide c.args.code (omega arith) (grind (arith, nat_tests))
    (omega arith))
