use Rattle.std.proofs.Common.{arith, ◌≡◌, ◌-◌, ◌∙◌, true, false, not, sym}
use Rattle.vt100_cells.specs.Cell.{is_default}
use Rattle.vt100_cells.specs.Cells.{cell_at}
use Rattle.std.proofs.lemmas.Bool.{not-true}
use Rattle.vt100_cells.proofs.TrimLemmas.{trimmed_len-step, trimmed_len-stop, not-false}
use Rattle.vt100_cells.proofs.line.trimmed_len.Goals as goal

pub loop-n-preserved : goal.loop-n-preserved
loop-n-preserved c =
    let xs = c.args.cells.now in
    let e : not (is_default (cell_at xs (c.loop-n.n - 1))) ≡ false = cc in
    record {
      within = omega arith;
      same = c.loop-n.invariant.same ∙ trimmed_len-step xs (c.loop-n.n - 1) c.loop-n.n (omega arith)
          c.loop-n.invariant.within (not-false (is_default (cell_at xs (c.loop-n.n - 1))) e);
    }

pub returns-then-not-is_default-clause-value : goal.returns-then-not-is_default-clause-value
returns-then-not-is_default-clause-value c =
    let xs = c.args.cells.now in
    let e : not (is_default (cell_at xs (c.loop-n.n - 1))) ≡ true = cc in
    sym (c.loop-n.invariant.same ∙ trimmed_len-stop xs (c.loop-n.n - 1) c.loop-n.n (omega arith)
    c.loop-n.invariant.within (not-true (is_default (cell_at xs (c.loop-n.n - 1))) e))
