use Rattle.std.proofs.Common.{ap, arith, length, length-append, ◌∙◌}
use Rattle.vt100_cells.proofs.CellTexts.{text-short}
use Rattle.vt100_cells.proofs.cell.Cell.push_contents.Goals as goal

pub push_str-requires : goal.push_str-requires
push_str-requires c =
    let few = text-short _ c.self.invariant in
    let same = ap length c.as_str.ensures.bytes in
    omega (arith, c.requires, few, same)

pub returns-else-has_text_of_four-clause-few : goal.returns-else-has_text_of_four-clause-few
returns-else-has_text_of_four-clause-few c =
    let few = text-short _ c.self.invariant in
    let same = ap length c.as_str.ensures.bytes in
    let all = ap length c.push_str.ensures ∙ length-append c.args.run.now _ in
    omega (arith, few, same, all)
