use Rattle.std.proofs.Common.{◌≡◌, ◌∙◌, ◌++◌, ap, arith, drop, take, length, length-take, replicate}
use Rattle.vt100_rows.proofs.BlankLemmas.{resets-prefix}
use Rattle.vt100_rows.proofs.row.reset_prefix.Goals as goal

pub returns : goal.returns
returns c =
    let cells = c.args.cells.now in
    let prefix : length (take c.args.end cells) ≡ c.args.end = omega (
      arith,
      length-take c.args.end cells,
      c.requires.in_row,
    ) in
    ap (λ xs. xs ++ drop c.args.end cells) (c.fill.ensures.after (λ y e. e) ∙ ap (λ n. replicate n c.new.result) prefix
    ∙ ap (replicate c.args.end) c.new.ensures)
    ∙ resets-prefix cells c.args.end c.requires.in_row c.requires.blank
