use Rattle.std.proofs.Common.{arith, refl, ap, ◌∙◌, ◌≡◌, ◌≤◌, ◌-◌, length, take, length-take}
use Rattle.vt100_rows.specs.Row.{RowView, unwrapped}
use Rattle.vt100_rows.proofs.WidthLemmas.{firsts, firsts-all}
use Rattle.vt100_rows.proofs.sheet.Sheet.keep_first.Goals as goal

pub returns-then-height-len : goal.returns-then-height-len
returns-then-height-len c =
    let height = c.from-height.result in
    let kept : c.cut.new.self ≡ take c.args.height c.args.self.now =
    c.cut.ensures ∙ ap (λ n. take n c.args.self.now) c.from-height.ensures in
    let many : height ≤ length c.cut.new.self = omega (arith, c.len.ensures) in
    let enough : c.args.height ≤ length c.args.self.now = omega (
      arith,
      many,
      c.from-height.ensures,
      ap length kept,
      length-take c.args.height c.args.self.now,
    ) in
    firsts c.args.self.now c.cut.new.self _ c.args.height (height - 1) c.wrap.new.self c.requires enough kept
    (omega arith)
    (c.wrap.ensures ∙ ap (λ (v : RowView). unwrapped v) c.index_mut.ensures.value) refl

pub returns-else-height-len : goal.returns-else-height-len
returns-else-height-len c =
    let kept : c.cut.new.self ≡ take c.args.height c.args.self.now =
    c.cut.ensures ∙ ap (λ n. take n c.args.self.now) c.from-height.ensures in
    firsts-all c.args.self.now c.cut.new.self c.args.height (omega (
      arith,
      c.len.ensures,
      c.from-height.ensures,
      ap length kept,
      length-take c.args.height c.args.self.now,
    )) kept
