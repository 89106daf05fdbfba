use Rattle.std.proofs.Common.{◌≡◌, ◌<◌, ◌&&◌, ap, arith, length, nat_eq, refl, take, ◌∙◌}
use Rattle.std.specs.Prelude.{slice_index}
use Rattle.vt100_cells.specs.Cell.{text_eq}
use Rattle.vt100_cells.proofs.CellTextLemmas.{text_eq-next}
use Rattle.vt100_cells.proofs.cell_text.have_same_start.Goals as goal

pub loop-i-init : goal.loop-i-init
loop-i-init c = refl

pub loop-i-preserved : goal.loop-i-preserved
loop-i-preserved c =
    let xs = c.args.bytes.now in
    let ys = c.args.others.now in
    let in_xs : c.loop-i.i < length xs = omega (arith, c.told-bytes, c.loop-i-test.true) in
    let in_ys : c.loop-i.i < length ys = omega (arith, c.told-others, c.loop-i-test.true) in
    ap (λ b. b && nat_eq (slice_index xs c.loop-i.i) (slice_index ys c.loop-i.i)) c.loop-i.invariant
    ∙ text_eq-next xs ys c.loop-i.i in_xs in_ys

pub returns : goal.returns
returns c =
    let xs = c.args.bytes.now in
    let ys = c.args.others.now in
    let all : c.loop-i.i ≡ 5 = omega arith in
    c.loop-i.invariant ∙ ap (λ n. text_eq (take n xs) (take n ys)) all
