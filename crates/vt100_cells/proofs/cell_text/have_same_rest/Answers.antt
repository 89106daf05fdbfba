use Rattle.std.proofs.Common.{◌≡◌, ◌<◌, ◌&&◌, ap, arith, length, nat_eq, sym, take, ◌∙◌}
use Rattle.std.specs.Prelude.{slice_index}
use Rattle.vt100_cells.specs.Cell.{text_eq}
use Rattle.vt100_cells.proofs.CellTextLemmas.{text_eq-all, text_eq-next}
use Rattle.vt100_cells.proofs.cell_text.have_same_rest.Goals as goal

pub loop-i-init : goal.loop-i-init
loop-i-init c = λ h. sym h

pub loop-i-preserved : goal.loop-i-preserved
loop-i-preserved c =
    let xs = c.args.bytes.now in
    let ys = c.args.others.now in
    let in_xs : c.loop-i.i < length xs = omega (arith, c.told-bytes, c.loop-i-test.true) in
    let in_ys : c.loop-i.i < length ys = omega (arith, c.told-others, c.loop-i-test.true) in
    λ h. ap (λ b. b && nat_eq (slice_index xs c.loop-i.i) (slice_index ys c.loop-i.i)) (c.loop-i.invariant h)
    ∙ text_eq-next xs ys c.loop-i.i in_xs in_ys

pub returns : goal.returns
returns c =
    let xs = c.args.bytes.now in
    let ys = c.args.others.now in
    let all : c.loop-i.i ≡ 21 = omega arith in
    λ h. c.loop-i.invariant h ∙ ap (λ n. text_eq (take n xs) (take n ys)) all
    ∙ text_eq-all xs ys 21 c.told-bytes c.told-others
