use Rattle.std.proofs.Common.{◌≡◌, ◌∙◌, ◌+◌, ◌-◌, ◌≤◌, ◌++◌, ℕ, List, ap, sym, arith, take, drop, length}
use Rattle.vte_core.specs.Bytes.{each, is_c0}
use Rattle.vte_core.proofs.PhaseLemmas.{each-append}
use Rattle.vte_core.proofs.text.control_block_len.Goals as goal
use lib.Seq.{take-add}

pub loop-len-preserved : goal.loop-len-preserved
loop-len-preserved c =
    let bs = c.args.bytes.now in
    let i = c.loop-len.len in
    let inv = c.loop-len.invariant in
    let within : i + 16 ≤ length bs = omega (arith, c.loop-len-test.true, inv.within) in
    let len : i + 16 - i ≡ 16 = omega arith in
    let block : List ℕ = take (i + 16 - i) (drop i bs) in
    let more : take (i + 16) bs ≡ take i bs ++ block =
    take-add i 16 bs ∙ ap (λ (n : ℕ). take i bs ++ take n (drop i bs)) (sym len) in
    record {
      within = within;
      controls = ap (each is_c0) more
          ∙ each-append is_c0 (take i bs) block inv.controls (c.are_controls.ensures c.if-are_controls.true);
    }
