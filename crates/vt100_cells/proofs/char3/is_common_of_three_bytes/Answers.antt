use Rattle.std.proofs.Common.{ℕ, List, slice_index, ap, arith}
use Rattle.std.proofs.lemmas.Bool.Decides.{nat_tests}
use Rattle.vt100_cells.proofs.Char3Lemmas.{told-box}
use Rattle.vt100_cells.proofs.char3.is_common_of_three_bytes.Goals as goal

pub returns-in-226-clause-narrow : goal.returns-in-226-clause-narrow
returns-in-226-clause-narrow c _ =
    let e = ap (λ (l : List ℕ). slice_index l 0) c.as_bytes-bytes.ensures.value in
    let e1 = ap (λ (l : List ℕ). slice_index l 1) c.as_bytes-bytes.ensures.value in
    (told-box c.args.text.now c.utf8.text c.requires (omega (arith, e)) (grind (arith, nat_tests, e1)) (grind (arith, nat_tests, e1))).columns

pub returns-in-226-clause-above : goal.returns-in-226-clause-above
returns-in-226-clause-above c _ =
    let e = ap (λ (l : List ℕ). slice_index l 0) c.as_bytes-bytes.ensures.value in
    let e1 = ap (λ (l : List ℕ). slice_index l 1) c.as_bytes-bytes.ensures.value in
    (told-box c.args.text.now c.utf8.text c.requires (omega (arith, e)) (grind (arith, nat_tests, e1)) (grind (arith, nat_tests, e1))).above

pub returns-in-226-clause-below : goal.returns-in-226-clause-below
returns-in-226-clause-below c _ =
    let e = ap (λ (l : List ℕ). slice_index l 0) c.as_bytes-bytes.ensures.value in
    let e1 = ap (λ (l : List ℕ). slice_index l 1) c.as_bytes-bytes.ensures.value in
    (told-box c.args.text.now c.utf8.text c.requires (omega (arith, e)) (grind (arith, nat_tests, e1)) (grind (arith, nat_tests, e1))).below
