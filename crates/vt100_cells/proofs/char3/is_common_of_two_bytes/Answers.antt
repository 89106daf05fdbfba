use Rattle.std.proofs.Common.{ℕ, List, slice_index, ap, arith}
use Rattle.vt100_cells.proofs.Char3Lemmas.{told-cyrillic, told-latin}
use Rattle.vt100_cells.proofs.char3.is_common_of_two_bytes.Goals as goal

pub returns-in-195-to-209-clause-narrow : goal.returns-in-195-to-209-clause-narrow
returns-in-195-to-209-clause-narrow c _ =
    let e = ap (λ (l : List ℕ). slice_index l 0) c.as_bytes.ensures.value in
    (told-latin c.args.text.now c.utf8.text c.requires (omega (arith, e)) (omega (arith, e))).columns

pub returns-in-195-to-209-clause-above : goal.returns-in-195-to-209-clause-above
returns-in-195-to-209-clause-above c _ =
    let e = ap (λ (l : List ℕ). slice_index l 0) c.as_bytes.ensures.value in
    (told-latin c.args.text.now c.utf8.text c.requires (omega (arith, e)) (omega (arith, e))).above

pub returns-in-195-to-209-clause-below : goal.returns-in-195-to-209-clause-below
returns-in-195-to-209-clause-below c _ =
    let e = ap (λ (l : List ℕ). slice_index l 0) c.as_bytes.ensures.value in
    (told-latin c.args.text.now c.utf8.text c.requires (omega (arith, e)) (omega (arith, e))).below

pub returns-in-195-to-209-2-clause-narrow : goal.returns-in-195-to-209-2-clause-narrow
returns-in-195-to-209-2-clause-narrow c _ =
    let e = ap (λ (l : List ℕ). slice_index l 0) c.as_bytes.ensures.value in
    (told-cyrillic c.args.text.now c.utf8.text c.requires (omega (arith, e)) (omega (arith, e))).columns

pub returns-in-195-to-209-2-clause-above : goal.returns-in-195-to-209-2-clause-above
returns-in-195-to-209-2-clause-above c _ =
    let e = ap (λ (l : List ℕ). slice_index l 0) c.as_bytes.ensures.value in
    (told-cyrillic c.args.text.now c.utf8.text c.requires (omega (arith, e)) (omega (arith, e))).above

pub returns-in-195-to-209-2-clause-below : goal.returns-in-195-to-209-2-clause-below
returns-in-195-to-209-2-clause-below c _ =
    let e = ap (λ (l : List ℕ). slice_index l 0) c.as_bytes.ensures.value in
    (told-cyrillic c.args.text.now c.utf8.text c.requires (omega (arith, e)) (omega (arith, e))).below
