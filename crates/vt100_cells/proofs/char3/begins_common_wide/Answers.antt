use Rattle.std.proofs.Common.{ℕ, List, slice_index, ap, arith}
use Rattle.vt100_cells.proofs.Char3Lemmas.{told-hangul, told-ideograph, begins-three}
use Rattle.vt100_cells.proofs.char3.begins_common_wide.Goals as goal

pub returns-in-228-to-233-clause-begins : goal.returns-in-228-to-233-clause-begins
returns-in-228-to-233-clause-begins c _ =
    let e = ap (λ (l : List ℕ). slice_index l 0) c.as_bytes.ensures.value in
    begins-three c.args.text.now c.utf8.text (omega (arith, e)) (omega (arith, e))

pub returns-in-228-to-233-clause-wide : goal.returns-in-228-to-233-clause-wide
returns-in-228-to-233-clause-wide c _ =
    let e = ap (λ (l : List ℕ). slice_index l 0) c.as_bytes.ensures.value in
    (told-ideograph c.args.text.now c.utf8.text (omega (arith, e)) (omega (arith, e))).columns

pub returns-in-228-to-233-clause-above : goal.returns-in-228-to-233-clause-above
returns-in-228-to-233-clause-above c _ =
    let e = ap (λ (l : List ℕ). slice_index l 0) c.as_bytes.ensures.value in
    (told-ideograph c.args.text.now c.utf8.text (omega (arith, e)) (omega (arith, e))).above

pub returns-in-228-to-233-clause-below : goal.returns-in-228-to-233-clause-below
returns-in-228-to-233-clause-below c _ =
    let e = ap (λ (l : List ℕ). slice_index l 0) c.as_bytes.ensures.value in
    (told-ideograph c.args.text.now c.utf8.text (omega (arith, e)) (omega (arith, e))).below

pub returns-in-228-to-233-2-clause-begins : goal.returns-in-228-to-233-2-clause-begins
returns-in-228-to-233-2-clause-begins c _ =
    let e = ap (λ (l : List ℕ). slice_index l 0) c.as_bytes.ensures.value in
    begins-three c.args.text.now c.utf8.text (omega (arith, e)) (omega (arith, e))

pub returns-in-228-to-233-2-clause-wide : goal.returns-in-228-to-233-2-clause-wide
returns-in-228-to-233-2-clause-wide c _ =
    let e = ap (λ (l : List ℕ). slice_index l 0) c.as_bytes.ensures.value in
    (told-hangul c.args.text.now c.utf8.text (omega (arith, e)) (omega (arith, e))).columns

pub returns-in-228-to-233-2-clause-above : goal.returns-in-228-to-233-2-clause-above
returns-in-228-to-233-2-clause-above c _ =
    let e = ap (λ (l : List ℕ). slice_index l 0) c.as_bytes.ensures.value in
    (told-hangul c.args.text.now c.utf8.text (omega (arith, e)) (omega (arith, e))).above

pub returns-in-228-to-233-2-clause-below : goal.returns-in-228-to-233-2-clause-below
returns-in-228-to-233-2-clause-below c _ =
    let e = ap (λ (l : List ℕ). slice_index l 0) c.as_bytes.ensures.value in
    (told-hangul c.args.text.now c.utf8.text (omega (arith, e)) (omega (arith, e))).below
