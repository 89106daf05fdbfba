-- Texts of at most four bytes.
use Rattle.std.proofs.Common.{◌≡◌, ℕ, ◌≤◌, true, ◌&&◌, List, length, take, nat_eq, arith, sym, ap, ◌∙◌}
use Rattle.std.specs.Prelude.{encode_utf8_all, IsTrue, not, ◌↔◌}
use Rattle.std.specs.Cmp.Derive.{both_true}
use Rattle.std.proofs.Math.Dec.{leb}
use Rattle.std.proofs.lemmas.Bool.{leb-true, le-leb, and_parts}
use Rattle.vt100_cells.specs.declared.cell_text.CellText.TheInside.{Inside as TextInside}
use Rattle.vt100_cells.specs.CellFields.{IsText, text_of, encode_utf8_all-text_of}
use Rattle.vt100_cells.proofs.CellTextLemmas.{len-text_of, encodes-empty}

-- the bytes in use are those of the characters
pub bytes-text_of : (t : TextInside) (cs : List ℕ) → IsText t → text_of t ≡ cs
    → encode_utf8_all cs ≡ take (length (encode_utf8_all cs)) t.bytes
bytes-text_of t cs h e =
    ap encode_utf8_all (sym e) ∙ encode_utf8_all-text_of t h ∙ ap (λ n. take n t.bytes) (len-text_of t cs h e)

-- what the code tests of the number of bytes
pub four-tests : (n : ℕ) (cs : List ℕ) → n ≡ length (encode_utf8_all cs)
    → IsTrue (not (nat_eq n 0) && leb n 4)
    ↔ ((not (nat_eq (length cs) 0) ≡ true) × (length (encode_utf8_all cs) ≤ 4))
four-tests n cs e =
    let filled : not (nat_eq n 0) ≡ not (nat_eq (length cs) 0) =
    ap (λ m. not (nat_eq m 0)) e ∙ ap not (encodes-empty cs) in (
      λ h. let p = and_parts (not (nat_eq n 0)) (leb n 4) h in
          (sym filled ∙ p.0, omega (arith, e, leb-true n 4 p.1)),
      λ h. both_true (filled ∙ h.0) (le-leb n 4 (omega (arith, e, h.1))),
    )
