use Rattle.std.proofs.Common.{◌∙◌, ◌+◌, ◌≡◌, ◌≤◌, ap, arith, bit_or, length, sym, true, inl, inr}
use Rattle.std.specs.Prelude.{encode_utf8_all}
use Rattle.std.proofs.lemmas.Bool.{and_parts, cases_lt}
use Rattle.std.proofs.lemmas.Nat.{le_or_l, le_or_r}
use Rattle.vt100_cells.specs.CellFields.{fits_start}
use Rattle.vt100_cells.specs.Cells.{cell_at}
use Rattle.vt100_cells.proofs.line.have_same_eight.Goals as goal

pub loop-k-preserved : goal.loop-k-preserved
loop-k-preserved c =
    let f = cell_at c.args.cells.now in
    let g = cell_at c.args.others.now in
    let k = c.args.i + c.loop-k.k in
    let longer = bit_or c.loop-k.longest c.len-longest.result in
    record {
      same = λ h j a b s. let p = and_parts c.loop-k.same c.has_start_of-same.result h in
          elim (cases_lt j k) [
            | inl before ↦ c.loop-k.invariant.same p.0 j a before s
            | inr after ↦ (let last : k ≡ j = omega (arith, b, after) in
                let whole : fits_start c.at-cell.result.now.text ≡ true =
                ap (λ v. fits_start v.text) (c.at-cell.ensures ∙ ap f last) ∙ s in
                sym (c.at-cell.ensures ∙ ap f last)
                ∙ c.has_start_of-same.ensures.whole (sym c.has_start_of-same.ensures.value ∙ p.1) whole
                ∙ c.at.ensures ∙ ap g last)
          ];
      longest = λ j a b. elim (cases_lt j k) [
        | inl before ↦ (let so_far = c.loop-k.invariant.longest j a before in
            let kept : c.loop-k.longest ≤ longer = le_or_l c.loop-k.longest c.len-longest.result in
            omega (arith, so_far, kept))
        | inr after ↦ (let last : k ≡ j = omega (arith, b, after) in
            let len : c.len-longest.result ≡ length (encode_utf8_all (f j).text) =
            c.len-longest.ensures ∙ ap (λ t. length (encode_utf8_all t)) (c.text.ensures
            ∙ ap (λ v. v.text) (c.at-cell.ensures ∙ ap f last)) in
            let kept : c.len-longest.result ≤ longer = le_or_r c.loop-k.longest c.len-longest.result in
            omega (arith, len, kept))
      ];
    }
