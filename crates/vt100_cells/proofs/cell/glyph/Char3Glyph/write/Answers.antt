use Rattle.std.proofs.Common.{◌≡◌, ◌≤◌, ◌∷◌, ◌∙◌, ℕ, List, [], length, ap, sym, subst, arith, ⊎_elim}
use Rattle.std.specs.Prelude.{encode_utf8_all}
use Rattle.vt100_cells.specs.Cell.{CellView, IsCell, cell_of}
use Rattle.vt100_cells.specs.CellFields.{view_of}
use Rattle.vt100_cells.proofs.Char3Lemmas.{wide_space-len}
use Rattle.vt100_cells.proofs.GlyphLemmas.{space-len}
use Rattle.vt100_cells.proofs.CellLemmas.{wide_replaced-is, IsCell-wide}
use Rattle.vt100_cells.proofs.NarrowLemmas.{space_replaced-is, IsCell-narrow}
use Rattle.vt100_cells.proofs.cell.glyph.Char3Glyph.write.Goals as goal

pub returns-clause-value : goal.returns-clause-value
returns-clause-value c =
    let a = c.args.cell.now.attrs in
    ⊎_elim
    (λ p. space_replaced-is (view_of c.cell.inside) c.replace_by_char3.new.self c.args.self a (c.cell.view_is ∙ p.0) p.1
    c.replace_by_char3.ensures.text)
    (λ p. wide_replaced-is (view_of c.cell.inside) c.replace_by_char3.new.self c.args.self a (c.cell.view_is ∙ p.0) p.1
    c.replace_by_char3.ensures.text) c.requires

pub invariant_of-cell : goal.invariant_of-cell
invariant_of-cell c =
    let a = c.args.cell.now.attrs in
    let valid : IsCell (cell_of c.args.self a) =
    ⊎_elim (λ p. IsCell-narrow c.args.self a c.replace_by_char3.ensures.character p.1)
    (λ p. IsCell-wide c.args.self a c.replace_by_char3.ensures.character p.1) c.requires in
    rw (returns-clause-value c) valid

pub replace_by_char3-requires : goal.replace_by_char3-requires
replace_by_char3-requires c =
    let text : (d : ℕ) → c.args.cell.now ≡ cell_of d c.args.cell.now.attrs → c.cell.inside.text ≡ d ∷ [] =
    λ d e. ap (λ (x : CellView). x.text) (c.cell.view_is ∙ e) in
    record {
      three = ⊎_elim
          (λ p. subst (λ (cs : List ℕ). length (encode_utf8_all cs) ≤ 3) (sym (text 32 p.0)) (omega (arith, space-len)))
          (λ p. subst (λ (cs : List ℕ). length (encode_utf8_all cs) ≤ 3) (sym (text 0x3000 p.0))
          (omega (arith, wide_space-len))) c.requires;
    }
