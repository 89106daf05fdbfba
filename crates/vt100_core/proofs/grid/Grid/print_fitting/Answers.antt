use Rattle.std.proofs.Common.{arith, subst, sym, ◌≡◌, ◌∙◌, ◌+◌, ◌*◌, ◌≤◌, length, map, ap}
use Rattle.std.specs.Prelude.{Some}
use Rattle.std.proofs.lemmas.Grind.{common_steps}
use Rattle.std.proofs.lemmas.List.{length-map}
use Rattle.std.proofs.lemmas.List.Elements.{All-map}
use Rattle.vt100_cells.specs.Cell.{drawn_columns}
use Rattle.vt100_core.proofs.GridLemmas.{IsGrid-at}
use Rattle.vt100_core.proofs.RunLemmas.{run-of, IsGrid-text_at}
use Rattle.vt100_core.proofs.CursorRow.{cursor_row-fits}
use Rattle.vt100_core.proofs.grid.Grid.print_fitting.Goals as goal

pub invariant_of-self : goal.invariant_of-self
invariant_of-self g c =
    let w = g.row.COLUMNS in
    let xs = map g.G.Glyph.code c.args.text.now in
    let few = length-map c.args.text.now g.G.Glyph.code in
    let v = c.args.self.now in
    let drawn = All-map (λ k. drawn_columns k ≡ Some w) g.G.Glyph.code c.args.text.now
    (λ k d l. g.met.G.Glyph.drawn w _ (c.requires.drawn k d l)) in
    let fits = subst (λ n. v.col + w * n ≤ v.width) (sym few) c.requires.fits in
    let span : w * length c.args.text.now ≡ w * length xs = ap (λ n. w * n) (sym few) in
    IsGrid-at
    (IsGrid-text_at (run-of w c.requires.columns) v xs c.args.attrs.now (rw (← c.self.view_is) c.self.invariant)
    c.requires.allocated drawn c.put_run.ensures.characters fits)
    (grind (arith, common_steps))

pub put_run-requires-clause-in_row : goal.put_run-requires-clause-in_row
put_run-requires-clause-in_row g c =
    cursor_row-fits _ c.self.view_is c.self.invariant c.requires.allocated c.from.ensures
    c.index_mut.ensures.value c.requires.fits
