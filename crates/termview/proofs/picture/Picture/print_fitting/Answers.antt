use Rattle.std.proofs.Common.{arith, subst, sym, ◌≡◌, ◌+◌, ◌*◌, ◌≤◌, length, map, ap}
use Rattle.std.specs.Prelude.{Some}
use Rattle.std.proofs.lemmas.Grind.{common_steps}
use Rattle.std.proofs.lemmas.List.{length-map}
use Rattle.std.proofs.lemmas.List.Elements.{All-map}
use Rattle.vt100_cells.specs.Cell.{drawn_columns}
use Rattle.termview.proofs.KeptPictures.{IsPicture-at}
use Rattle.termview.proofs.RowTerms.{row-fits}
use Rattle.termview.proofs.RunSteps.{run_at, IsPicture-run}
use Rattle.termview.proofs.picture.Picture.print_fitting.Goals as goal

pub invariant_of-self : goal.invariant_of-self
invariant_of-self g c =
    let w = g.row.COLUMNS in
    let o = c.requires.columns in
    let code = g.G.Glyph.code in
    let text = c.args.text.now in
    let xs = map code text in
    let p = c.args.self.now in
    let few = length-map text code in
    let drawn = All-map (λ k. drawn_columns k ≡ Some w) code text
    (λ k d l. g.met.G.Glyph.drawn w _ (c.requires.drawn k d l)) in
    let fits = subst (λ n. p.col + w * n ≤ p.size.cols) (sym few) c.requires.fits in
    let span : w * length text ≡ w * length xs = ap (λ n. w * n) (sym few) in
    IsPicture-at _ (run_at o p xs) (grind (arith, common_steps))
    (IsPicture-run o xs p (rw (← c.self.view_is) c.self.invariant)
    (λ k d l. (c.put_run.ensures.characters k d l, drawn k d l)) fits)

pub put_run-requires-clause-in_row : goal.put_run-requires-clause-in_row
put_run-requires-clause-in_row g c =
    row-fits _ c.self.view_is c.self.invariant c.from.ensures c.index_mut.ensures.value c.requires.fits
