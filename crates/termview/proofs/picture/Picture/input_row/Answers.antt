use Rattle.std.proofs.Common.{arith, ◌≡◌, ◌∙◌, ◌+◌, ◌*◌, ◌/◌, ◌≤◌, map, length, take, set, subst, sym, ap}
use Rattle.std.proofs.Common.{length-take-le}
use Rattle.std.specs.Prelude.{All, Some}
use Rattle.std.proofs.lemmas.List.{length-map, take-map}
use Rattle.std.proofs.lemmas.List.Elements.{All-take, All-map}
use Rattle.vt100_cells.specs.Cell.{drawn_columns}
use Rattle.vt100_cells.proofs.GlyphLemmas.{columns-fit, some-fit, few-fit}
use Rattle.vt100_rows.specs.Row.{placed_each}
use Rattle.vte_types.specs.Call.{Calls, input}
use Rattle.termview.specs.Picture.{PictureView, IsPicture, Does}
use Rattle.vt100_cells.specs.Runs.{IsShown}
use Rattle.termview.proofs.RowTerms.{cursor_row}
use Rattle.termview.proofs.RunSteps.{IsOne, run_at, shows-row}
use Rattle.termview.proofs.picture.Picture.input_row.Goals as goal

pub print_fitting-requires-clause-drawn : goal.print_fitting-requires-clause-drawn
print_fitting-requires-clause-drawn g c =
    All-take (g.G.Glyph.Takes g.row.COLUMNS) c.min-n.result c.args.text.now c.requires.drawn

pub returns-clause-shown : goal.returns-clause-shown
returns-clause-shown g c =
    let w = g.row.COLUMNS in
    let o = c.requires.columns in
    let code = g.G.Glyph.code in
    let text = c.args.text.now in
    let n = c.min-n.result in
    let first = take n text in
    let xs = take n (map code text) in
    let p = c.args.self.now in
    let q = c.make_room.new.self in
    let here : xs ≡ map code first = take-map code n text in
    let is : IsPicture p = subst IsPicture c.self.view_is c.self.invariant in
    let enough = columns-fit w p.size.cols o c.requires.room is.some_cols in
    let col = ap (λ (x : PictureView). x.col) c.self-2.view_is in
    let cols = ap (λ (x : PictureView). x.size.cols) c.self.view_is in
    let same = ap (λ z. z.cols) c.make_room.ensures.picture.size in
    let m = c.from-room.result in
    let left : w ≤ m = omega (arith, col, cols, c.cols-cols.ensures, c.from-room.ensures, c.make_room.ensures.fits) in
    let some = some-fit m w o left in
    let most : n ≤ m / w = omega (arith, c.min-n.ensures) in
    let few = few-fit n m w o most in
    let all : n ≤ length text = omega (arith, c.min-n.ensures) in
    let long : length xs ≡ n = ap length here ∙ length-map first code ∙ length-take-le n text all in
    let within : q.col + w * length xs ≤ q.size.cols =
    subst (λ k. q.col + w * k ≤ q.size.cols) (sym long)
    (omega (arith, few, col, cols, same, c.cols-cols.ensures, c.from-room.ensures, c.make_room.ensures.fits)) in
    let drawn = All-map (λ k. drawn_columns k ≡ Some w) code first (λ k d l. g.met.G.Glyph.drawn w _
    (All-take (g.G.Glyph.Takes w) n text c.requires.drawn k d l)) in
    let put : c.print_fitting.new.self ≡ run_at o q xs =
    c.print_fitting.ensures.picture
    ∙ ap (λ k. let r : PictureView = record q {
      rows = set q.rows q.row (placed_each w (cursor_row q) q.col (map code first) q.attrs);
      col = q.col + w * k;
    } in r) (sym (length-map first code))
    ∙ ap (run_at o q) (sym here) in
    subst (λ (r : PictureView). Calls Does p (map input xs) r) (sym put)
    (shows-row o xs p q (subst IsPicture c.self-2.view_is c.self-2.invariant) (omega (
      arith,
      long,
      some,
      c.min-n.ensures,
      c.requires.some,
    ))
    (subst (All (IsOne o)) (sym here) (λ k d l. (c.print_fitting.ensures.characters k d l, drawn k d l)))
    (All-take IsShown n (map code text) c.requires.shown) enough c.make_room.ensures.picture within)
