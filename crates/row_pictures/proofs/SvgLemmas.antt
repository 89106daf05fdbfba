-- A row in SVG, run by run.
use Rattle.std.proofs.Common.{◌≡◌, ◌<◌, ◌+◌, ◌-◌, ℕ, List, ◌++◌, ap, ap₂, ◌∙◌, subst, take, drop, length, get_or, Option}
use Rattle.std.proofs.Common.{add-one}
use Rattle.std.proofs.lemmas.List.{get_or_default}
use Rattle.picture_page.proofs.PageLemmas.{joined_more}
use Rattle.vt100_cells.specs.Cell.{CellView, default_cell}
use Rattle.row_pictures.specs.Elements.{AddsSo}
use Rattle.row_pictures.specs.Paint.{cell_in, style_in}
use Rattle.row_pictures.specs.Runs.{AddsRuns, AreAlike, AreInPlace, AreRuns}
use Rattle.row_pictures.specs.Svg.{AreSvgRuns, IsSvgRun, drawn, glyph, glyphs, pixels}
use Rattle.row_pictures.specs.Unpadded.{unpadded}
use Rattle.row_pictures.specs.declared.look.Look.{Look}
use Rattle.row_pictures.specs.declared.style.Style.{Style}
use Rattle.row_pictures.proofs.RunLemmas.{one_run_more}

-- one cell more of a path
pub glyph_more : (a b c : List ℕ) (col x : ℕ) (run : List CellView) (i : ℕ) (cell : CellView) → i < length run
    → x ≡ pixels (col + i) → cell ≡ get_or run i cell → b ≡ a ++ glyphs col run i → c ≡ b ++ glyph x cell
    → c ≡ a ++ glyphs col run (i + 1)
glyph_more a b c col x run i cell lt place is first second =
    let here : cell ≡ cell_in run i = is ∙ get_or_default run i cell default_cell lt in
    rw add-one
    (joined_more a b c (glyphs col run i) (glyph (pixels (col + i)) (cell_in run i)) first
    (second ∙ ap₂ (λ n y. b ++ glyph n y) place here))

-- one run more
pub svg_run_more : (look : Look) (cells : List CellView) (cursor : Option ℕ) (a b c : List ℕ) (start end : ℕ) (s : Style)
    → start < end → AreAlike cells cursor start end → AreInPlace cells start end → s ≡ style_in cells cursor start
    → AddsRuns (IsSvgRun look cells cursor) start a b
    → c ≡ b ++ drawn look (take (end - start) (drop start cells)) start s
    → AddsRuns (IsSvgRun look cells cursor) end a c
svg_run_more look cells cursor a b c start end s lt alike in_place style first second =
    let run = take (end - start) (drop start cells) in
    one_run_more (IsSvgRun look cells cursor) a b c (drawn look run start s) start end first lt
    (record { alike = alike; in_place = in_place; drawn_so = ap (λ (v : Style). drawn look run start v) style }) second

-- all runs of a row
pub svg_row_added : (a b : List ℕ) (look : Look) (cells written : List CellView) (cursor : Option ℕ) (n : ℕ)
    → written ≡ unpadded cells cursor → n ≡ length written → AddsRuns (IsSvgRun look written cursor) n a b
    → AddsSo (AreSvgRuns look cells cursor) a b
svg_row_added a b look cells written cursor n is all row = record {
  more = row.more;
  joined = row.joined;
  holds = subst (λ (xs : List CellView). AreRuns (IsSvgRun look xs cursor) (length xs) row.more) is
      (subst (λ (m : ℕ). AreRuns (IsSvgRun look written cursor) m row.more) all row.runs);
}
