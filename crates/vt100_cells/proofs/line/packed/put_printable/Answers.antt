use Rattle.std.proofs.Common.{arith, ◌≡◌, ◌∙◌, ◌+◌, ◌<◌, ◌==◌, ℕ, List, length, set, true, false, ap}
use Rattle.vt100_forms.specs.declared.attrs.Attrs.{Attrs}
use Rattle.std.proofs.lemmas.List.{get_or-set_same, set-set}
use Rattle.printable.specs.Printable.{IsPrintable}
use Rattle.vt100_cells.specs.Cell.{CellView, cell_of}
use Rattle.vt100_cells.specs.Cells.{cell_at}
use Rattle.vt100_cells.specs.Line.{left_cleared}
use Rattle.vt100_cells.proofs.ListLemmas.{reads_len}
use Rattle.vt100_cells.proofs.WidthLemmas.{printable-is}
use Rattle.vt100_cells.proofs.EditLemmas.{puts-narrow_narrow, puts-narrow_wide}
use Rattle.vt100_cells.proofs.line.packed.put_printable.Goals as goal

narrow : (ch : ℕ) (a : Attrs) → IsPrintable ch → (cell_of ch a).wide ≡ false
narrow ch a h = ap (λ n. n == 2) (printable-is ch h).1

-- the letter's cell is written in two steps
written : (ys : List CellView) (i ch : ℕ) (a : Attrs) (space was x : CellView) → i < length ys → space ≡ cell_of 32 a
    → was ≡ space → x ≡ cell_of ch was.attrs → set (set ys i space) i x ≡ set ys i (cell_of ch a)
written ys i ch a space was x l es ew ex =
    set-set ys i space x
    ∙ ap (set ys i) (ex ∙ ap (λ (y : CellView). cell_of ch y.attrs) (ew ∙ es))

pub returns-then-was_wide : goal.returns-then-was_wide
returns-then-was_wide c =
    let xs = c.args.cells.now in
    let ys = c.clear_left.new.cells in
    let i = c.args.i in
    let a = c.args.attrs.now in
    let l : i < length ys = omega (
      arith,
      reads_len (length xs) (left_cleared (cell_at xs) i) ys c.clear_left.ensures,
      c.requires.in_row,
    ) in
    let was : (cell_at xs i).wide ≡ true = cc in
    let wrote = written ys i c.args.c a c.space.result.now _ c.write.new.cell l c.space.ensures
    (get_or-set_same ys i c.space.result.now c.index-cells-i.result l) c.write.ensures.value in
    c.put_within.ensures
    ∙ ap (λ zs. set zs (i + 1) c.space-then-was_wide.result.now) wrote
    ∙ puts-narrow_wide xs ys i (cell_of c.args.c a) a c.clear_left.ensures
    c.space-then-was_wide.result.now c.space-then-was_wide.ensures (narrow c.args.c a c.requires.printable) was

pub returns-else-was_wide : goal.returns-else-was_wide
returns-else-was_wide c =
    let xs = c.args.cells.now in
    let ys = c.clear_left.new.cells in
    let i = c.args.i in
    let a = c.args.attrs.now in
    let l : i < length ys = omega (
      arith,
      reads_len (length xs) (left_cleared (cell_at xs) i) ys c.clear_left.ensures,
      c.requires.in_row,
    ) in
    let was : (cell_at xs i).wide ≡ false = cc in
    written ys i c.args.c a c.space.result.now _ c.write.new.cell l c.space.ensures
    (get_or-set_same ys i c.space.result.now c.index-cells-i.result l) c.write.ensures.value
    ∙ puts-narrow_narrow xs ys i (cell_of c.args.c a) a c.clear_left.ensures (narrow c.args.c a c.requires.printable)
    was
