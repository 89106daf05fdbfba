-- Where each row is after a resize.
use Rattle.std.proofs.Common.{◌≡◌, ℕ, ◌+◌, ◌-◌, ◌<◌, ◌≤◌, ◌==◌, Bool, true, false, cond, ◌&&◌, List, [], ◌++◌}
use Rattle.std.proofs.Common.{length, take, drop, map, min, refl, sym, ap, ◌∙◌, arith, length-append, length-drop}
use Rattle.std.proofs.Common.{replicate, nat_lt, ⊎_elim}
use Rattle.std.proofs.lemmas.Bool.{cases_lt, cond_both, eqb-true, ne_eqb, ltb-true, ltb-false, and_parts}
use Rattle.std.proofs.lemmas.Bool.Decides.{nat_tests}
use Rattle.std.proofs.lemmas.List.{length-replicate, length-map, get_or-replicate, get_or-append_right, get_or-map}
use Rattle.std.proofs.lemmas.List.{get_or-drop, take_all, drop_all}
use Rattle.std.proofs.Math.ListN.{get_or-append}
use Rattle.vt100_cells.specs.Cell.{default_cell}
use Rattle.vt100_rows.specs.Row.{RowView, blank_row, resized_row, trimmed, unwrapped}
use Rattle.vt100_rows.specs.Sheet.{row_at, rows_by_position, moved_up, first_rows}
use Rattle.vt100_rows.proofs.KeptLemmas.{grown-longer}
use Rattle.vt100_rows.proofs.SheetLemmas.{row_at-by_position, length-rows_by_position}
use Rattle.vt100_rows.proofs.WidthLemmas.{resized-longer}
use Rattle.vt100_core.specs.Grid.{KeptPart, GridView, IsGrid, IsAllocated}
use Rattle.vt100_core.specs.Scroll.{Scrolled, widened, overflow, kept_after, up_count, left_rows}
use Rattle.vt100_core.specs.Scroll.{scrolled_up}
use Rattle.vt100_core.specs.Resize.{whole_screen, up_rows, shortened, with_width, down_rows, lengthened}
use Rattle.vt100_core.specs.Resize.{resized, row_coming_to, resized_row_at, kept_rows_left}
use Rattle.vt100_core.proofs.GridLemmas.{no-rows}
use Rattle.vt100_core.proofs.StayLemmas.{widened-none, kept_after-none}

-- ---- a row of its width

abbrev sized : ℕ → RowView → RowView
sized width v = resized_row v width default_cell

sized-same : (width : ℕ) (v : RowView) → length v.cells ≡ width → v ≡ sized width v
sized-same width v e = sym (grown-longer v width (omega arith)) ∙ resized-longer v width (omega arith)

sized-blank : (width : ℕ) → blank_row width ≡ sized width (blank_row width)
sized-blank width = sized-same width (blank_row width) (length-replicate width default_cell)

-- unwrapping the last row changes nothing where it isn't wrapped
unwrapped-same : (b : Bool) (v : RowView) → (b ≡ true → v.wrapped ≡ false) → v ≡ cond b (unwrapped v) v
unwrapped-same true v e = λ i. record { cells = v.cells; wrapped = e refl i }
unwrapped-same false v e = refl

-- the row at r is v, which gets the width
is-placed : (g : GridView) (height width r : ℕ) (v w : RowView) → w ≡ sized width v
    → v ≡ row_coming_to g height width r → ((r + 1) ≡ height → v.wrapped ≡ false) → w ≡ resized_row_at g height width r
is-placed g height width r v w ew ev last =
    ew ∙ ap (sized width) (unwrapped-same ((r + 1) == height) v (λ b. last (eqb-true (r + 1) height b)))
    ∙ ap (λ (x : RowView). sized width (cond ((r + 1) == height) (unwrapped x) x)) ev

-- ---- the tests

abbrev chosen : RowView → List RowView → List RowView → ℕ → ℕ → ℕ → ℕ → RowView
chosen blank kept rows height down up r =
    cond (nat_lt (r + length kept) down) blank
    (cond (nat_lt r down) (row_at kept (r + length kept - down))
    (cond (nat_lt (r + up - down) height) (row_at rows (r + up - down)) blank))

chosen-none : (blank : RowView) (kept rows : List RowView) (height down up r : ℕ) → r + length kept < down
    → blank ≡ chosen blank kept rows height down up r
chosen-none blank kept rows height down up r h = grind (arith, nat_tests)

chosen-kept : (blank : RowView) (kept rows : List RowView) (height down up r j : ℕ) → down ≤ r + length kept → r < down
    → j ≡ r + length kept - down → row_at kept j ≡ chosen blank kept rows height down up r
chosen-kept blank kept rows height down up r j a b e = grind (arith, nat_tests)

chosen-own : (blank : RowView) (kept rows : List RowView) (height down up r j : ℕ) → down ≤ r → r + up - down < height
    → j ≡ r + up - down → row_at rows j ≡ chosen blank kept rows height down up r
chosen-own blank kept rows height down up r j a b e = grind (arith, nat_tests)

chosen-below : (blank : RowView) (kept rows : List RowView) (height down up r : ℕ) → down ≤ r → height ≤ r + up - down
    → blank ≡ chosen blank kept rows height down up r
chosen-below blank kept rows height down up r a b = grind (arith, nat_tests)

-- ---- the size that the screen has

places-same : (g : GridView) (height width r : ℕ) → IsGrid g → IsAllocated g → r < height → height ≡ g.height
    → width ≡ g.width → row_at g.rows r ≡ resized_row_at g height width r
places-same g height width r i a h eh ew =
    let row = i.sheet.each r (omega (arith, i.sheet.count a)) in
    is-placed g height width r (row_at g.rows r) (row_at g.rows r)
    (sized-same width (row_at g.rows r) (row.wide ∙ sym ew))
    (chosen-own (blank_row width) g.kept.rows g.rows g.height (down_rows g height) (up_rows g height) r r (omega arith)
    (omega arith) (omega arith))
    (λ e. let at : r ≡ g.height - 1 = omega arith in ap (λ k. (row_at g.rows k).wrapped) at ∙ i.sheet.last)

-- ---- a lower screen

goes-up : (rows : List RowView) (end n up width r : ℕ) → n ≡ up → r + up < end
    → moved_up rows 0 end n width r ≡ row_at rows (r + up)
goes-up rows end n up width r e h = grind (arith, nat_tests)

places-lower : (g : GridView) (height width r : ℕ) → IsGrid g → IsAllocated g → r < height → height < g.height
    → row_at (with_width (shortened (scrolled_up (whole_screen g) (up_rows g height)).grid (up_rows g height) height)
    width).rows r ≡ resized_row_at g height width r
unfolding scrolled_up
places-lower g height width r i a h lower =
    let up = up_rows g height in
    let n = up_count (whole_screen g) up in
    let f = moved_up g.rows 0 (g.height - 1 + 1) n g.width in
    let s = rows_by_position (length g.rows) f in
    let t = rows_by_position (min height (length s)) (first_rows s height) in
    let ls : length s ≡ length g.rows = length-rows_by_position (length g.rows) f in
    let lt : length t ≡ min height (length s) = length-rows_by_position (min height (length s)) (first_rows s height) in
    let own : row_at s r ≡ row_coming_to g height width r =
    row_at-by_position (length g.rows) f r (omega (arith, i.sheet.count a))
    ∙ goes-up g.rows (g.height - 1 + 1) n up g.width r (omega (arith, i.cursor_row)) (omega (arith, i.cursor_row))
    ∙ chosen-own (blank_row width) g.kept.rows g.rows g.height (down_rows g height) up r (r + up) (omega arith)
    (omega (arith, i.cursor_row)) (omega arith) in
    row_at-by_position (length t) (λ k. sized width (row_at t k)) r (omega (arith, i.sheet.count a))
    ∙ ap (sized width) (row_at-by_position (min height (length s)) (first_rows s height) r
    (omega (arith, i.sheet.count a)))
    ∙ ap (λ (x : RowView). sized width (cond ((r + 1) == height) (unwrapped x) x)) own

-- ---- a higher screen

module _ (g : GridView) (height width r : ℕ) (i : IsGrid g) (a : IsAllocated g) (h : r < height)
    (higher : g.height ≤ height) where
  abbrev down : ℕ
  down = down_rows g height

  abbrev blanks : List RowView
  blanks = replicate (down - length g.kept.rows) (blank_row width)

  abbrev back : List RowView
  back = map (sized width) (drop (length g.kept.rows - down) g.kept.rows)

  abbrev own : List RowView
  own = rows_by_position (length g.rows) (λ k. sized width (row_at g.rows k))

  abbrev below : List RowView
  below = replicate (height - g.height - down) (blank_row width)

  length-blanks : length blanks ≡ down - length g.kept.rows
  length-blanks = length-replicate (down - length g.kept.rows) (blank_row width)

  length-come : length (blanks ++ back) ≡ down
  length-come = simp (length-append, length-replicate, length-map, length-drop) (omega arith)

  length-own : length own ≡ g.height
  length-own = length-rows_by_position (length g.rows) (λ k. sized width (row_at g.rows k)) ∙ i.sheet.count a

  length-upper : length ((blanks ++ back) ++ own) ≡ down + g.height
  length-upper = length-append (blanks ++ back) own ∙ omega (arith, length-come, length-own)

  in-blanks : r + length g.kept.rows < down → row_at (((blanks ++ back) ++ own) ++ below) r
      ≡ resized_row_at g height width r
  in-blanks l =
      is-placed g height width r (blank_row width) (row_at (((blanks ++ back) ++ own) ++ below) r)
      (get_or-append ((blanks ++ back) ++ own) below (blank_row 0) r (omega (arith, length-upper))
      ∙ get_or-append (blanks ++ back) own (blank_row 0) r (omega (arith, length-come))
      ∙ get_or-append blanks back (blank_row 0) r (omega (arith, length-blanks))
      ∙ get_or-replicate (down - length g.kept.rows) r (blank_row width) (blank_row 0) (omega arith)
      ∙ sized-blank width)
      (chosen-none (blank_row width) g.kept.rows g.rows g.height down (up_rows g height) r l) (λ _. refl)

  in-back : down ≤ r + length g.kept.rows → r < down
      → row_at (((blanks ++ back) ++ own) ++ below) r ≡ resized_row_at g height width r
  in-back m l =
      let j = length g.kept.rows - down + (r - (down - length g.kept.rows)) in
      is-placed g height width r (row_at g.kept.rows j) (row_at (((blanks ++ back) ++ own) ++ below) r)
      (get_or-append ((blanks ++ back) ++ own) below (blank_row 0) r (omega (arith, length-upper))
      ∙ get_or-append (blanks ++ back) own (blank_row 0) r (omega (arith, length-come))
      ∙ get_or-append_right blanks back (down - length g.kept.rows) r (blank_row 0) length-blanks (omega arith)
      ∙ get_or-map (sized width) (drop (length g.kept.rows - down) g.kept.rows) (r - (down - length g.kept.rows))
      (blank_row 0) (blank_row 0) (omega (arith, length-drop (length g.kept.rows - down) g.kept.rows))
      ∙ ap (sized width) (get_or-drop (length g.kept.rows - down) g.kept.rows (r - (down - length g.kept.rows))
      (blank_row 0)))
      (chosen-kept (blank_row width) g.kept.rows g.rows g.height down (up_rows g height) r j m l (omega arith))
      (λ e. absurd (omega (arith, i.some_rows)))

  in-own : down ≤ r → r < down + g.height → row_at (((blanks ++ back) ++ own) ++ below) r
      ≡ resized_row_at g height width r
  in-own m l =
      is-placed g height width r (row_at g.rows (r - down)) (row_at (((blanks ++ back) ++ own) ++ below) r)
      (get_or-append ((blanks ++ back) ++ own) below (blank_row 0) r (omega (arith, length-upper))
      ∙ get_or-append_right (blanks ++ back) own down r (blank_row 0) length-come m
      ∙ row_at-by_position (length g.rows) (λ k. sized width (row_at g.rows k)) (r - down)
      (omega (arith, i.sheet.count a)))
      (chosen-own (blank_row width) g.kept.rows g.rows g.height down (up_rows g height) r (r - down) m (omega arith)
      (omega arith))
      (λ e. let at : r - down ≡ g.height - 1 = omega arith in ap (λ k. (row_at g.rows k).wrapped) at ∙ i.sheet.last)

  in-below : down + g.height ≤ r → row_at (((blanks ++ back) ++ own) ++ below) r ≡ resized_row_at g height width r
  in-below m =
      is-placed g height width r (blank_row width) (row_at (((blanks ++ back) ++ own) ++ below) r)
      (get_or-append_right ((blanks ++ back) ++ own) below (down + g.height) r (blank_row 0) length-upper m
      ∙ get_or-replicate (height - g.height - down) (r - (down + g.height)) (blank_row width) (blank_row 0)
      (omega arith) ∙ sized-blank width)
      (chosen-below (blank_row width) g.kept.rows g.rows g.height down (up_rows g height) r (omega arith)
      (omega arith)) (λ _. refl)

  in-each : row_at (((blanks ++ back) ++ own) ++ below) r ≡ resized_row_at g height width r
  in-each =
      ⊎_elim (λ (l : r < down). ⊎_elim (λ (m : r + length g.kept.rows < down). in-blanks m)
      (λ (m : down ≤ r + length g.kept.rows). in-back m l) (cases_lt (r + length g.kept.rows) down))
      (λ (l : down ≤ r). ⊎_elim (λ (m : r < down + g.height). in-own l m) (λ (m : down + g.height ≤ r). in-below m)
      (cases_lt r (down + g.height)))
      (cases_lt r down)

places-higher : (g : GridView) (height width r : ℕ) → IsGrid g → IsAllocated g → r < height → g.height ≤ height
    → row_at (lengthened (with_width (whole_screen g) width) height).rows r ≡ resized_row_at g height width r
places-higher g height width r i a h higher =
    let rows = ((blanks g height width r i a h higher ++ back g height width r i a h higher)
    ++ own g height width r i a h higher) ++ below g height width r i a h higher in
    let n = length-own g height width r i a h higher in
    ap (λ b. row_at (cond b [] rows) r) (ne_eqb (length (own g height width r i a h higher)) 0
    (λ z. absurd (omega (arith, n, i.some_rows, z)))) ∙ in-each g height width r i a h higher

-- ---- all together

-- the size that the screen has, a lower screen, or another one
resized-cases : (g : GridView) (height width : ℕ) (P : Scrolled → Type 0)
    → (height ≡ g.height → width ≡ g.width → P (record { grid = g; sunk = [] }))
    → (height < g.height → P (record {
      grid = with_width
          (shortened (scrolled_up (whole_screen g) (up_rows g height)).grid (up_rows g height) height) width;
      sunk = (scrolled_up (whole_screen g) (up_rows g height)).sunk;
    }))
    → (g.height ≤ height → P (record { grid = lengthened (with_width (whole_screen g) width) height; sunk = [] }))
    → P (resized g height width)
unfolding resized
resized-cases g height width P same lower higher =
    cond_both ((height == g.height) && (width == g.width)) _ _ P
    (λ e. let p = and_parts (height == g.height) (width == g.width) e
    in same (eqb-true height g.height p.0) (eqb-true width g.width p.1))
    (λ _. cond_both (nat_lt height g.height) _ _ P (λ e. lower (ltb-true height g.height e))
    (λ e. higher (ltb-false height g.height e)))

pub places_rows : (g : GridView) (height width r : ℕ) → IsGrid g → IsAllocated g → r < height
    → row_at (resized g height width).grid.rows r ≡ resized_row_at g height width r
places_rows g height width r i a h =
    resized-cases g height width (λ (x : Scrolled). row_at x.grid.rows r ≡ resized_row_at g height width r)
    (places-same g height width r i a h) (places-lower g height width r i a h) (places-higher g height width r i a h)

-- ---- what is kept

all-left : (rows : List RowView) (n : ℕ) → n ≡ 0 → rows ≡ take (length rows - n) rows
all-left rows n e = sym (take_all (length rows - n) rows (omega arith))

none-come : (g : GridView) (up : ℕ) → IsGrid g → up ≡ 0 → (kept_after g.kept (take up g.rows)).rows ≡ g.kept.rows
none-come g up i e = ap (λ n. (kept_after g.kept (take n g.rows)).rows) e
    ∙ ap (λ (k : KeptPart). k.rows) (kept_after-none g.kept i.kept)

keeps-others : (g : GridView) (height : ℕ) → IsGrid g → g.height ≤ height
    → take (length g.kept.rows - down_rows g height) g.kept.rows ≡ kept_rows_left g height
keeps-others g height i h = ap (λ (rows : List RowView). take (length rows - down_rows g height) rows)
    (sym (none-come g (up_rows g height) i (omega arith)))

-- nothing is kept where there is no room
none-kept : (k : KeptPart) (left : List RowView) → k.capacity ≡ 0 → length k.rows ≡ 0
    → (kept_after k left).rows ≡ k.rows
none-kept k left e z =
    let empty = no-rows k.rows z in
    let over : overflow k (length left) ≡ 0 = omega arith in
    ap (λ n. drop n k.rows ++ map trimmed (drop (length left - min (length left) k.capacity) left)) over
    ∙ ap (λ (xs : List RowView). xs ++ map trimmed (drop (length left - min (length left) k.capacity) left)) empty
    ∙ ap (λ (xs : List RowView). map trimmed xs) (drop_all (length left - min (length left) k.capacity) left
    (omega arith)) ∙ sym empty

left-first : (g : GridView) (up : ℕ) → up ≤ g.height → 0 < g.height → left_rows (whole_screen g) up ≡ take up g.rows
left-first g up h some = let e : up_count (whole_screen g) up ≡ up = omega arith in ap (λ n. take n g.rows) e

scrolled-kept : (g : GridView) (up : ℕ) → IsGrid g → up ≤ g.height
    → (scrolled_up (whole_screen g) up).grid.kept.rows ≡ (kept_after g.kept (take up g.rows)).rows
unfolding scrolled_up
scrolled-kept g up i h =
    let w = whole_screen g in
    let k = kept_after w.kept (left_rows w up) in
    cond_both g.kept.keeps (widened k g.height g.width) w.kept (λ (x : KeptPart). x.rows
    ≡ (kept_after g.kept (take up g.rows)).rows)
    (λ _. ap (λ (x : KeptPart). x.rows) (widened-none k g.height g.width (λ j p q l. absurd (omega arith)))
    ∙ ap (λ (xs : List RowView). (kept_after g.kept xs).rows) (left-first g up h i.some_rows))
    (λ e. let none = (i.kept.none e).0 in sym (none-kept g.kept (take up g.rows) none (omega (arith, i.kept.fits))))

pub keeps_rows : (g : GridView) (height width : ℕ) → IsGrid g → IsAllocated g → 0 < height
    → (resized g height width).grid.kept.rows ≡ kept_rows_left g height
keeps_rows g height width i a some =
    let rows = (kept_after g.kept (take (up_rows g height) g.rows)).rows in
    resized-cases g height width (λ (x : Scrolled). x.grid.kept.rows ≡ kept_rows_left g height)
    (λ e _. all-left g.kept.rows (down_rows g height) (omega arith) ∙ keeps-others g height i (omega arith))
    (λ lower. scrolled-kept g (up_rows g height) i (omega arith) ∙ all-left rows (down_rows g height) (omega arith))
    (keeps-others g height i)
