-- What is true of each character and of the current attributes stays true of the cells of a screen and of its kept
-- rows, whatever is done to it.
use Rattle.std.proofs.Common.{ℕ, ◌+◌, ◌-◌, ◌==◌, Bool, true, false, cond, not, ◌&&◌, List, [], ◌++◌, length}
use Rattle.std.proofs.Common.{drop, map, min, replicate, nat_lt, nat_le, All}
use Rattle.std.proofs.lemmas.Bool.{cond_both}
use Rattle.std.proofs.lemmas.List.Elements.{All-nil, All-set, All-drop, All-take, All-append, All-map, All-weaker}
use Rattle.std.proofs.lemmas.List.Elements.{All-replicate}
use Rattle.vt100_forms.specs.declared.attrs.Attrs.{Attrs}
use Rattle.vt100_forms.specs.Attrs.{IsProper}
use Rattle.screen_model.specs.State.{IsProperSheet}
use Rattle.vt100_cells.specs.Cell.{CellView, default_cell, cell_of, columns_of}
use Rattle.vt100_rows.specs.Row.{RowView, blank_row, trimmed, grown, resized_row, with_wrap, wiped_row}
use Rattle.vt100_rows.specs.Row.{placed, joined_row, joined_cell, is_widening}
use Rattle.vt100_rows.specs.Sheet.{row_at, moved_up, changed_between, first_rows}
use Rattle.terminal_model.specs.Apply.{is_dropped}
use Rattle.vt100_core.specs.Grid.{KeptPart, GridView, new_grid, allocated, cleared, with_row, with_rows, row_of_cursor}
use Rattle.vt100_core.specs.Grid.{with_cursor_row, is_in_region}
use Rattle.vt100_core.specs.declared.scrollback.Scrollback.{Scrollback}
use Rattle.vt100_core.specs.Cursor.{with_region, moved_rows_down, moved_rows_up}
use Rattle.vt100_core.specs.Erase.{all_erased, all_erased_forward, all_erased_backward, row_erased, columns_erased}
use Rattle.vt100_core.specs.Erase.{columns_to_cursor, cells_inserted, cells_deleted}
use Rattle.vt100_core.specs.Lines.{lines_opened, lines_inserted, lines_deleted, scrolled_down, rows_past_top, fed_up}
use Rattle.vt100_core.specs.Scroll.{Scrolled, widened, overflow, kept_after, up_count, left_rows, left_row}
use Rattle.vt100_core.specs.Scroll.{is_kept_from, scrolled_up, rows_past_bottom, fed, wrapped_on, made_to_fit}
use Rattle.vt100_core.specs.Scroll.{scrollback_erased, scrollback_shown}
use Rattle.vt100_core.specs.Resize.{whole_screen, up_rows, shortened, with_width, down_rows, rows_back, lengthened}
use Rattle.vt100_core.specs.Resize.{resized}
use Rattle.vt100_core.specs.Text.{PrintedGrid, put_at, spaced, carried, joined, printed}
use Rattle.screen_model.proofs.RowTraits.{Traits, IsClean, IsCleanRow, clean-cell, clean-of, clean-either, clean-blank}
use Rattle.screen_model.proofs.RowTraits.{clean-cleared, clean-with_wrap, clean-placed, clean-wiped, clean-joined_cell}
use Rattle.screen_model.proofs.RowTraits.{clean-joined, clean-inserted, clean-removed, clean-grown, clean-resized}
use Rattle.screen_model.proofs.RowTraits.{clean-trimmed, clean-row, clean-rows, clean-moved_up, clean-opened_line}
use Rattle.screen_model.proofs.RowTraits.{clean-erased_forward, clean-erased_backward, clean-first}

-- what is true of a row, and stays so without its blank end, is true of the kept rows after others have left
pub kept-all : (P : RowView → Type 0) → ((v : RowView) → P v → P (trimmed v)) → (k : KeptPart) (left : List RowView)
    → All P k.rows → All P left → All P (kept_after k left).rows
kept-all P trims k left old new =
    let m = length left - min (length left) k.capacity in
    All-append P (drop (overflow k (length left)) k.rows) (map trimmed (drop m left))
    (All-drop P (overflow k (length left)) k.rows old)
    (All-map P trimmed (drop m left) (All-weaker P (λ v. P (trimmed v)) trims (drop m left) (All-drop P m left new)))

module _ (t : Traits) where
  -- the rows that are drawn on, and the kept ones
  pub record AreClean (rows kept_rows : List RowView) : Type 0 where
    pub drawn : All (IsCleanRow t) rows
    pub kept : All (IsCleanRow t) kept_rows

  abbrev pub IsCleanSheet : GridView → Type 0
  IsCleanSheet g = AreClean g.rows g.kept.rows

  sheet-either : (b : Bool) (g h : GridView) → IsCleanSheet g → IsCleanSheet h → IsCleanSheet (cond b g h)
  sheet-either b g h p q = cond_both b g h (λ x. IsCleanSheet x) (λ _. p) (λ _. q)

  scrolled-either : (b : Bool) (x y : Scrolled) → IsCleanSheet x.grid → IsCleanSheet y.grid
      → IsCleanSheet (cond b x y).grid
  scrolled-either b x y p q = cond_both b x y (λ (z : Scrolled). IsCleanSheet z.grid) (λ _. p) (λ _. q)

  drawn-either : (b : Bool) (x y : PrintedGrid) → IsCleanSheet x.grid → IsCleanSheet y.grid
      → IsCleanSheet (cond b x y).grid
  drawn-either b x y p q = cond_both b x y (λ (z : PrintedGrid). IsCleanSheet z.grid) (λ _. p) (λ _. q)

  positions-clean : (g : GridView) (f : ℕ → RowView) → IsCleanSheet g → ((r : ℕ) → IsCleanRow t (f r))
      → IsCleanSheet (with_rows g f)
  positions-clean g f d h = record { drawn = clean-rows t (length g.rows) f h; kept = d.kept }

  row-clean : (g : GridView) (r : ℕ) (v : RowView) → IsCleanSheet g → IsCleanRow t v → IsCleanSheet (with_row g r v)
  row-clean g r v d h = record { drawn = All-set (IsCleanRow t) g.rows r v h d.drawn; kept = d.kept }

  cursor-clean : (g : GridView) → IsCleanSheet g → IsCleanRow t (row_of_cursor g)
  cursor-clean g d = clean-row t g.rows d.drawn g.row

  -- ---- erasing, and cells and lines that come in and go

  pub sheet-all_erased : (g : GridView) (a : Attrs) → t.of_attrs a → IsCleanSheet g → IsCleanSheet (all_erased g a)
  sheet-all_erased g a p d = positions-clean g _ d (λ r. clean-cleared t (row_at g.rows r) a p)

  pub sheet-all_erased_forward : (g : GridView) (a : Attrs) → t.of_attrs a → IsCleanSheet g
      → IsCleanSheet (all_erased_forward g a)
  sheet-all_erased_forward g a p d =
      positions-clean g _ d (clean-erased_forward t g.rows g.row g.col g.width a p d.drawn)

  pub sheet-all_erased_backward : (g : GridView) (a : Attrs) → t.of_attrs a → IsCleanSheet g
      → IsCleanSheet (all_erased_backward g a)
  sheet-all_erased_backward g a p d =
      positions-clean g _ d (clean-erased_backward t g.rows g.row (columns_to_cursor g) a p d.drawn)

  pub sheet-row_erased : (g : GridView) (a : Attrs) → t.of_attrs a → IsCleanSheet g → IsCleanSheet (row_erased g a)
  sheet-row_erased g a p d = row-clean g g.row _ d (clean-cleared t (row_of_cursor g) a p)

  pub sheet-columns_erased : (g : GridView) (s e : ℕ) (a : Attrs) → t.of_attrs a → IsCleanSheet g
      → IsCleanSheet (columns_erased g s e a)
  sheet-columns_erased g s e a p d =
      row-clean g g.row _ d (clean-wiped t (row_of_cursor g) s e a p (cursor-clean g d))

  pub sheet-cells_inserted : (g : GridView) (n : ℕ) → IsCleanSheet g → IsCleanSheet (cells_inserted g n)
  sheet-cells_inserted g n d = row-clean g g.row _ d (clean-inserted t (row_of_cursor g) g.col n (cursor-clean g d))

  pub sheet-cells_deleted : (g : GridView) (n : ℕ) → IsCleanSheet g → IsCleanSheet (cells_deleted g n)
  sheet-cells_deleted g n d =
      row-clean g g.row _ d
      (clean-removed t (row_of_cursor g) g.col (min (g.col + n) g.width) (cursor-clean g d))

  lines-clean : (g : GridView) (first n : ℕ) → IsCleanSheet g → IsCleanSheet (lines_opened g first n)
  lines-clean g first n d =
      positions-clean g _ d
      (clean-opened_line t g.rows first (g.bottom + 1) (min n (g.bottom + 1 - first)) g.width d.drawn)

  pub sheet-lines_inserted : (g : GridView) (n : ℕ) → IsCleanSheet g → IsCleanSheet (lines_inserted g n)
  sheet-lines_inserted g n d =
      sheet-either (nat_lt 0 n && is_in_region g) (lines_opened g g.row n) g (lines-clean g g.row n d) d

  pub sheet-lines_deleted : (g : GridView) (n : ℕ) → IsCleanSheet g → IsCleanSheet (lines_deleted g n)
  sheet-lines_deleted g n d =
      let f = moved_up g.rows g.row (g.bottom + 1) (min n (g.bottom + 1 - g.row)) g.width in
      sheet-either (is_in_region g) (with_rows g f) g
      (positions-clean g f d
      (clean-moved_up t g.rows g.row (g.bottom + 1) (min n (g.bottom + 1 - g.row)) g.width d.drawn)) d

  pub sheet-scrolled_down : (g : GridView) (n : ℕ) → IsCleanSheet g → IsCleanSheet (scrolled_down g n)
  sheet-scrolled_down g n d = sheet-either (nat_lt 0 n) (lines_opened g g.top n) g (lines-clean g g.top n d) d

  pub sheet-fed_up : (g : GridView) (n : ℕ) → IsCleanSheet g → IsCleanSheet (fed_up g n)
  sheet-fed_up g n d = sheet-scrolled_down (moved_rows_up g n) (rows_past_top g n) d

  pub sheet-region : (g : GridView) (top bottom : ℕ) → IsCleanSheet g → IsCleanSheet (with_region g top bottom)
  sheet-region g top bottom d =
      let end = min bottom (g.height - 1) in
      sheet-either (nat_lt top end) (record g { top = top; bottom = end; row = top; col = 0 })
      (record g { top = 0; bottom = g.height - 1; row = 0; col = 0 }) d d

  -- ---- rows that are kept

  widened-clean : (k : KeptPart) (height width : ℕ) → All (IsCleanRow t) k.rows
      → All (IsCleanRow t) (widened k height width).rows
  widened-clean k height width h =
      let from = length k.rows - k.offset in
      clean-rows t (length k.rows) (changed_between (λ v. grown v width default_cell) k.rows from (from + height))
      (λ r. clean-either t _ _ _ (clean-grown t (row_at k.rows r) width (clean-row t k.rows h r))
      (clean-row t k.rows h r))

  pub sheet-scrolled_up : (g : GridView) (n : ℕ) → IsCleanSheet g → IsCleanSheet (scrolled_up g n).grid
  unfolding scrolled_up
  sheet-scrolled_up g n d =
      let left = left_rows g n in
      let k = kept_after g.kept left in
      record {
        drawn = clean-rows t (length g.rows) (moved_up g.rows g.top (g.bottom + 1) (up_count g n) g.width)
            (clean-moved_up t g.rows g.top (g.bottom + 1) (up_count g n) g.width d.drawn);
        kept = cond_both (is_kept_from g) (widened k g.height g.width) g.kept
            (λ (x : KeptPart). All (IsCleanRow t) x.rows)
            (λ _. widened-clean k g.height g.width (kept-all (IsCleanRow t) (clean-trimmed t) g.kept left d.kept
            (All-take (IsCleanRow t) (up_count g n) (drop g.top g.rows)
            (All-drop (IsCleanRow t) g.top g.rows d.drawn))))
            (λ _. d.kept);
      }

  pub sheet-fed : (g : GridView) (n : ℕ) → IsCleanSheet g → IsCleanSheet (fed g n).grid
  unfolding fed
  sheet-fed g n d =
      scrolled-either (is_in_region g) (scrolled_up (moved_rows_down g n) (rows_past_bottom g n))
      (record { grid = moved_rows_down g n; sunk = [] })
      (sheet-scrolled_up (moved_rows_down g n) (rows_past_bottom g n) d) d

  pub sheet-scrollback_shown : (g : GridView) (n : ℕ) → IsCleanSheet g → IsCleanSheet (scrollback_shown g n)
  sheet-scrollback_shown g n d = record {
    drawn = d.drawn;
    kept = widened-clean (record (g.kept) { offset = min n (length g.kept.rows) }) g.height g.width d.kept;
  }

  pub sheet-scrollback_erased : (g : GridView) → IsCleanSheet g → IsCleanSheet (scrollback_erased g)
  sheet-scrollback_erased g d = record { drawn = d.drawn; kept = All-nil (IsCleanRow t) }

  -- ---- printing

  wrapped-clean : (g : GridView) (wrap : Bool) → IsCleanSheet g → IsCleanSheet (wrapped_on g wrap).grid
  unfolding wrapped_on
  wrapped-clean g wrap d =
      let h = (fed (record g { col = 0 }) 1).grid in
      let next : IsCleanSheet h = sheet-fed (record g { col = 0 }) 1 d in
      let r = left_row g in
      let wraps = wrap && ((r + 1) == h.row) in
      sheet-either ((g.row == g.bottom) && (g.row == 0)) h (with_row h r (with_wrap (row_at h.rows r) wraps)) next
      (row-clean h r (with_wrap (row_at h.rows r) wraps) next
      (clean-with_wrap t (row_at h.rows r) wraps (clean-row t h.rows next.drawn r)))

  fit-clean : (g : GridView) (columns : ℕ) (wrap : Bool) → IsCleanSheet g
      → IsCleanSheet (made_to_fit g columns wrap).grid
  fit-clean g columns wrap d =
      scrolled-either (nat_le (g.col + columns) g.width) (record { grid = g; sunk = [] }) (wrapped_on g wrap) d
      (wrapped-clean g wrap d)

  put-clean : (g : GridView) (x : CellView) (a : Attrs) (n : ℕ) → t.of_attrs a → IsCleanSheet g → IsClean t x
      → IsCleanSheet (put_at g x a n)
  put-clean g x a n p d h =
      row-clean g g.row _ d (clean-placed t (row_of_cursor g) g.col x a p (cursor-clean g d) h)

  carried-clean : (g : GridView) (c : ℕ) (a : Attrs) → t.of_char c → t.of_attrs a → IsCleanSheet g
      → IsCleanSheet (carried g c a).grid
  carried-clean g c a k p d =
      let v = row_of_cursor g in
      let w = with_cursor_row g (wiped_row v (g.col - 1) g.col a) in
      let x = clean-joined_cell t v g.col c (cursor-clean g d) k in
      put-clean (wrapped_on w false).grid (record (joined_cell v g.col c) { attrs = a }) a 2 p
      (wrapped-clean w false (row-clean g g.row (wiped_row v (g.col - 1) g.col a) d
      (clean-wiped t v (g.col - 1) g.col a p (cursor-clean g d))))
      (record { text = x.text; attrs = p })

  joined-clean : (g : GridView) (c : ℕ) (a : Attrs) → t.of_char c → t.of_attrs a → IsCleanSheet g
      → IsCleanSheet (joined g c a).grid
  joined-clean g c a k p d =
      let v = row_of_cursor g in
      drawn-either (not (is_widening v g.col c)) _ _
      (row-clean g g.row (joined_row v g.col c) d (clean-joined t v g.col c (cursor-clean g d) k))
      (drawn-either (g.width == 1) _ _ d
      (drawn-either (nat_lt g.col g.width) _ (carried g c a)
      (row-clean g g.row (placed v (g.col - 1) (joined_cell v g.col c) a) d
      (clean-placed t v (g.col - 1) (joined_cell v g.col c) a p (cursor-clean g d)
      (clean-joined_cell t v g.col c (cursor-clean g d) k)))
      (carried-clean g c a k p d)))

  pub sheet-printed : (g : GridView) (c : ℕ) (a : Attrs) → t.of_char c → t.of_attrs a → IsCleanSheet g
      → IsCleanSheet (printed g c a).grid
  unfolding printed
  sheet-printed g c a k p d =
      drawn-either (is_dropped g.width g.col c) _ _ d
      (drawn-either (nat_lt 0 (columns_of c)) (spaced g c a) (joined g c a)
      (put-clean (made_to_fit g (columns_of c) true).grid (cell_of c a) a (columns_of c) p
      (fit-clean g (columns_of c) true d) (clean-of t c a k p))
      (joined-clean g c a k p d))

  -- ---- whole sheets

  pub sheet-new : (height width : ℕ) (s : Scrollback) → IsCleanSheet (new_grid height width s)
  sheet-new height width s = record { drawn = All-nil (IsCleanRow t); kept = All-nil (IsCleanRow t) }

  pub sheet-allocated : (g : GridView) → IsCleanSheet g → IsCleanSheet (allocated g)
  sheet-allocated g d =
      sheet-either (length g.rows == 0) (record g { rows = replicate g.height (blank_row g.width) }) g
      (record {
        drawn = All-replicate (IsCleanRow t) g.height (blank_row g.width) (clean-blank t g.width);
        kept = d.kept;
      }) d

  pub sheet-cleared : (g : GridView) → IsCleanSheet g → IsCleanSheet (cleared g)
  sheet-cleared g d = record {
    drawn = All-replicate (IsCleanRow t) (length g.rows) (blank_row g.width) (clean-blank t g.width);
    kept = d.kept;
  }

  width-clean : (g : GridView) (width : ℕ) → IsCleanSheet g → IsCleanSheet (with_width g width)
  width-clean g width d = record {
    drawn = clean-rows t (length g.rows) (λ r. resized_row (row_at g.rows r) width default_cell)
        (λ r. clean-resized t (row_at g.rows r) width (clean-row t g.rows d.drawn r));
    kept = d.kept;
  }

  shorter-clean : (g : GridView) (up height : ℕ) → IsCleanSheet g → IsCleanSheet (shortened g up height)
  shorter-clean g up height d = record {
    drawn = clean-rows t (min height (length g.rows)) (first_rows g.rows height)
        (clean-first t g.rows height d.drawn);
    kept = d.kept;
  }

  longer-clean : (g : GridView) (height : ℕ) → IsCleanSheet g → IsCleanSheet (lengthened g height)
  longer-clean g height d =
      let Row = IsCleanRow t in
      let down = down_rows g height in
      let f : RowView → RowView = λ v. resized_row v g.width default_cell in
      let newest = drop (length g.kept.rows - down) g.kept.rows in
      let below = replicate (height - g.height - down) (blank_row g.width) in
      let back : All Row (rows_back g down) = All-append Row
      (replicate (down - length g.kept.rows) (blank_row g.width)) (map f newest)
      (All-replicate Row (down - length g.kept.rows) (blank_row g.width) (clean-blank t g.width))
      (All-map Row f newest (All-weaker Row (λ v. Row (f v)) (λ v h. clean-resized t v g.width h) newest
      (All-drop Row (length g.kept.rows - down) g.kept.rows d.kept))) in
      record {
        drawn = cond_both (length g.rows == 0) [] (rows_back g down ++ g.rows ++ below)
            (λ (xs : List RowView). All Row xs) (λ _. All-nil Row)
            (λ _. All-append Row (rows_back g down ++ g.rows) below
            (All-append Row (rows_back g down) g.rows back d.drawn)
            (All-replicate Row (height - g.height - down) (blank_row g.width) (clean-blank t g.width)));
        kept = All-take Row (length g.kept.rows - down) g.kept.rows d.kept;
      }

  pub sheet-resized : (g : GridView) (height width : ℕ) → IsCleanSheet g → IsCleanSheet (resized g height width).grid
  unfolding resized
  sheet-resized g height width d =
      let up = up_rows g height in
      let s = scrolled_up (whole_screen g) up in
      scrolled-either ((height == g.height) && (width == g.width)) (record { grid = g; sunk = [] }) _ d
      (scrolled-either (nat_lt height g.height)
      (record { grid = with_width (shortened s.grid up height) width; sunk = s.sunk })
      (record { grid = lengthened (with_width (whole_screen g) width) height; sunk = [] })
      (width-clean (shortened s.grid up height) width
      (shorter-clean s.grid up height (sheet-scrolled_up (whole_screen g) up d)))
      (longer-clean (with_width (whole_screen g) width) height (width-clean (whole_screen g) width d)))

  pub sheet-proper : ((a : Attrs) → t.of_attrs a → IsProper a) → (g : GridView) → IsCleanSheet g → IsProperSheet g
  sheet-proper f g d = record {
    drawn = λ r k. f _ (clean-cell t (row_at g.rows r) (clean-row t g.rows d.drawn r) k).attrs;
    kept = λ r k. f _ (clean-cell t (row_at g.kept.rows r) (clean-row t g.kept.rows d.kept r) k).attrs;
  }
