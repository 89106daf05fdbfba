-- What is true of each screen (main or alternate) of a terminal that shows no kept row, and stays true.
use Rattle.std.proofs.Common.{◌≡◌, ℕ, ◌+◌, ◌-◌, ◌^◌, ◌<◌, ◌≤◌, ◌==◌, Bool, true, cond, ◌&&◌, List, []}
use Rattle.std.proofs.Common.{◌++◌, length, set, drop, map, min, max, sym, ap, ◌∙◌, arith}
use Rattle.std.proofs.Common.{subst, length-set, length-append, nat_lt, All}
use Rattle.std.proofs.lemmas.Bool.{cond_both, false≢true, ltb-true, and_parts}
use Rattle.std.proofs.lemmas.Bool.Decides.{nat_tests}
use Rattle.std.proofs.lemmas.List.{length-map}
use Rattle.std.proofs.Common.{length-drop}
use Rattle.std.proofs.lemmas.List.Elements.{All-drop, All-take}
use Rattle.std.proofs.lemmas.List.Elements.{All-from_get_or}
use Rattle.vt100_rows.specs.Row.{RowView, IsRow, blank_row, trimmed}
use Rattle.vt100_rows.proofs.TrimLemmas.{IsRow-trimmed}
use Rattle.vt100_rows.specs.Sheet.{IsSheet, rows_by_position, moved_up}
use Rattle.vt100_rows.proofs.SheetLemmas.{length-rows_by_position}
use Rattle.vt100_rows.proofs.MoveLemmas.{IsSheet-moved_up}
use Rattle.vt100_core.specs.Grid.{KeptPart, IsKept, IsShownWide, GridView, IsGrid, IsAllocated, new_grid}
use Rattle.vt100_core.specs.Grid.{scrollback_of, with_row, with_rows, is_in_region}
use Rattle.vt100_core.specs.Cursor.{cursor_at, with_origin, with_region, moved_rows_down, moved_rows_up}
use Rattle.vt100_core.specs.Lines.{lines_opened, lines_inserted, lines_deleted, scrolled_down, rows_past_top, fed_up}
use Rattle.vt100_core.specs.Scroll.{Scrolled, widened, overflow, kept_after, up_count, left_rows, is_kept_from}
use Rattle.vt100_core.specs.Scroll.{scrolled_up, rows_past_bottom, fed}
use Rattle.vt100_core.proofs.GridLemmas.{region_rows}
use Rattle.vt100_core.proofs.GridLemmas.{IsGrid-lines_opened}
use Rattle.vt100_core.proofs.GridLemmas.{IsGrid-moved_up, IsGrid-scrolled}
use Rattle.vt100_core.proofs.KeepLemmas.{IsShownWide-none}
use Rattle.vt100_core.proofs.StayLemmas.{widened-none}
use Rattle.screen_model.proofs.SheetTraits.{kept-all}

-- a screen's size, and how many rows it can keep, if any
pub record Limits : Type 0 where
  pub height : ℕ
  pub width : ℕ
  pub keeps : Bool
  pub capacity : ℕ

pub record HasLimits (l : Limits) (rows cols : ℕ) (some : Bool) (most shown : ℕ) : Type 0 where
  pub height : rows ≡ l.height
  pub width : cols ≡ l.width
  pub keeps : some ≡ l.keeps
  pub capacity : most ≡ l.capacity
  pub few : l.capacity < 2 ^ 64
  pub hidden : shown ≡ 0

-- it has this size, keeps at most this many rows if any, and shows none of them
abbrev pub IsUnscrolledSheet : Limits → GridView → Type 0
IsUnscrolledSheet l g = HasLimits l g.height g.width g.kept.keeps g.kept.capacity g.kept.offset

abbrev pub sized : Limits → ℕ → ℕ → Limits
sized l height width = record l { height = height; width = width }

-- a screen of another size can keep as many rows, and none of them is shown
pub sized-limits : (l : Limits) (g : GridView) (height width rows cols offset : ℕ) → IsUnscrolledSheet l g
    → rows ≡ height → cols ≡ width → offset ≡ 0
    → HasLimits (sized l height width) rows cols g.kept.keeps g.kept.capacity offset
sized-limits l g height width rows cols offset few h w hidden = record {
  height = h;
  width = w;
  keeps = few.keeps;
  capacity = few.capacity;
  few = few.few;
  hidden = hidden;
}

pub hidden-limits : (l : Limits) (g : GridView) (offset : ℕ) → IsUnscrolledSheet l g → offset ≡ 0
    → HasLimits l g.height g.width g.kept.keeps g.kept.capacity offset
hidden-limits l g offset few =
    sized-limits l g l.height l.width g.height g.width offset few few.height few.width

pub record IsFineSheet (l : Limits) (g : GridView) : Type 0 where
  pub limits : IsUnscrolledSheet l g
  pub grid : IsGrid g

-- the same of a sheet with its rows
pub record IsShownSheet (l : Limits) (g : GridView) : Type 0 where
  pub fine : IsFineSheet l g
  pub some : IsAllocated g

drawn-if : (l : Limits) (b : Bool) (g h : GridView) → IsShownSheet l g → IsShownSheet l h → IsShownSheet l (cond b g h)
drawn-if l b g h p q = cond_both b g h (λ x. IsShownSheet l x) (λ _. p) (λ _. q)

-- ---- other rows

rows-drawn : (l : Limits) (g : GridView) (rows : List RowView) → IsShownSheet l g → IsGrid (record g { rows = rows })
    → length rows ≡ length g.rows → IsShownSheet l (record g { rows = rows })
rows-drawn l g rows d i n = record {
  fine = record { limits = d.fine.limits; grid = i };
  some = omega (arith, n, d.some);
}

pub positions-drawn : (l : Limits) (g : GridView) (f : ℕ → RowView) → IsShownSheet l g → IsGrid (with_rows g f)
    → IsShownSheet l (with_rows g f)
positions-drawn l g f d i =
    rows-drawn l g (rows_by_position (length g.rows) f) d i (length-rows_by_position (length g.rows) f)

pub row-drawn : (l : Limits) (g : GridView) (r : ℕ) (v : RowView) → IsShownSheet l g → IsGrid (with_row g r v)
    → IsShownSheet l (with_row g r v)
row-drawn l g r v d i = rows-drawn l g (set g.rows r v) d i (length-set g.rows r v)

-- ---- lines that come in and go

drawn-lines_opened : (l : Limits) (g : GridView) (first n : ℕ) → IsShownSheet l g
    → IsShownSheet l (lines_opened g first n)
drawn-lines_opened l g first n d = positions-drawn l g _ d (IsGrid-lines_opened g first n d.fine.grid d.some)

pub drawn-lines_inserted : (l : Limits) (g : GridView) (n : ℕ) → IsShownSheet l g → IsShownSheet l (lines_inserted g n)
drawn-lines_inserted l g n d =
    drawn-if l (nat_lt 0 n && is_in_region g) (lines_opened g g.row n) g (drawn-lines_opened l g g.row n d) d

pub drawn-scrolled_down : (l : Limits) (g : GridView) (n : ℕ) → IsShownSheet l g → IsShownSheet l (scrolled_down g n)
drawn-scrolled_down l g n d = drawn-if l (nat_lt 0 n) (lines_opened g g.top n) g (drawn-lines_opened l g g.top n d) d

moved-drawn : (l : Limits) (g : GridView) (first n : ℕ) → IsShownSheet l g
    → IsShownSheet l (with_rows g (moved_up g.rows first (g.bottom + 1) n g.width))
moved-drawn l g first n d =
    positions-drawn l g _ d (IsGrid-moved_up g first (g.bottom + 1) n d.fine.grid (region_rows g d.fine.grid d.some))

pub drawn-lines_deleted : (l : Limits) (g : GridView) (n : ℕ) → IsShownSheet l g → IsShownSheet l (lines_deleted g n)
drawn-lines_deleted l g n d =
    let m = min n (g.bottom + 1 - g.row) in
    drawn-if l (is_in_region g) (with_rows g (moved_up g.rows g.row (g.bottom + 1) m g.width)) g
    (moved-drawn l g g.row m d) d

-- ---- the cursor and the region

-- a grid of the same size, with rows, cursors, a region, modes and kept rows of its own
pub IsGrid-as : (g h : GridView) → IsGrid g → IsSheet g.height g.width h.rows → h.row < g.height → h.col ≤ g.width
    → h.saved_row < g.height → h.saved_col ≤ g.width → h.top ≤ h.bottom → h.bottom < g.height
    → (h.top ≡ h.bottom → g.height ≡ 1) → IsKept h.kept → IsShownWide h.kept g.height g.width
    → (length h.rows ≡ 0 → record h { height = g.height; width = g.width }
    ≡ new_grid g.height g.width (scrollback_of h.kept))
    → IsGrid (record h { height = g.height; width = g.width })
IsGrid-as g h i sheet row col saved_row saved_col region region_end region_lines kept shown fresh = record {
  sheet = sheet;
  some_rows = i.some_rows;
  some_cols = i.some_cols;
  few_rows = i.few_rows;
  few_cols = i.few_cols;
  cursor_row = row;
  cursor_col = col;
  saved_row = saved_row;
  saved_col = saved_col;
  region = region;
  region_end = region_end;
  region_lines = region_lines;
  kept = kept;
  shown = shown;
  fresh = fresh;
}

-- the same rows, with the cursors, the region and the modes of another grid
region-drawn : (l : Limits) (g h : GridView) → IsShownSheet l g → h.row < g.height → h.col ≤ g.width
    → h.saved_row < g.height → h.saved_col ≤ g.width → h.top ≤ h.bottom → h.bottom < g.height
    → (h.top ≡ h.bottom → g.height ≡ 1)
    → IsShownSheet l (record h { rows = g.rows; height = g.height; width = g.width; kept = g.kept })
region-drawn l g h d row col saved_row saved_col region region_end region_lines =
    let i = d.fine.grid in
    record {
      fine = record {
        limits = d.fine.limits;
        grid = IsGrid-as g (record h { rows = g.rows; kept = g.kept }) i i.sheet row col saved_row saved_col region
            region_end region_lines i.kept i.shown (λ z. absurd (omega (arith, z, d.some)));
      };
      some = d.some;
    }

-- the region stays
pub cursors-drawn : (l : Limits) (g h : GridView) → IsShownSheet l g → h.row < g.height → h.col ≤ g.width
    → h.saved_row < g.height → h.saved_col ≤ g.width
    → IsShownSheet l (record g {
      row = h.row;
      col = h.col;
      saved_row = h.saved_row;
      saved_col = h.saved_col;
      origin = h.origin;
      saved_origin = h.saved_origin;
    })
cursors-drawn l g h d row col saved_row saved_col =
    let i = d.fine.grid in
    region-drawn l g (record h { top = g.top; bottom = g.bottom }) d row col saved_row saved_col i.region i.region_end
    i.region_lines

-- the cursor moves to a place of the screen
pub drawn-at : (l : Limits) (g : GridView) (row col : ℕ) → row < g.height → col ≤ g.width → IsShownSheet l g
    → IsShownSheet l (record g { row = row; col = col })
drawn-at l g row col r c d =
    cursors-drawn l g (record g { row = row; col = col }) d r c d.fine.grid.saved_row d.fine.grid.saved_col

pub drawn-col : (l : Limits) (g : GridView) (col : ℕ) → col ≤ g.width → IsShownSheet l g
    → IsShownSheet l (record g { col = col })
drawn-col l g col c d = drawn-at l g g.row col d.fine.grid.cursor_row c d

pub drawn-row : (l : Limits) (g : GridView) (row : ℕ) → row < g.height → IsShownSheet l g
    → IsShownSheet l (record g { row = row })
drawn-row l g row r d = drawn-at l g row g.col r d.fine.grid.cursor_col d

pub drawn-cursor_at : (l : Limits) (g : GridView) (row col : ℕ) → IsShownSheet l g
    → IsShownSheet l (cursor_at g row col)
drawn-cursor_at l g row col d =
    let i = d.fine.grid in
    drawn-at l g (cond g.origin (min (row + g.top) g.bottom) (min row (g.height - 1))) (min col (g.width - 1))
    (cond_both g.origin (min (row + g.top) g.bottom) (min row (g.height - 1)) (λ n. n < g.height)
    (λ _. omega (arith, i.region_end)) (λ _. omega (arith, i.some_rows)))
    (omega arith) d

pub drawn-origin : (l : Limits) (g : GridView) (mode : Bool) → IsShownSheet l g → IsShownSheet l (with_origin g mode)
drawn-origin l g mode d =
    let i = d.fine.grid in
    drawn-cursor_at l (record g { origin = mode }) 0 0
    (cursors-drawn l g (record g { origin = mode }) d i.cursor_row i.cursor_col i.saved_row i.saved_col)

pub drawn-region : (l : Limits) (g : GridView) (top bottom : ℕ) → IsShownSheet l g
    → IsShownSheet l (with_region g top bottom)
drawn-region l g top bottom d =
    let i = d.fine.grid in
    let end = min bottom (g.height - 1) in
    cond_both (nat_lt top end) (record g { top = top; bottom = end; row = top; col = 0 })
    (record g { top = 0; bottom = g.height - 1; row = 0; col = 0 }) (λ x. IsShownSheet l x)
    (λ e. let less = ltb-true top end e in
    region-drawn l g (record g { top = top; bottom = end; row = top; col = 0 }) d (omega (arith, less, i.some_rows))
    (omega arith) i.saved_row i.saved_col (omega (arith, less)) (omega (arith, i.some_rows))
    (λ same. absurd (omega (arith, less, same))))
    (λ _. region-drawn l g (record g { top = 0; bottom = g.height - 1; row = 0; col = 0 }) d i.some_rows (omega arith)
    i.saved_row i.saved_col (omega arith) (omega (arith, i.some_rows)) (λ same. omega (arith, i.some_rows, same)))

pub drawn-down : (l : Limits) (g : GridView) (n : ℕ) → IsShownSheet l g → IsShownSheet l (moved_rows_down g n)
drawn-down l g n d =
    let i = d.fine.grid in
    drawn-row l g (min (g.row + n) (cond (is_in_region g) g.bottom (g.height - 1)))
    (cond_both (is_in_region g) g.bottom (g.height - 1) (λ m. min (g.row + n) m < g.height)
    (λ _. omega (arith, i.region_end)) (λ _. omega (arith, i.some_rows))) d

pub drawn-up : (l : Limits) (g : GridView) (n : ℕ) → IsShownSheet l g → IsShownSheet l (moved_rows_up g n)
drawn-up l g n d =
    let i = d.fine.grid in
    drawn-row l g (cond (is_in_region g) (max (g.row - n) g.top) (g.row - n))
    (cond_both (is_in_region g) (max (g.row - n) g.top) (g.row - n) (λ m. m < g.height)
    (λ _. omega (arith, i.cursor_row, i.region, i.region_end)) (λ _. omega (arith, i.cursor_row))) d

pub drawn-fed_up : (l : Limits) (g : GridView) (n : ℕ) → IsShownSheet l g → IsShownSheet l (fed_up g n)
drawn-fed_up l g n d = drawn-scrolled_down l (moved_rows_up g n) (rows_past_top g n) (drawn-up l g n d)

-- ---- rows that are kept

kept-rows : KeptPart → List RowView → List RowView
kept-rows k left = drop (overflow k (length left)) k.rows
    ++ map trimmed (drop (length left - min (length left) k.capacity) left)

length-kept : (k : KeptPart) (left : List RowView) → length (kept-rows k left)
    ≡ (length k.rows - overflow k (length left)) + (length left - (length left - min (length left) k.capacity))
unfolding kept-rows
length-kept k left =
    let m = length left - min (length left) k.capacity in
    length-append (drop (overflow k (length left)) k.rows) (map trimmed (drop m left))
    ∙ ap (λ n. n + length (map trimmed (drop m left))) (length-drop (overflow k (length left)) k.rows)
    ∙ ap (λ n. (length k.rows - overflow k (length left)) + n) (length-map (drop m left) trimmed ∙ length-drop m left)

none-shown : (n x : ℕ) → n ≡ 0 → cond (n == 0) 0 x ≡ 0
none-shown n x e = grind (arith, nat_tests)

kept-hidden : (k : KeptPart) (left : List RowView) → k.offset ≡ 0 → (kept_after k left).offset ≡ 0
kept-hidden k left e = none-shown k.offset _ e

kept-after : (k : KeptPart) (left : List RowView) → IsKept k → All IsRow left → k.capacity < 2 ^ 64 → k.offset ≡ 0
    → k.keeps ≡ true → IsKept (kept_after k left)
unfolding kept-rows
kept-after k left i rows few hidden keeps =
    let n = length-kept k left in
    let all : All IsRow (kept-rows k left) = kept-all IsRow IsRow-trimmed k left
    (All-from_get_or IsRow k.rows (blank_row 0) i.each) rows in
    let off = kept-hidden k left hidden in
    record {
      each = λ j l. all j (blank_row 0) l;
      fits = omega (arith, n, i.fits);
      counted = omega (arith, n, i.counted, i.fits, few);
      offset = omega (arith, off);
      none = λ e. absurd (false≢true (sym e ∙ keeps));
      bounded = omega arith;
    }

-- ---- scrolling up

sheet-rows : (g : GridView) → IsGrid g → All IsRow g.rows
sheet-rows g i = All-from_get_or IsRow g.rows (blank_row 0) (λ r h. (i.sheet.each r h).row)

pub drawn-scrolled_up : (l : Limits) (g : GridView) (n : ℕ) → IsShownSheet l g → IsShownSheet l (scrolled_up g n).grid
unfolding scrolled_up kept-rows
drawn-scrolled_up l g n d =
    let i = d.fine.grid in
    let left = left_rows g n in
    let f = moved_up g.rows g.top (g.bottom + 1) (up_count g n) g.width in
    let rows = rows_by_position (length g.rows) f in
    let m = length-rows_by_position (length g.rows) f in
    let k = kept_after g.kept left in
    cond_both (is_kept_from g) (widened k g.height g.width) g.kept
    (λ (x : KeptPart). IsShownSheet l (record g { rows = rows; kept = x }))
    (λ e. let off = kept-hidden g.kept left d.fine.limits.hidden in
    let all_left = All-take IsRow (up_count g n) (drop g.top g.rows) (All-drop IsRow g.top g.rows (sheet-rows g i)) in
    let few = d.fine.limits in
    let valid = kept-after g.kept left i.kept all_left (omega (arith, few.capacity, few.few)) few.hidden
    (and_parts (g.top == 0) g.kept.keeps e).1 in
    let narrow = IsShownWide-none k g.height g.width off in
    subst (λ (x : KeptPart). IsShownSheet l (record g { rows = rows; kept = x })) (sym
    (widened-none k g.height g.width narrow))
    (record {
      fine = record {
        limits = hidden-limits l g k.offset few off;
        grid = IsGrid-scrolled g rows k i d.some m
            (IsSheet-moved_up g.height g.width g.rows g.top (g.bottom + 1) (up_count g n) i.sheet i.some_rows i.few_cols
            (region_rows g i d.some)) valid narrow;
      };
      some = omega (arith, m, d.some);
    }))
    (λ _. moved-drawn l g g.top (up_count g n) d)

pub drawn-fed : (l : Limits) (g : GridView) (n : ℕ) → IsShownSheet l g → IsShownSheet l (fed g n).grid
unfolding fed
drawn-fed l g n d =
    cond_both (is_in_region g) (scrolled_up (moved_rows_down g n) (rows_past_bottom g n))
    (record { grid = moved_rows_down g n; sunk = [] }) (λ (s : Scrolled). IsShownSheet l s.grid)
    (λ _. drawn-scrolled_up l (moved_rows_down g n) (rows_past_bottom g n) (drawn-down l g n d))
    (λ _. drawn-down l g n d)
