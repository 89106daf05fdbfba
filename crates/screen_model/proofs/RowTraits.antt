-- What is true of each character and of the current attributes stays true of the cells of a row, whatever edits it. So
-- no edit puts U+FFFD into a row, if none was given.
use Rattle.std.proofs.Common.{◌≡◌, ℕ, ◌+◌, ◌-◌, ◌<◌, ◌≤◌, Bool, cond, List, [], ◌∷◌}
use Rattle.std.proofs.Common.{length, min, arith, sym, subst, nat_lt, All}
use Rattle.std.proofs.Common.{⊎_elim}
use Rattle.std.specs.List.{range_with_len}
use Rattle.std.proofs.lemmas.Bool.{cases_lt, cond_both}
use Rattle.std.proofs.lemmas.List.Elements.{All-nil, All-cons, All-push, All-map, All-replicate, All-take}
use Rattle.vt100_forms.specs.declared.attrs.Attrs.{Attrs}
use Rattle.vt100_forms.specs.Attrs.{default_attrs, IsProper}
use Rattle.vt100_cells.specs.Cell.{CellView, default_cell, empty_cell, continuation_cell, cell_of, text_with, has_room}
use Rattle.vt100_cells.specs.Cell.{appended}
use Rattle.vt100_cells.specs.Cells.{cell_at, by_position, trimmed_len}
use Rattle.vt100_cells.specs.Line.{update, put, base_col, wiped, cut, opened, closed, extended}
use Rattle.vt100_cells.proofs.ListLemmas.{cell_at_past}
use Rattle.vt100_rows.specs.Row.{RowView, blank_row, cleared_row, with_wrap, unwrapped, placed, wiped_row, joined_cell}
use Rattle.vt100_rows.specs.Row.{joined_row, inserted, removed, truncated, grown, resized_row}
use Rattle.vt100_rows.specs.Row.{trimmed}
use Rattle.vt100_rows.specs.Sheet.{row_at, rows_by_position, moved_up, moved_down, opened_line}
use Rattle.vt100_rows.specs.Sheet.{erased_forward_at, erased_backward_at, first_rows}
use Rattle.vt100_rows.proofs.SheetLemmas.{row_at_past}
use Rattle.vt100_forms.proofs.AttrsLemmas.{default-proper}

-- what is true of each character and of the attributes
pub record Traits : Type 1 where
  pub of_char : ℕ → Type 0
  pub of_attrs : Attrs → Type 0
  pub space : of_char 32
  pub default : of_attrs default_attrs

-- a character that is drawn
abbrev pub IsKnown : ℕ → Type 0
IsKnown c = c ≡ 0xFFFD → ⊥

pub space-known : IsKnown 32
space-known = λ e. omega (arith, e)

-- the traits of a terminal after bytes
abbrev pub sound : Traits
sound = record { of_char = IsKnown; of_attrs = IsProper; space = space-known; default = default-proper }

-- the traits of each screen
abbrev pub proper : Traits
proper = record { of_char = λ c. Unit {0}; of_attrs = IsProper; space = tt; default = default-proper }

module _ (t : Traits) where
  -- ---- cells
  pub record IsClean (x : CellView) : Type 0 where
    pub text : All t.of_char x.text
    pub attrs : t.of_attrs x.attrs

  either : (b : Bool) (x y : CellView) → IsClean x → IsClean y → IsClean (cond b x y)
  either b x y p q = cond_both b x y IsClean (λ _. p) (λ _. q)

  clean-empty : (a : Attrs) → t.of_attrs a → IsClean (empty_cell a)
  clean-empty a p = record { text = All-nil t.of_char; attrs = p }

  clean-default : IsClean default_cell
  clean-default = clean-empty default_attrs t.default

  clean-emptied : (x : CellView) → IsClean x → IsClean (empty_cell x.attrs)
  clean-emptied x h = clean-empty x.attrs h.attrs

  clean-continuation : IsClean continuation_cell
  clean-continuation = record { text = All-nil t.of_char; attrs = t.default }

  pub clean-of : (c : ℕ) (a : Attrs) → t.of_char c → t.of_attrs a → IsClean (cell_of c a)
  clean-of c a h p = record { text = All-cons t.of_char c [] h (All-nil t.of_char); attrs = p }

  clean-space : (a : Attrs) → t.of_attrs a → IsClean (cell_of 32 a)
  clean-space a p = clean-of 32 a t.space p

  text-with : (cs : List ℕ) (c : ℕ) → All t.of_char cs → t.of_char c → All t.of_char (text_with cs c)
  text-with [] c h k = All-cons t.of_char 32 (c ∷ []) t.space (All-cons t.of_char c [] k (All-nil t.of_char))
  text-with (x ∷ xs) c h k = All-push t.of_char (x ∷ xs) c h k

  clean-appended : (x : CellView) (c : ℕ) → IsClean x → t.of_char c → IsClean (appended x c)
  clean-appended x c h k =
      either (has_room x.text) _ x (record { text = text-with x.text c h.text k; attrs = h.attrs }) h

  clean-at : (cells : List CellView) → All IsClean cells → (k : ℕ) → IsClean (cell_at cells k)
  clean-at cells h k =
      ⊎_elim (λ (l : k < length cells). h k default_cell l)
      (λ (l : length cells ≤ k). subst IsClean (sym (cell_at_past cells k l)) clean-default)
      (cases_lt k (length cells))

  cells-by : (n : ℕ) (f : ℕ → CellView) → ((k : ℕ) → IsClean (f k)) → All IsClean (by_position n f)
  cells-by n f h = All-map IsClean f (range_with_len 0 n) (λ k d l. h _)

  -- ---- edits of a line

  abbrev Line : (ℕ → CellView) → Type 0
  Line f = (k : ℕ) → IsClean (f k)

  line-update : (f : ℕ → CellView) (i : ℕ) (x : CellView) → Line f → IsClean x → Line (update f i x)
  line-update f i x h y k = either _ _ _ y (h k)

  line-put : (f : ℕ → CellView) (i : ℕ) (x : CellView) (a : Attrs) → t.of_attrs a → Line f → IsClean x
      → Line (put f i x a)
  line-put f i x a p h y k =
      either _ _ _ y (either _ _ _ clean-continuation
      (either _ _ _ (clean-space a p) (either _ _ _ (clean-emptied (f k) (h k))
      (either _ _ _ (clean-empty a p) (h k)))))

  line-wiped : (f : ℕ → CellView) (s e : ℕ) (a : Attrs) → t.of_attrs a → Line f → Line (wiped f s e a)
  line-wiped f s e a p h k = either _ _ _ (clean-empty a p) (either _ _ _ (clean-emptied (f k) (h k)) (h k))

  line-cut : (n : ℕ) (f : ℕ → CellView) → Line f → Line (cut n f)
  line-cut n f h k = either _ _ _ clean-default (either _ _ _ (clean-emptied (f k) (h k)) (h k))

  line-opened : (f : ℕ → CellView) (i n : ℕ) → Line f → Line (opened f i n)
  line-opened f i n h k = either _ _ _ (h k) (either _ _ _ clean-continuation
      (either _ _ _ clean-default (h (k - n))))

  line-closed : (m : ℕ) (f : ℕ → CellView) (s n : ℕ) → Line f → Line (closed m f s n)
  line-closed m f s n h k =
      either _ _ _ (clean-emptied (f k) (h k)) (either _ _ _ (h k)
      (either _ _ _ clean-default (either _ _ _ (clean-emptied (f (s + n)) (h (s + n))) (h (k + n)))))

  line-extended : (m : ℕ) (f : ℕ → CellView) → Line f → Line (extended m f default_cell)
  line-extended m f h k = either _ _ _ (h k) clean-default

  -- ---- rows

  pub record IsCleanRow (v : RowView) : Type 0 where
    pub cells : All IsClean v.cells

  pub clean-cell : (v : RowView) → IsCleanRow v → (k : ℕ) → IsClean (cell_at v.cells k)
  clean-cell v h k = clean-at v.cells h.cells k

  pub clean-either : (b : Bool) (v w : RowView) → IsCleanRow v → IsCleanRow w → IsCleanRow (cond b v w)
  clean-either b v w p q = cond_both b v w IsCleanRow (λ _. p) (λ _. q)

  pub clean-blank : (n : ℕ) → IsCleanRow (blank_row n)
  clean-blank n = record { cells = All-replicate IsClean n default_cell clean-default }

  pub clean-cleared : (v : RowView) (a : Attrs) → t.of_attrs a → IsCleanRow (cleared_row v a)
  clean-cleared v a p = record { cells = All-replicate IsClean (length v.cells) (empty_cell a) (clean-empty a p) }

  pub clean-with_wrap : (v : RowView) (b : Bool) → IsCleanRow v → IsCleanRow (with_wrap v b)
  clean-with_wrap v b h = record { cells = h.cells }

  pub clean-unwrapped : (v : RowView) → IsCleanRow v → IsCleanRow (unwrapped v)
  clean-unwrapped v h = record { cells = h.cells }

  pub clean-placed : (v : RowView) (i : ℕ) (x : CellView) (a : Attrs) → t.of_attrs a → IsCleanRow v → IsClean x
      → IsCleanRow (placed v i x a)
  clean-placed v i x a p h y =
      record { cells = cells-by _ _ (line-put (cell_at v.cells) i x a p (clean-at v.cells h.cells) y) }

  pub clean-wiped : (v : RowView) (s e : ℕ) (a : Attrs) → t.of_attrs a → IsCleanRow v → IsCleanRow (wiped_row v s e a)
  clean-wiped v s e a p h =
      record { cells = cells-by _ _ (line-wiped (cell_at v.cells) s e a p (clean-at v.cells h.cells)) }

  pub clean-joined_cell : (v : RowView) (col c : ℕ) → IsCleanRow v → t.of_char c → IsClean (joined_cell v col c)
  clean-joined_cell v col c h k =
      clean-appended (cell_at v.cells (base_col (cell_at v.cells) col)) c
      (clean-at v.cells h.cells (base_col (cell_at v.cells) col)) k

  pub clean-joined : (v : RowView) (col c : ℕ) → IsCleanRow v → t.of_char c → IsCleanRow (joined_row v col c)
  clean-joined v col c h k =
      record {
        cells = cells-by _ _ (line-update (cell_at v.cells) (base_col (cell_at v.cells) col) (joined_cell v col c)
            (clean-at v.cells h.cells) (clean-joined_cell v col c h k));
      }

  pub clean-inserted : (v : RowView) (i count : ℕ) → IsCleanRow v → IsCleanRow (inserted v i count)
  clean-inserted v i count h =
      let n = length v.cells in
      let m = min count (n - i) in
      let f = opened (cell_at v.cells) i m in
      record {
        cells = cond_both (nat_lt 0 m) (by_position n (cut n f)) v.cells (λ (xs : List CellView). All IsClean xs)
            (λ _. cells-by n (cut n f) (line-cut n f (line-opened (cell_at v.cells) i m (clean-at v.cells h.cells))))
            (λ _. h.cells);
      }

  pub clean-removed : (v : RowView) (s e : ℕ) → IsCleanRow v → IsCleanRow (removed v s e)
  clean-removed v s e h =
      let n = length v.cells in
      let f = closed n (cell_at v.cells) s (e - s) in
      record {
        cells = cond_both (nat_lt s e) (by_position n f) v.cells (λ (xs : List CellView). All IsClean xs)
            (λ _. cells-by n f (line-closed n (cell_at v.cells) s (e - s) (clean-at v.cells h.cells)))
            (λ _. h.cells);
      }

  clean-truncated : (v : RowView) (n : ℕ) → IsCleanRow v → IsCleanRow (truncated v n)
  clean-truncated v n h =
      let m = min n (length v.cells) in
      record { cells = cells-by m (cut m (cell_at v.cells)) (line-cut m (cell_at v.cells) (clean-at v.cells h.cells)) }

  pub clean-grown : (v : RowView) (n : ℕ) → IsCleanRow v → IsCleanRow (grown v n default_cell)
  clean-grown v n h =
      let f = extended (length v.cells) (cell_at v.cells) default_cell in
      clean-either (nat_lt (length v.cells) n) _ v
      (record { cells = cells-by n f (line-extended (length v.cells) (cell_at v.cells) (clean-at v.cells h.cells)) }) h

  pub clean-resized : (v : RowView) (n : ℕ) → IsCleanRow v → IsCleanRow (resized_row v n default_cell)
  clean-resized v n h =
      clean-either (nat_lt n (length v.cells)) (truncated v n) (grown v n default_cell) (clean-truncated v n h)
      (clean-grown v n h)

  pub clean-trimmed : (v : RowView) → IsCleanRow v → IsCleanRow (trimmed v)
  clean-trimmed v h = record { cells = All-take IsClean (trimmed_len v.cells) v.cells h.cells }

  -- ---- lists of rows

  pub clean-row : (rows : List RowView) → All IsCleanRow rows → (r : ℕ) → IsCleanRow (row_at rows r)
  clean-row rows h r =
      ⊎_elim (λ (l : r < length rows). h r (blank_row 0) l)
      (λ (l : length rows ≤ r). subst IsCleanRow (sym (row_at_past rows r l)) (clean-blank 0))
      (cases_lt r (length rows))

  pub clean-rows : (n : ℕ) (f : ℕ → RowView) → ((r : ℕ) → IsCleanRow (f r)) → All IsCleanRow (rows_by_position n f)
  clean-rows n f h = All-map IsCleanRow f (range_with_len 0 n) (λ k d l. h _)

  pub clean-moved_up : (rows : List RowView) (first end n width : ℕ) → All IsCleanRow rows → (r : ℕ)
      → IsCleanRow (moved_up rows first end n width r)
  clean-moved_up rows first end n width h r =
      clean-either _ _ _ (clean-row rows h r) (clean-either _ _ _ (clean-row rows h (r + n)) (clean-blank width))

  clean-moved_down : (rows : List RowView) (first end n width : ℕ) → All IsCleanRow rows → (r : ℕ)
      → IsCleanRow (moved_down rows first end n width r)
  clean-moved_down rows first end n width h r =
      clean-either _ _ _ (clean-row rows h r) (clean-either _ _ _ (clean-blank width) (clean-row rows h (r - n)))

  pub clean-opened_line : (rows : List RowView) (first end n width : ℕ) → All IsCleanRow rows → (r : ℕ)
      → IsCleanRow (opened_line rows first end n width r)
  clean-opened_line rows first end n width h r =
      let down = clean-moved_down rows first end n width h r in
      clean-either _ _ _ (clean-unwrapped (moved_down rows first end n width r) down) down

  pub clean-erased_forward : (rows : List RowView) (row col width : ℕ) (a : Attrs) → t.of_attrs a → All IsCleanRow rows
      → (r : ℕ) → IsCleanRow (erased_forward_at rows row col width a r)
  clean-erased_forward rows row col width a p h r =
      clean-either _ _ _ (clean-cleared (row_at rows r) a p)
      (clean-either _ _ _ (clean-wiped (row_at rows r) col width a p (clean-row rows h r)) (clean-row rows h r))

  pub clean-erased_backward : (rows : List RowView) (row end : ℕ) (a : Attrs) → t.of_attrs a → All IsCleanRow rows
      → (r : ℕ) → IsCleanRow (erased_backward_at rows row end a r)
  clean-erased_backward rows row end a p h r =
      clean-either _ _ _ (clean-cleared (row_at rows r) a p)
      (clean-either _ _ _ (clean-wiped (row_at rows r) 0 end a p (clean-row rows h r)) (clean-row rows h r))

  pub clean-first : (rows : List RowView) (height : ℕ) → All IsCleanRow rows → (r : ℕ)
      → IsCleanRow (first_rows rows height r)
  clean-first rows height h r =
      clean-either _ _ _ (clean-unwrapped (row_at rows r) (clean-row rows h r)) (clean-row rows h r)
