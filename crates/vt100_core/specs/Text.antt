-- Printing characters on a grid.
use Rattle.std.specs.Prelude.{ℕ, ◌+◌, ◌-◌, ◌<◌, ◌≤◌, ◌==◌, true, false, not, nat_lt, List, [], ◌∷◌, ◌++◌, length, take}
use Rattle.std.specs.Prelude.{◌≡◌, if◌then◌else◌, Result, OnOk, OnErr, IfOk, IsOk}
use Rattle.vt100_forms.specs.declared.attrs.Attrs.{Attrs}
use Rattle.vt100_cells.specs.Cell.{CellView, columns_of, cell_of}
pub use Rattle.vt100_cells.specs.Cell.{IsWide}
use Rattle.vt100_rows.specs.Row.{RowView, placed, wiped_row, joined_cell, joined_row, is_widening}
use Rattle.terminal_model.specs.Apply.{is_dropped}
use Rattle.vt100_rows.specs.Sink.{TakesAll}
use Rattle.vt100_core.specs.Grid.{GridView, IsAllocated, SameLimits, with_cursor_row, row_of_cursor}
use Rattle.vt100_core.specs.Scroll.{Scrolled, ScrollsNoneOff, made_to_fit, wrapped_on}
use Rattle.vt100_core.specs.declared.printed.Printed.{Printed}
use Rattle.vt100_core.specs.declared.printed.Printed.TheVariants.{Nothing, Spacing, Joined}

-- a grid, the rows that have left for good on the way to it, and what was printed
pub record PrintedGrid : Type 0 where
  pub grid : GridView
  pub sunk : List RowView
  pub printed : Printed

-- what a call does that makes a grid g into h and a sink s into t: it gives the sink the rows that leave for good on
-- the way to p, also where it is refused, and h is the grid of p unless it is. It is refused only where rows scroll
-- off that are kept.
pub record Prints {S : Type 0} (takes : S → RowView → S → Type 0) (s t : S) (g h : GridView) {E : Type 0}
    (result : Result Printed E) (p : PrintedGrid) : Type 0 where
  pub grid : OnOk result (h ≡ p.grid)
  pub sink : TakesAll takes s p.sunk t
  pub answer : IfOk result (λ answer. answer ≡ p.printed)
  pub limits : SameLimits g h
  pub keeps_none : g.kept.capacity ≡ 0 → IsOk result
  pub stays : ScrollsNoneOff g p.grid → IsOk result
  pub allocated : IsAllocated h

-- the cell at the cursor, and the cursor n columns on
abbrev pub put_at : GridView → CellView → Attrs → ℕ → GridView
put_at g x a n = record (with_cursor_row g (placed (row_of_cursor g) g.col x a)) { col = g.col + n }

-- a character of one or two columns, on the next row where too few are left
abbrev pub spaced : GridView → ℕ → Attrs → PrintedGrid
spaced g c a =
    let s = made_to_fit g (columns_of c) true in
    record { grid = put_at s.grid (cell_of c a) a (columns_of c); sunk = s.sunk; printed = Spacing }

-- a wide cell, on the next row where fewer than two columns are left
abbrev pub carried_on : GridView → CellView → Attrs → PrintedGrid
carried_on g x a =
    let s = made_to_fit g 2 false in
    record { grid = put_at s.grid x a 2; sunk = s.sunk; printed = Joined }

-- a cell that has become wide in the last column goes to the start of the next row, with the drawing attributes
abbrev pub carried : GridView → ℕ → Attrs → PrintedGrid
carried g c a =
    let s = wrapped_on (with_cursor_row g (wiped_row (row_of_cursor g) (g.col - 1) g.col a)) false in
    record {
      grid = put_at s.grid (record (joined_cell (row_of_cursor g) g.col c) { attrs = a }) a 2;
      sunk = s.sunk;
      printed = Joined;
    }

-- a zero-width character joins the cell to the cursor's left
abbrev pub joined : GridView → ℕ → Attrs → PrintedGrid
joined g c a =
    let v = row_of_cursor g in
    if not (is_widening v g.col c) then record {
      grid = with_cursor_row g (joined_row v g.col c);
      sunk = [];
      printed = Joined;
    }
    else if g.width == 1 then record { grid = g; sunk = []; printed = Nothing }
    else if nat_lt g.col g.width
    then record {
      grid = record (with_cursor_row g (placed v (g.col - 1) (joined_cell v g.col c) a)) {
        col = g.col + 1;
      };
      sunk = [];
      printed = Joined;
    }
    else carried g c a

unfoldable pub printed : GridView → ℕ → Attrs → PrintedGrid
printed g c a =
    if is_dropped g.width g.col c then record { grid = g; sunk = []; printed = Nothing }
    else if nat_lt 0 (columns_of c) then spaced g c a
    else joined g c a

-- characters are printed one after another
abbrev pub printed_all : GridView → List ℕ → Attrs → Scrolled
printed_all g [] a = record { grid = g; sunk = [] }
printed_all g (c ∷ cs) a =
    let first = printed g c a in
    let others = printed_all first.grid cs a in
    record { grid = others.grid; sunk = first.sunk ++ others.sunk }

-- the sink s has been given the rows that leave while a prefix of the text is printed, and is t
abbrev pub TakesPrefix : {S : Type 0} → (S → RowView → S → Type 0) → S → GridView → List ℕ → Attrs → S → Type 0
TakesPrefix takes s g text a t =
    (prefix : List ℕ) × (rest : List ℕ) × (text ≡ prefix ++ rest) × TakesAll takes s (printed_all g prefix a).sunk t

-- what a call does that prints a text on a grid g, which is h then, as `Prints` says of each character in turn; where
-- it is refused the sink has been given what leaves while a prefix of the text is printed
pub record PrintsAll {S : Type 0} (takes : S → RowView → S → Type 0) (s t : S) (g h : GridView) {T E : Type 0}
    (result : Result T E) (text : List ℕ) (a : Attrs) : Type 0 where
  pub grid : OnOk result (h ≡ (printed_all g text a).grid)
  pub sink : OnOk result (TakesAll takes s (printed_all g text a).sunk t)
  pub begun : OnErr result (TakesPrefix takes s g text a t)
  pub limits : SameLimits g h
  pub keeps_none : g.kept.capacity ≡ 0 → IsOk result
  pub stays : ScrollsNoneOff g (printed_all g text a).grid → IsOk result
  pub allocated : IsAllocated h

-- the same of some characters at the text's start, where its first one may be refused
pub record PrintsFirst {S : Type 0} (takes : S → RowView → S → Type 0) (s t : S) (g h : GridView) {E : Type 0}
    (result : Result ℕ E) (text : List ℕ) (a : Attrs) : Type 0 where
  pub some : IfOk result (λ n. 0 < n)
  pub within : IfOk result (λ n. n ≤ length text)
  pub grid : IfOk result (λ n. h ≡ (printed_all g (take n text) a).grid)
  pub sink : IfOk result (λ n. TakesAll takes s (printed_all g (take n text) a).sunk t)
  pub begun : OnErr result (TakesAll takes s (printed_all g (take 1 text) a).sunk t)
  pub limits : SameLimits g h
  pub keeps_none : g.kept.capacity ≡ 0 → IsOk result
  pub stays : ScrollsNoneOff g (printed_all g (take 1 text) a).grid → IsOk result
  pub allocated : IsAllocated h
