-- New screens, other sizes, and the kept rows by themselves.
use Rattle.std.proofs.Common.{◌≡◌, ℕ, ◌-◌, ◌^◌, ◌<◌, ◌≤◌, ◌==◌, false, ◌&&◌, []}
use Rattle.std.proofs.Common.{length, min, replicate, refl, sym, ap, ◌∙◌, arith, subst, ⊎_elim}
use Rattle.std.proofs.Common.{nat_lt}
use Rattle.std.proofs.lemmas.Bool.{cond_both, cases_lt, eqb-true, eq-eqb, ltb-true, ltb-false, and_parts, false≢true}
use Rattle.std.proofs.lemmas.Bool.Decides.{nat_tests}
use Rattle.std.proofs.lemmas.List.{length-replicate}
use Rattle.vt100_cells.specs.Cell.{default_cell}
use Rattle.vt100_rows.specs.Row.{RowView, blank_row, resized_row}
use Rattle.vt100_rows.specs.Sheet.{row_at}
use Rattle.vt100_rows.proofs.SheetLemmas.{length-rows_by_position, IsSheet-blank, IsSheet-none}
use Rattle.vt100_core.specs.Grid.{KeptPart, IsKept, GridView, IsAllocated, new_grid, keeps_of, capacity_of}
use Rattle.vt100_core.specs.Grid.{scrollback_of, allocated, cleared}
use Rattle.vt100_core.specs.declared.scrollback.Scrollback.{Scrollback}
use Rattle.vt100_core.specs.declared.scrollback.Scrollback.TheVariants.{Disabled, Enabled}
use Rattle.vt100_core.specs.Scroll.{Scrolled, scrolled_up, up_count, scrollback_erased, scrollback_shown}
use Rattle.vt100_core.specs.Resize.{whole_screen, up_rows, shortened, with_width, lengthened}
use Rattle.vt100_core.specs.Resize.{resized}
use Rattle.vt100_core.proofs.GridLemmas.{IsNew-of}
use Rattle.vt100_core.proofs.KeepLemmas.{IsShownWide-none}
use Rattle.vt100_core.proofs.StayLemmas.{widened-none, scrolls-none}
use Rattle.vt100_core.proofs.ResizeLemmas.{IsGrid-whole_screen, IsGrid-shortened, IsGrid-with_width, some-shortened}
use Rattle.vt100_core.proofs.ResizeLemmas.{some-lengthened}
use Rattle.vt100_core.proofs.LengthenLemmas.{IsGrid-lengthened}
use Rattle.screen_model.proofs.UnscrolledSheets.{Limits, IsFineSheet, IsShownSheet, sized, sized-limits}
use Rattle.screen_model.proofs.UnscrolledSheets.{hidden-limits, IsGrid-as, drawn-scrolled_up}

-- ---- a new sheet

nothing-kept : (s : Scrollback) → keeps_of s ≡ false → capacity_of s ≡ 0
nothing-kept Disabled e = refl
nothing-kept (Enabled c) e = absurd (false≢true (sym e))

none-kept : (k : KeptPart) → (k.keeps ≡ false → k.capacity ≡ 0)
    → IsKept (record k { rows = []; offset = 0; scrolled_off = 0 })
none-kept k none = record {
  each = λ j h. absurd (omega arith);
  fits = omega arith;
  counted = omega arith;
  offset = omega arith;
  none = λ e. (none e, refl);
  bounded = omega arith;
}

same-new : (height width : ℕ) (s : Scrollback)
    → new_grid height width s ≡ new_grid height width (scrollback_of (new_grid height width s).kept)
same-new height width Disabled = refl
same-new height width (Enabled c) = refl

pub new-fine : (height width : ℕ) (s : Scrollback) → 0 < height → height < 2 ^ 16 → 0 < width → width < 2 ^ 16
    → capacity_of s < 2 ^ 64
    → IsFineSheet (record { height = height; width = width; keeps = keeps_of s; capacity = capacity_of s })
    (new_grid height width s)
new-fine height width s some_rows few_rows some_cols few_cols few =
    let g = new_grid height width s in
    let kept : IsKept g.kept = none-kept g.kept (nothing-kept s) in
    record {
      grid = record {
        sheet = IsSheet-none height width [] (omega arith);
        some_rows = some_rows;
        some_cols = some_cols;
        few_rows = few_rows;
        few_cols = few_cols;
        cursor_row = some_rows;
        cursor_col = omega arith;
        saved_row = some_rows;
        saved_col = omega arith;
        region = omega arith;
        region_end = omega (arith, some_rows);
        region_lines = λ e. omega (arith, some_rows, e);
        kept = kept;
        shown = IsShownWide-none g.kept height width refl;
        fresh = λ z. same-new height width s;
      };
      limits = record { height = refl; width = refl; keeps = refl; capacity = refl; few = few; hidden = refl };
    }

-- ---- rows for it

blank-rows : (l : Limits) (g : GridView) → IsFineSheet l g
    → IsShownSheet l (record g { rows = replicate g.height (blank_row g.width) })
blank-rows l g d =
    let i = d.grid in
    let n = length-replicate g.height (blank_row g.width) in
    record {
      fine = record {
        grid = IsGrid-as g (record g { rows = replicate g.height (blank_row g.width) }) i
            (IsSheet-blank g.height g.width g.height (λ _. refl) i.few_cols) i.cursor_row i.cursor_col i.saved_row
            i.saved_col i.region i.region_end i.region_lines i.kept i.shown
            (λ z. absurd (omega (arith, z, n, i.some_rows)));
        limits = d.limits;
      };
      some = omega (arith, n, i.some_rows);
    }

pub drawn-allocated : (l : Limits) (g : GridView) → IsFineSheet l g → IsShownSheet l (allocated g)
drawn-allocated l g d =
    cond_both (length g.rows == 0) (record g { rows = replicate g.height (blank_row g.width) }) g
    (λ x. IsShownSheet l x)
    (λ _. blank-rows l g d)
    (λ e. record { fine = d; some = grind (arith, nat_tests) })

pub fine-cleared : (l : Limits) (g : GridView) → IsFineSheet l g → IsFineSheet l (cleared g)
fine-cleared l g d =
    let i = d.grid in
    let n = length-replicate (length g.rows) (blank_row g.width) in
    record {
      grid = IsGrid-as g (cleared g) i
          (IsSheet-blank g.height g.width (length g.rows) i.sheet.count i.few_cols) i.some_rows (omega arith)
          i.some_rows
          (omega arith) (omega arith) (omega (arith, i.some_rows)) (λ e. omega (arith, i.some_rows, e)) i.kept i.shown
          (λ z. ap cleared (i.fresh (sym n ∙ z)));
      limits = d.limits;
    }

pub drawn-cleared : (l : Limits) (g : GridView) → IsShownSheet l g → IsShownSheet l (cleared g)
drawn-cleared l g d = record {
  fine = fine-cleared l g d.fine;
  some = omega (arith, length-replicate (length g.rows) (blank_row g.width), d.some);
}

-- ---- what is kept, by itself

-- none of it is shown already
pub none-shown : (g : GridView) → g.kept.offset ≡ 0 → scrollback_shown g 0 ≡ g
none-shown g e =
    let k : KeptPart = record (g.kept) { offset = min 0 (length g.kept.rows) } in
    let zero : min 0 (length g.kept.rows) ≡ g.kept.offset = omega (arith, e) in
    let same : k ≡ g.kept = λ i. record (g.kept) { offset = zero i } in
    ap (λ (x : KeptPart). record g { kept = x })
    (widened-none k g.height g.width (IsShownWide-none k g.height g.width (omega arith)) ∙ same)

pub drawn-none_kept : (l : Limits) (g : GridView) → IsShownSheet l g → IsShownSheet l (scrollback_erased g)
drawn-none_kept l g d =
    let i = d.fine.grid in
    let k : KeptPart = record (g.kept) { rows = []; offset = 0; scrolled_off = 0 } in
    let kept : IsKept k = none-kept g.kept (λ e. (i.kept.none e).0) in
    record {
      fine = record {
        grid = IsGrid-as g (record g { kept = k }) i i.sheet i.cursor_row i.cursor_col i.saved_row i.saved_col i.region
            i.region_end i.region_lines kept (IsShownWide-none k g.height g.width refl)
            (λ z. absurd (omega (arith, z, d.some)));
        limits = hidden-limits l g 0 d.fine.limits refl;
      };
      some = d.some;
    }

-- ---- another size

whole-fine : (l : Limits) (g : GridView) → IsFineSheet l g → IsFineSheet l (whole_screen g)
whole-fine l g d = record { limits = hidden-limits l g 0 d.limits refl; grid = IsGrid-whole_screen g d.grid }

width-fine : (l : Limits) (g : GridView) (width : ℕ) → IsFineSheet l g → 0 < width → width < 2 ^ 16
    → IsFineSheet (sized l l.height width) (with_width g width)
width-fine l g width d some small = record {
  limits = sized-limits l g l.height width g.height width g.kept.offset d.limits d.limits.height refl d.limits.hidden;
  grid = IsGrid-with_width g width d.grid some small d.limits.hidden;
}

shorter-fine : (l : Limits) (g : GridView) (up height : ℕ) → IsFineSheet l g → 0 < height → height < g.height
    → g.row - up < height → g.top ≡ 0 → IsFineSheet (sized l height l.width) (shortened g up height)
shorter-fine l g up height d some lower above top = record {
  limits = sized-limits l g height l.width height g.width g.kept.offset d.limits refl d.limits.width d.limits.hidden;
  grid = IsGrid-shortened g up height d.grid some lower above top d.limits.hidden;
}

longer-fine : (l : Limits) (g : GridView) (height : ℕ) → IsFineSheet l g → g.height ≤ height → height < 2 ^ 16
    → g.top ≡ 0 → IsFineSheet (sized l height l.width) (lengthened g height)
longer-fine l g height d higher small top = record {
  limits = sized-limits l g height l.width height g.width g.kept.offset d.limits refl d.limits.width d.limits.hidden;
  grid = IsGrid-lengthened g height d.grid higher small top d.limits.hidden;
}

-- from a screen without rows none scrolls off
scrolled-fine : (l : Limits) (g : GridView) (height : ℕ) → IsFineSheet l g → 0 < height
    → IsFineSheet l (scrolled_up (whole_screen g) (up_rows g height)).grid
scrolled-fine l g height d some =
    let whole = whole-fine l g d in
    let up = up_rows g height in
    ⊎_elim
    (λ (a : IsAllocated g). (drawn-scrolled_up l (whole_screen g) up (record { fine = whole; some = a })).fine)
    (λ (a : length g.rows ≤ 0).
    let new = IsNew-of g d.grid (omega arith) in
    let none : up_count (whole_screen g) up ≡ 0 = omega (arith, new.row, d.grid.some_rows) in
    subst (λ x. IsFineSheet l x) (scrolls-none (whole_screen g) up none whole.grid.kept whole.grid.shown) whole)
    (cases_lt 0 (length g.rows))

lower-fine : (l : Limits) (g : GridView) (height width : ℕ) → IsFineSheet l g → 0 < height → height < g.height
    → 0 < width
    → width < 2 ^ 16
    → IsFineSheet (sized l height width)
    (with_width (shortened (scrolled_up (whole_screen g) (up_rows g height)).grid (up_rows g height) height) width)
unfolding scrolled_up
lower-fine l g height width d some lower some_cols few_cols =
    let up = up_rows g height in
    let s = (scrolled_up (whole_screen g) up).grid in
    let above : g.row - up < height = omega (arith, d.grid.cursor_row) in
    width-fine (sized l height l.width) (shortened s up height) width
    (shorter-fine l s up height (scrolled-fine l g height d some) some lower above refl) some_cols few_cols

higher-fine : (l : Limits) (g : GridView) (height width : ℕ) → IsFineSheet l g → g.height ≤ height → height < 2 ^ 16
    → 0 < width → width < 2 ^ 16
    → IsFineSheet (sized l height width) (lengthened (with_width (whole_screen g) width) height)
higher-fine l g height width d higher few_rows some_cols few_cols =
    longer-fine (sized l l.height width) (with_width (whole_screen g) width) height
    (width-fine l (whole_screen g) width (whole-fine l g d) some_cols few_cols) higher few_rows refl

-- the screen itself if the size stays, or a lower or a higher one
resized-either : (P : GridView → Type 0) (g : GridView) (height width : ℕ) → (height ≡ g.height → width ≡ g.width → P g)
    → (height < g.height
    → P (with_width (shortened (scrolled_up (whole_screen g) (up_rows g height)).grid (up_rows g height) height) width))
    → (g.height ≤ height → P (lengthened (with_width (whole_screen g) width) height)) → P (resized g height width).grid
unfolding resized
resized-either P g height width same lower higher =
    cond_both ((height == g.height) && (width == g.width)) (record { grid = g; sunk = [] }) _
    (λ (x : Scrolled). P x.grid)
    (λ e. let parts = and_parts (height == g.height) (width == g.width) e in
    same (eqb-true height g.height parts.0) (eqb-true width g.width parts.1))
    (λ _. cond_both (nat_lt height g.height) _ _ (λ (x : Scrolled). P x.grid)
    (λ e. lower (ltb-true height g.height e)) (λ e. higher (ltb-false height g.height e)))

pub fine-resized : (l : Limits) (g : GridView) (height width : ℕ) → IsFineSheet l g → 0 < height → height < 2 ^ 16
    → 0 < width → width < 2 ^ 16 → IsFineSheet (sized l height width) (resized g height width).grid
fine-resized l g height width d some_rows few_rows some_cols few_cols =
    resized-either (IsFineSheet (sized l height width)) g height width
    (λ h w. record {
      limits = sized-limits l g height width g.height g.width g.kept.offset d.limits (sym h) (sym w) d.limits.hidden;
      grid = d.grid;
    })
    (λ e. lower-fine l g height width d some_rows e some_cols few_cols)
    (λ e. higher-fine l g height width d e few_rows some_cols few_cols)

-- a sheet that has rows keeps some
lower-some : (l : Limits) (g : GridView) (height width : ℕ) → IsShownSheet l g → 0 < height
    → IsAllocated (with_width (shortened (scrolled_up (whole_screen g) (up_rows g height)).grid (up_rows g height)
    height) width)
lower-some l g height width d some =
    let up = up_rows g height in
    let s = (scrolled_up (whole_screen g) up).grid in
    let t = shortened s up height in
    let a = (drawn-scrolled_up l (whole_screen g) up (record { fine = whole-fine l g d.fine; some = d.some })).some in
    let b = some-shortened s t up height refl some a in
    omega (arith, b, length-rows_by_position (length t.rows) (λ r. resized_row (row_at t.rows r) width default_cell))

higher-some : (g : GridView) (height width : ℕ) → IsAllocated g
    → IsAllocated (lengthened (with_width (whole_screen g) width) height)
higher-some g height width a =
    let w = with_width (whole_screen g) width in
    let f : ℕ → RowView = λ r. resized_row (row_at g.rows r) width default_cell in
    some-lengthened w (lengthened w height) height refl
    (omega (arith, a, length-rows_by_position (length g.rows) f))

pub some-resized : (l : Limits) (g : GridView) (height width : ℕ) → IsShownSheet l g → 0 < height
    → IsAllocated (resized g height width).grid
some-resized l g height width d some_rows =
    resized-either IsAllocated g height width (λ _ _. d.some) (λ _. lower-some l g height width d some_rows)
    (λ _. higher-some g height width d.some)

-- the same size changes nothing
pub resized-same : (g : GridView) → resized g g.height g.width ≡ record { grid = g; sunk = [] }
unfolding resized
resized-same g = rw (eq-eqb g.height g.height refl, eq-eqb g.width g.width refl) refl
