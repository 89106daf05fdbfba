-- How many rows have scrolled off.
use Rattle.std.proofs.Common.{◌≡◌, ℕ, ◌+◌, ◌-◌, ◌^◌, ◌<◌, ◌≤◌, ◌==◌, Bool, true, false, cond, not, ◌&&◌, List, [], ◌∷◌}
use Rattle.std.proofs.Common.{◌++◌, length, take, drop, map, min, refl, sym, ap, ◌∙◌, arith, nat_le, nat_lt, length-drop}
use Rattle.std.proofs.Common.{length-append, length-take-le}
use Rattle.std.proofs.lemmas.Bool.{cond_both, cond-true, and_from, eq-eqb, false≢true}
use Rattle.std.proofs.lemmas.List.{length-map, take_all}
use Rattle.std.proofs.Math.Seq.{take-nil}
use Rattle.vt100_forms.specs.declared.attrs.Attrs.{Attrs}
use Rattle.vt100_cells.specs.Cell.{default_cell, columns_of}
use Rattle.vt100_rows.specs.Row.{RowView, grown, trimmed, with_wrap, wiped_row, is_widening}
use Rattle.vt100_rows.specs.Sheet.{row_at, changed_between}
use Rattle.vt100_rows.proofs.SheetLemmas.{length-rows_by_position}
use Rattle.terminal_model.specs.Apply.{is_dropped}
use Rattle.vt100_core.specs.declared.printed.Printed.TheVariants.{Nothing}
use Rattle.vt100_core.specs.Grid.{KeptPart, IsKept, GridView, IsGrid, IsAllocated, with_row, with_cursor_row, row_of_cursor}
use Rattle.vt100_core.specs.Grid.{is_in_region}
use Rattle.vt100_core.specs.Cursor.{moved_rows_down}
use Rattle.vt100_core.specs.Scroll.{Scrolled, ScrollsNoneOff, widened, overflow, kept_after, pushed_out, up_count}
use Rattle.vt100_core.specs.Scroll.{left_rows, is_kept_from, scrolled_up, rows_past_bottom, fed, left_row, wrapped_on}
use Rattle.vt100_core.specs.Scroll.{made_to_fit}
use Rattle.vt100_core.specs.Text.{PrintedGrid, spaced, carried, joined, printed, printed_all}
use Rattle.vt100_core.proofs.GridLemmas.{no-rows}
use Rattle.vt100_core.proofs.StayLemmas.{pushed_out-none}

-- ---- where some rows are kept

count-up : (g : GridView) (n : ℕ) → g.top ≡ 0 → g.kept.keeps ≡ true
    → (scrolled_up g n).grid.kept.scrolled_off ≡ min (g.kept.scrolled_off + length (left_rows g n)) (2 ^ 64 - 1)
unfolding scrolled_up
count-up g n t keeps =
    ap (λ (k : KeptPart). k.scrolled_off) (cond-true (is_kept_from g)
    (widened (kept_after g.kept (left_rows g n)) g.height g.width) g.kept
    (and_from (g.top == 0) g.kept.keeps (eq-eqb g.top 0 t) keeps))

-- one row or more scrolls off
pub scrolls-some : (g : GridView) (n : ℕ) → IsGrid g → IsAllocated g → g.top ≡ 0 → g.kept.keeps ≡ true
    → 0 < up_count g n → ScrollsNoneOff g (scrolled_up g n).grid → ⊥
scrolls-some g n i a t keeps some none =
    let rows = i.sheet.count a in
    let below = length-drop g.top g.rows in
    let left = length-take-le (up_count g n) (drop g.top g.rows) (omega (arith, i.region_end)) in
    omega (arith, none.0, none.1, count-up g n t keeps, left)

-- ---- the count never falls

pub record CountsOn (k m : KeptPart) : Type 0 where
  pub more : k.scrolled_off ≤ m.scrolled_off
  pub bounded : m.scrolled_off < 2 ^ 64

pub CountsOn-trans : (k l m : KeptPart) → CountsOn k l → CountsOn l m → CountsOn k m
CountsOn-trans k l m p q = record { more = omega (arith, p.more, q.more); bounded = q.bounded }

-- k becomes m, and this leaves for good: nothing does where rows are kept, and none scrolls off
pub record Counts {A : Type 0} (k m : KeptPart) (gone : List A) : Type 0 where
  pub on : CountsOn k m
  pub keeps : m.keeps ≡ k.keeps
  pub fits : length k.rows ≤ k.capacity → length m.rows ≤ m.capacity
  pub quiet : length k.rows ≤ k.capacity → k.keeps ≡ true → k.scrolled_off < 2 ^ 64 - 1
      → m.scrolled_off ≡ k.scrolled_off → gone ≡ []

pub Counts-trans : {A : Type 0} (k l m : KeptPart) (xs ys : List A) → Counts k l xs → Counts l m ys
    → Counts k m (xs ++ ys)
Counts-trans k l m xs ys p q = record {
  on = CountsOn-trans k l m p.on q.on;
  keeps = q.keeps ∙ p.keeps;
  fits = λ h. q.fits (p.fits h);
  quiet = λ h keeps few same.
      let first : l.scrolled_off ≡ k.scrolled_off = omega (arith, p.on.more, q.on.more, same) in
      let second : m.scrolled_off ≡ l.scrolled_off = omega (arith, first, same) in
      let one = p.quiet h keeps few first in
      let two = q.quiet (p.fits h) (p.keeps ∙ keeps) (omega (arith, few, first)) second in
      λ j. one j ++ two j;
}

pub Counts-map : {A B : Type 0} (f : A → B) {k m : KeptPart} {xs : List A} → Counts k m xs → Counts k m (map f xs)
Counts-map f p = record {
  on = p.on;
  keeps = p.keeps;
  fits = p.fits;
  quiet = λ h keeps few same. ap (map f) (p.quiet h keeps few same);
}

pub counts-same : {A : Type 0} (k : KeptPart) → k.scrolled_off < 2 ^ 64 → Counts {A = A} k k []
counts-same k h = record {
  on = record { more = omega arith; bounded = h };
  keeps = refl;
  fits = λ fits. fits;
  quiet = λ _ _ _ _. refl;
}

pub length-kept : (k : KeptPart) (left : List RowView) (height width : ℕ) → length k.rows ≤ k.capacity
    → length (widened (kept_after k left) height width).rows ≤ k.capacity
length-kept k left height width h =
    let m = kept_after k left in
    let all = length-rows_by_position (length m.rows) (changed_between (λ v. grown v width default_cell) m.rows
    (length m.rows - m.offset) (length m.rows - m.offset + height)) in
    let come = drop (length left - min (length left) k.capacity) left in
    let parts = length-append (drop (overflow k (length left)) k.rows) (map trimmed come) in
    let old = length-drop (overflow k (length left)) k.rows in
    let new = length-map come trimmed ∙ length-drop (length left - min (length left) k.capacity) left in
    omega (arith, all, parts, old, new, h)

-- where none is kept, those that leave are counted, and all of them leave for good
pub none-kept : (k : KeptPart) (left : List RowView) (off height width : ℕ) → IsKept k → k.capacity ≡ 0
    → off ≡ min (k.scrolled_off + length left) (2 ^ 64 - 1)
    → record k { scrolled_off = off } ≡ widened (kept_after k left) height width
none-kept k left off height width i none count =
    let w = widened (kept_after k left) height width in
    let old = no-rows k.rows (omega (arith, i.fits, none)) in
    let new = no-rows w.rows (omega (arith, length-kept k left height width i.fits, none)) in
    let at : k.offset ≡ 0 = omega (arith, i.offset, i.fits, none) in
    let rows : k.rows ≡ w.rows = old ∙ sym new in
    let offset : k.offset ≡ w.offset = at ∙ sym (cond-true (k.offset == 0) 0 _ (eq-eqb k.offset 0 at)) in
    λ j. record k { rows = rows j; offset = offset j; scrolled_off = count j }

pub none-pushed : (k : KeptPart) (left : List RowView) → IsKept k → k.capacity ≡ 0 → pushed_out k left ≡ left
none-pushed k left i none =
    let n = overflow k (length left) in
    let m = length left - min (length left) k.capacity in
    let old = no-rows k.rows (omega (arith, i.fits, none)) in
    let all : length left ≤ m = omega (arith, none) in
    ap (λ (xs : List RowView). take n xs ++ take m left) old
    ∙ ap (λ (xs : List RowView). xs ++ take m left) (take-nil n) ∙ take_all m left all

none-left : (k : KeptPart) (left : List RowView) → k.scrolled_off < 2 ^ 64 - 1
    → min (k.scrolled_off + length left) (2 ^ 64 - 1) ≡ k.scrolled_off → left ≡ []
none-left k left few same = no-rows left (omega (arith, few, same))

-- these rows leave the region, which begins at the first row, and the grid keeps rows, as `first` and `keeps` say
counts-kept : (g : GridView) (left : List RowView) (first keeps : Bool) → g.kept.keeps ≡ keeps
    → g.kept.scrolled_off < 2 ^ 64
    → Counts g.kept (cond (first && keeps) (widened (kept_after g.kept left) g.height g.width) g.kept)
    (cond (not first) [] (cond keeps (pushed_out g.kept left) left))
counts-kept g left true true e h = record {
  on = record { more = omega (arith, h); bounded = omega (arith, h) };
  keeps = refl;
  fits = λ fits. length-kept g.kept left g.height g.width fits;
  quiet = λ fits keeps few same. ap (λ (rows : List RowView). pushed_out g.kept rows) (none-left g.kept left few same)
      ∙ pushed_out-none g.kept fits;
}
counts-kept g left true false e h = record {
  on = record { more = omega arith; bounded = h };
  keeps = refl;
  fits = λ fits. fits;
  quiet = λ _ keeps _ _. absurd (false≢true (sym e ∙ keeps));
}
counts-kept g left false keeps e h = counts-same g.kept h

-- what a grid keeps, on the way to a scrolled one
abbrev pub CountsTo : GridView → Scrolled → Type 0
CountsTo g s = Counts g.kept s.grid.kept s.sunk

counts-up : (g : GridView) (n : ℕ) → g.kept.scrolled_off < 2 ^ 64 → CountsTo g (scrolled_up g n)
unfolding scrolled_up
counts-up g n h = counts-kept g (left_rows g n) (g.top == 0) g.kept.keeps refl h

counts-fed : (g : GridView) (n : ℕ) → g.kept.scrolled_off < 2 ^ 64 → CountsTo g (fed g n)
unfolding fed
counts-fed g n h =
    let down = moved_rows_down g n in
    cond_both (is_in_region g) (scrolled_up down (rows_past_bottom g n)) (record { grid = down; sunk = [] })
    (λ (s : Scrolled). CountsTo g s) (λ _. counts-up down (rows_past_bottom g n) h) (λ _. counts-same g.kept h)

counts-wrapped : (g : GridView) (wrap : Bool) → g.kept.scrolled_off < 2 ^ 64 → CountsTo g (wrapped_on g wrap)
unfolding wrapped_on
counts-wrapped g wrap h =
    let f = fed (record g { col = 0 }) 1 in
    let on = counts-fed (record g { col = 0 }) 1 h in
    cond_both ((g.row == g.bottom) && (g.row == 0)) f.grid
    (with_row f.grid (left_row g) (with_wrap (row_at f.grid.rows (left_row g))
    (wrap && ((left_row g + 1) == f.grid.row))))
    (λ (x : GridView). Counts g.kept x.kept f.sunk) (λ _. on) (λ _. on)

counts-made : (g : GridView) (columns : ℕ) (wrap : Bool) → g.kept.scrolled_off < 2 ^ 64
    → CountsTo g (made_to_fit g columns wrap)
counts-made g columns wrap h =
    cond_both (nat_le (g.col + columns) g.width) (record { grid = g; sunk = [] }) (wrapped_on g wrap)
    (λ (s : Scrolled). CountsTo g s) (λ _. counts-same g.kept h) (λ _. counts-wrapped g wrap h)

-- ---- where text is printed

-- what a grid keeps, on the way to a printed one
abbrev CountsPrinted : GridView → PrintedGrid → Type 0
CountsPrinted g p = Counts g.kept p.grid.kept p.sunk

counts-carried : (g : GridView) (c : ℕ) (a : Attrs) → g.kept.scrolled_off < 2 ^ 64 → CountsPrinted g (carried g c a)
counts-carried g c a h =
    counts-wrapped (with_cursor_row g (wiped_row (row_of_cursor g) (g.col - 1) g.col a)) false h

counts-joined : (g : GridView) (c : ℕ) (a : Attrs) → g.kept.scrolled_off < 2 ^ 64 → CountsPrinted g (joined g c a)
counts-joined g c a h =
    let same = counts-same g.kept h in
    cond_both (not (is_widening (row_of_cursor g) g.col c)) _ _ (CountsPrinted g) (λ _. same)
    (λ _. cond_both (g.width == 1) _ _ (CountsPrinted g) (λ _. same)
    (λ _. cond_both (nat_lt g.col g.width) _ (carried g c a) (CountsPrinted g) (λ _. same)
    (λ _. counts-carried g c a h)))

pub counts-printed : (g : GridView) (c : ℕ) (a : Attrs) → g.kept.scrolled_off < 2 ^ 64
    → Counts g.kept (printed g c a).grid.kept (printed g c a).sunk
unfolding printed
counts-printed g c a h =
    cond_both (is_dropped g.width g.col c) (record { grid = g; sunk = []; printed = Nothing })
    (cond (nat_lt 0 (columns_of c)) (spaced g c a) (joined g c a)) (CountsPrinted g)
    (λ _. counts-same g.kept h)
    (λ _. cond_both (nat_lt 0 (columns_of c)) (spaced g c a) (joined g c a) (CountsPrinted g)
    (λ _. counts-made g (columns_of c) true h) (λ _. counts-joined g c a h))

pub counts-all : (xs : List ℕ) (g : GridView) (a : Attrs) → g.kept.scrolled_off < 2 ^ 64
    → CountsTo g (printed_all g xs a)
counts-all [] g a h = counts-same g.kept h
counts-all (x ∷ xs) g a h =
    let one = printed g x a in
    let first = counts-printed g x a h in
    let all = printed_all one.grid xs a in
    Counts-trans g.kept one.grid.kept all.grid.kept one.sunk all.sunk first
    (counts-all xs one.grid a first.on.bounded)
