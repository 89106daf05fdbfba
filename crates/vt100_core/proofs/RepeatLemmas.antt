-- A character that is printed again and again.
use Rattle.std.proofs.Common.{◌≡◌, ℕ, zero, suc, ◌+◌, ◌-◌, ◌*◌, ◌/◌, ◌%◌, ◌^◌, ◌<◌, ◌≤◌, ◌==◌, Bool, true, false, cond}
use Rattle.std.proofs.Common.{not, ◌&&◌, List, [], ◌∷◌, ◌++◌, length, take, drop, map, replicate, min, refl, sym, ap, ◌∙◌}
use Rattle.std.proofs.Common.{arith, subst, get_or, nat_le, append_assoc, append-nil, inl, inr, length-take-le}
use Rattle.std.specs.Prelude.{All, Some, Result, Ok, Err}
use Rattle.std.proofs.lemmas.Bool.{cond_both, cond-true, cond-false, cases_Bool, eqb-true, eqb-false, eq-eqb, and_from}
use Rattle.std.proofs.lemmas.Bool.Decides.{nat_tests}
use Rattle.std.proofs.lemmas.List.{length-replicate, replicate-append-replicate, take_all}
use Rattle.std.proofs.Math.Seq.{take-nil}
use Rattle.std.proofs.Math.Nat.{le-div_iff_mul-le}
use Rattle.std.proofs.lemmas.List.Elements.{All-replicate}
use Rattle.vt100_forms.specs.declared.attrs.Attrs.{Attrs}
use Rattle.vt100_cells.specs.Cell.{drawn_columns, columns_of}
use Rattle.vt100_cells.proofs.GlyphLemmas.{OneOrTwo, some-fit, few-fit}
use Rattle.vt100_cells.proofs.WidthLemmas.{drawn-is}
use Rattle.vt100_rows.specs.Row.{RowView, blank_row, placed_each, with_wrap}
use Rattle.vt100_rows.specs.Sheet.{row_at, moved_up, IsRowOf, IsSheet}
use Rattle.vt100_rows.specs.Sink.{TakesAll}
use Rattle.vt100_rows.proofs.SinkLemmas.{TakesAll-list}
use Rattle.vt100_rows.proofs.SheetLemmas.{length-rows_by_position, IsRowOf-blank}
use Rattle.vt100_core.specs.declared.printed.Printed.{Printed}
use Rattle.vt100_core.specs.Grid.{KeptPart, IsKept, IsShownWide, GridView, IsGrid, IsAllocated, SameLimits, SameKeeping, with_row}
use Rattle.vt100_core.specs.Grid.{is_in_region}
use Rattle.vt100_core.specs.Cursor.{moved_rows_down}
use Rattle.vt100_core.specs.Copy.{nothing_kept, without_kept, AreDrawnAlike}
use Rattle.vt100_core.specs.Scroll.{Scrolled, ScrollsTo, ScrollsNoneOff, widened, kept_after, pushed_out, overflow}
use Rattle.vt100_core.specs.Scroll.{scrolled_up, rows_past_bottom, fed, left_row, wrapped_on, made_to_fit}
use Rattle.vt100_core.specs.Text.{Prints, PrintsAll, printed, printed_all}
use Rattle.vt100_core.specs.Repeat.{fed_alike, IsSettled}
use Rattle.vt100_core.proofs.GridLemmas.{no-rows, SameLimits-trans, IsGrid-scrolled}
use Rattle.vt100_core.proofs.CountLemmas.{counts-all, none-kept, none-pushed}
use Rattle.vt100_core.proofs.StayLemmas.{feeds, feeds-none, feeds-sunk_none}
use Rattle.vt100_core.proofs.ScrollLemmas.{scrolls-off, unkept, unkept-below, closes, sunk-kept, sunk-unkept, sunk-below}
use Rattle.vt100_core.proofs.ScrollLemmas.{too-wide}
use Rattle.vt100_core.proofs.TextLemmas.{IsSized, IsSized-wrapped}
use Rattle.vt100_core.proofs.RunLemmas.{run-of, text_at, in-row, printed_all-append, taken-next}

-- ---- some characters, and then others

-- where no row scrolls off by all of them none does by the first ones, and none by the others
none-first : (g : GridView) (xs ys : List ℕ) (a : Attrs) → ScrollsNoneOff g (printed_all g (xs ++ ys) a).grid
    → ScrollsNoneOff g (printed_all g xs a).grid × ScrollsNoneOff (printed_all g xs a).grid (printed_all
    (printed_all g xs a).grid ys a).grid
none-first g xs ys a none =
    let m = (printed_all g xs a).grid in
    let t = (printed_all m ys a).grid in
    let count : t.kept.scrolled_off ≡ g.kept.scrolled_off =
    sym (ap (λ (s : Scrolled). s.grid.kept.scrolled_off) (printed_all-append xs ys g a)) ∙ none.1 in
    let one = counts-all xs g a (omega (arith, none.0)) in
    let two = counts-all ys m a one.on.bounded in (
      (omega (arith, none.0), omega (arith, count, one.on.more, two.on.more)),
      (
        omega (arith, none.0, count, one.on.more, two.on.more),
        omega (arith, count, one.on.more, two.on.more),
      ),
    )

module _ {S : Type 0} {takes : S → RowView → S → Type 0} where
  pub prints-none : {s : S} {T E : Type 0} {x : T} (g : GridView) (a : Attrs) → IsAllocated g
      → PrintsAll takes s s g g {T = T} {E = E} (Ok x) [] a
  prints-none g a some = record {
    grid = refl;
    sink = refl;
    begun = tt;
    limits = record { height = refl; width = refl; kept = record { keeps = refl; capacity = refl } };
    keeps_none = λ z. refl;
    stays = λ z. refl;
    allocated = some;
  }

  -- one character
  pub prints-one : {s t : S} {T E : Type 0} {x : T} {p : Printed} {g h : GridView} (c : ℕ) (a : Attrs)
      → Prints takes s t g h {E = E} (Ok p) (printed g c a) → PrintsAll takes s t g h {T = T} {E = E} (Ok x) (c ∷ []) a
  prints-one {s} {t} {g = g} c a p = record {
    grid = p.grid;
    sink = TakesAll-list takes s t _ _ (sym (append-nil (printed g c a).sunk)) p.sink;
    begun = tt;
    limits = p.limits;
    keeps_none = λ z. refl;
    stays = λ z. refl;
    allocated = p.allocated;
  }

  pub refuses-one : {s t : S} {T E : Type 0} {e : E} {g h : GridView} (c : ℕ) (a : Attrs)
      → Prints takes s t g h {E = E} (Err e) (printed g c a) → PrintsAll takes s t g h {T = T} {E = E} (Err e) (c ∷ []) a
  refuses-one {s} {t} {g = g} c a p = record {
    grid = tt;
    sink = tt;
    begun = (c ∷ [], [], refl, TakesAll-list takes s t _ _ (sym (append-nil (printed g c a).sunk)) p.sink);
    limits = p.limits;
    keeps_none = p.keeps_none;
    stays = p.stays;
    allocated = p.allocated;
  }

  prints-after : {s t u : S} {T U E : Type 0} {x : T} {g h k : GridView} {a : Attrs} (r : Result U E) (xs ys : List ℕ)
      → PrintsAll takes s t g h {T = T} {E = E} (Ok x) xs a → PrintsAll takes t u h k r ys a
      → PrintsAll takes s u g k r (xs ++ ys) a
  prints-after {s} {t} {u} {g = g} {h} {k} {a} (Ok y) xs ys p q = record {
    grid = q.grid ∙ ap (λ (z : GridView). (printed_all z ys a).grid) p.grid
        ∙ sym (ap (λ (o : Scrolled). o.grid) (printed_all-append xs ys g a));
    sink = taken-next takes g h s t u xs ys a p.grid p.sink q.sink;
    begun = tt;
    limits = SameLimits-trans g h k p.limits q.limits;
    keeps_none = λ z. refl;
    stays = λ z. refl;
    allocated = q.allocated;
  }
  prints-after {s} {t} {u} {g = g} {h} {k} {a} (Err e) xs ys p q = record {
    grid = tt;
    sink = tt;
    begun = (
      xs ++ q.begun.0,
      q.begun.1,
      ap (λ (zs : List ℕ). xs ++ zs) q.begun.2 ∙ sym (append_assoc xs q.begun.0 q.begun.1),
      taken-next takes g h s t u xs q.begun.0 a p.grid p.sink q.begun.3,
    );
    limits = SameLimits-trans g h k p.limits q.limits;
    keeps_none = λ z. q.keeps_none (p.limits.kept.capacity ∙ z);
    stays = λ z. q.stays (subst (λ (y : GridView). ScrollsNoneOff y (printed_all y ys a).grid) (sym p.grid)
        (none-first g xs ys a z).1);
    allocated = q.allocated;
  }

  stops-before : {s t : S} {T U E : Type 0} {e : E} {g h : GridView} {a : Attrs} (xs ys : List ℕ)
      → PrintsAll takes s t g h {T = T} {E = E} (Err e) xs a
      → PrintsAll takes s t g h {T = U} {E = E} (Err e) (xs ++ ys) a
  stops-before {g = g} {a = a} xs ys p = record {
    grid = tt;
    sink = tt;
    begun = (
      p.begun.0,
      p.begun.1 ++ ys,
      ap (λ (zs : List ℕ). zs ++ ys) p.begun.2 ∙ append_assoc p.begun.0 p.begun.1 ys,
      p.begun.3,
    );
    limits = p.limits;
    keeps_none = p.keeps_none;
    stays = λ z. p.stays (none-first g xs ys a z).0;
    allocated = p.allocated;
  }

  -- a character m times, and then n times
  pub prints-then : {s t u : S} {T U E : Type 0} {x : T} {g h k : GridView} {a : Attrs} {r : Result U E} (m n all c : ℕ)
      → m + n ≡ all → PrintsAll takes s t g h {T = T} {E = E} (Ok x) (replicate m c) a
      → PrintsAll takes t u h k r (replicate n c) a → PrintsAll takes s u g k r (replicate all c) a
  prints-then {s} {t} {u} {g = g} {h} {k} {a} {r} m n all c e p q =
      subst (λ (zs : List ℕ). PrintsAll takes s u g k r zs a)
      (replicate-append-replicate m n c ∙ ap (λ i. replicate i c) e)
      (prints-after r (replicate m c) (replicate n c) p q)

  -- or refused already by the first m
  pub prints-refused : {s t : S} {T U E : Type 0} {e : E} {g h : GridView} {a : Attrs} (m all c : ℕ) → m ≤ all
      → PrintsAll takes s t g h {T = T} {E = E} (Err e) (replicate m c) a
      → PrintsAll takes s t g h {T = U} {E = E} (Err e) (replicate all c) a
  prints-refused {s} {t} {U = U} {E = E} {e = e} {g = g} {h = h} {a = a} m all c l p =
      let count : m + (all - m) ≡ all = omega arith in
      subst (λ (zs : List ℕ). PrintsAll takes s t g h {T = U} {E = E} (Err e) zs a)
      (replicate-append-replicate m (all - m) c ∙ ap (λ i. replicate i c) count)
      (stops-before (replicate m c) (replicate (all - m) c) p)

-- ---- what a line feed and a wrap do, whatever is kept

-- of two pairs of choices by one test
choices : {A B : Type 0} (f : A → B) (b : Bool) (x y u v : A) → f x ≡ f u → f y ≡ f v
    → f (cond b x y) ≡ f (cond b u v)
choices f true x y u v p q = p
choices f false x y u v p q = q

-- a grid that is drawn like another one is that one with other kept rows
pub alike-is : (g h : GridView) → without_kept g ≡ without_kept h → g ≡ record h { kept = g.kept }
alike-is g h e = λ i. record (e i) { kept = g.kept }

drawn-up : (g : GridView) (k : KeptPart) (n : ℕ)
    → without_kept (scrolled_up (record g { kept = k }) n).grid ≡ without_kept (scrolled_up g n).grid
unfolding scrolled_up
drawn-up g k n = refl

drawn-fed : (g : GridView) (k : KeptPart) (n : ℕ)
    → without_kept (fed (record g { kept = k }) n).grid ≡ without_kept (fed g n).grid
unfolding fed
drawn-fed g k n =
    let d = moved_rows_down g n in
    let e : GridView = record d { kept = k } in
    choices (λ (s : Scrolled). without_kept s.grid) (is_in_region g) (scrolled_up e (rows_past_bottom g n))
    (record { grid = e; sunk = [] }) (scrolled_up d (rows_past_bottom g n)) (record { grid = d; sunk = [] })
    (drawn-up d k (rows_past_bottom g n)) refl

-- the row that the cursor has left is marked
abbrev marked : GridView → Bool → GridView → GridView
marked g wrap h = with_row h (left_row g) (with_wrap (row_at h.rows (left_row g)) (wrap && ((left_row g + 1) == h.row)))

drawn-wrapped : (g : GridView) (k : KeptPart) (wrap : Bool)
    → without_kept (wrapped_on (record g { kept = k }) wrap).grid ≡ without_kept (wrapped_on g wrap).grid
unfolding wrapped_on
drawn-wrapped g k wrap =
    let h = (fed (record g { col = 0; kept = k }) 1).grid in
    let i = (fed (record g { col = 0 }) 1).grid in
    let same = drawn-fed (record g { col = 0 }) k 1 in
    choices without_kept ((g.row == g.bottom) && (g.row == 0)) h (marked g wrap h) i (marked g wrap i) same
    (ap (marked g wrap) same)

kept-up : (g : GridView) (col n : ℕ) → (scrolled_up (record g { col = col }) n).grid.kept
    ≡ (scrolled_up g n).grid.kept
unfolding scrolled_up
kept-up g col n = refl

sunk-up : (g : GridView) (col n : ℕ) → (scrolled_up (record g { col = col }) n).sunk ≡ (scrolled_up g n).sunk
unfolding scrolled_up
sunk-up g col n = refl

kept-fed : (g : GridView) (col n : ℕ) → (fed (record g { col = col }) n).grid.kept ≡ (fed g n).grid.kept
unfolding fed
kept-fed g col n =
    let d = moved_rows_down g n in
    let e : GridView = record d { col = col } in
    choices (λ (s : Scrolled). s.grid.kept) (is_in_region g) (scrolled_up e (rows_past_bottom g n))
    (record { grid = e; sunk = [] }) (scrolled_up d (rows_past_bottom g n)) (record { grid = d; sunk = [] })
    (kept-up d col (rows_past_bottom g n)) refl

sunk-fed : (g : GridView) (col n : ℕ) → (fed (record g { col = col }) n).sunk ≡ (fed g n).sunk
unfolding fed
sunk-fed g col n =
    let d = moved_rows_down g n in
    let e : GridView = record d { col = col } in
    choices (λ (s : Scrolled). s.sunk) (is_in_region g) (scrolled_up e (rows_past_bottom g n))
    (record { grid = e; sunk = [] }) (scrolled_up d (rows_past_bottom g n)) (record { grid = d; sunk = [] })
    (sunk-up d col (rows_past_bottom g n)) refl

kept-wrapped : (g : GridView) (wrap : Bool) → (wrapped_on g wrap).grid.kept ≡ (fed g 1).grid.kept
unfolding wrapped_on
kept-wrapped g wrap =
    let h = (fed (record g { col = 0 }) 1).grid in
    cond_both ((g.row == g.bottom) && (g.row == 0)) h (marked g wrap h)
    (λ (x : GridView). x.kept ≡ (fed g 1).grid.kept) (λ _. kept-fed g 0 1) (λ _. kept-fed g 0 1)

sunk-wrapped : (g : GridView) (wrap : Bool) → (wrapped_on g wrap).sunk ≡ (fed g 1).sunk
unfolding wrapped_on
sunk-wrapped g wrap = sunk-fed g 0 1

-- ---- what they leave

-- the rest of a grid: size, region, what is saved
abbrev frame_of : GridView → GridView
frame_of g = record g { rows = []; row = 0; col = 0; kept = nothing_kept }

-- and where its cursor is
record IsWithin (g h : GridView) : Type 0 where
  frame : frame_of h ≡ frame_of g
  row : h.row < g.height

down-row : (g : GridView) (n : ℕ) → g.bottom < g.height → 0 < g.height → (moved_rows_down g n).row < g.height
down-row g n bottom some = cond_both (is_in_region g) g.bottom (g.height - 1) (λ last. min (g.row + n) last < g.height)
    (λ _. omega (arith, bottom)) (λ _. omega (arith, some))

within-fed : (g : GridView) (n : ℕ) → g.bottom < g.height → 0 < g.height → IsWithin g (fed g n).grid
unfolding fed scrolled_up
within-fed g n bottom some =
    let d = moved_rows_down g n in
    let row = down-row g n bottom some in
    cond_both (is_in_region g) (scrolled_up d (rows_past_bottom g n)) (record { grid = d; sunk = [] })
    (λ (s : Scrolled). IsWithin g s.grid) (λ _. record { frame = refl; row = row })
    (λ _. record { frame = refl; row = row })

within-wrapped : (g : GridView) (wrap : Bool) → g.bottom < g.height → 0 < g.height → IsWithin g (wrapped_on g wrap).grid
unfolding wrapped_on
within-wrapped g wrap bottom some =
    let h = (fed (record g { col = 0 }) 1).grid in
    let w = within-fed (record g { col = 0 }) 1 bottom some in
    cond_both ((g.row == g.bottom) && (g.row == 0)) h (marked g wrap h) (λ (x : GridView). IsWithin g x)
    (λ _. record { frame = w.frame; row = w.row }) (λ _. record { frame = w.frame; row = w.row })

-- ---- a row of a character

-- what is known of a grid whose cursor's row is full
record IsFull (g : GridView) (c n times : ℕ) : Type 0 where
  drawn : drawn_columns c ≡ Some n
  columns : OneOrTwo n
  some : 0 < times
  fits : n * times ≤ g.width
  full : g.width < g.col + n
  count : length g.rows ≡ g.height
  bottom : g.bottom < g.height

wide-enough : (n times w : ℕ) → 0 < times → n * times ≤ w → n ≤ w
wide-enough n times w some fits = grind arith

row-printed : (g : GridView) (c n times : ℕ) (a : Attrs) (f : IsFull g c n times)
    → printed_all g (replicate times c) a ≡ record {
      grid = text_at (run-of n f.columns) (wrapped_on g true).grid (replicate times c) a;
      sunk = (wrapped_on g true).sunk;
    }
row-printed g c n times a f =
    let xs = replicate times c in
    let many = length-replicate times c in
    let w = wrapped_on g true in
    let some : 0 < g.height = omega (arith, f.bottom) in
    let size = IsSized-wrapped g true in
    let within = within-wrapped g true f.bottom some in
    let wide = wide-enough n times g.width f.some f.fits in
    in-row (run-of n f.columns) g xs a w (omega (arith, many, f.some))
    (All-replicate (λ x. drawn_columns x ≡ Some n) times c f.drawn) wide
    (cond-false (nat_le (g.col + n) g.width) (record { grid = g; sunk = [] }) w (too-wide g n f.full))
    (omega (arith, wide, size.width))
    (subst (λ k. w.grid.col + n * k ≤ w.grid.width) (sym many) (omega (arith, size.col, size.width, f.fits)))
    (omega (arith, size.count, f.count, within.row))

with-other : (g : GridView) (k : KeptPart) (c n times : ℕ) → IsFull g c n times
    → IsFull (record g { kept = k }) c n times
with-other g k c n times f = record {
  drawn = f.drawn;
  columns = f.columns;
  some = f.some;
  fits = f.fits;
  full = f.full;
  count = f.count;
  bottom = f.bottom;
}

-- it makes the same rows, whatever is kept
row-alike : (g : GridView) (k : KeptPart) (c n times : ℕ) (a : Attrs) → IsFull g c n times
    → without_kept (printed_all (record g { kept = k }) (replicate times c) a).grid
    ≡ without_kept (printed_all g (replicate times c) a).grid
row-alike g k c n times a f =
    let xs = replicate times c in
    ap (λ (s : Scrolled). without_kept s.grid)
    (row-printed (record g { kept = k }) c n times a (with-other g k c n times f))
    ∙ ap (λ (x : GridView). text_at (run-of n f.columns) x xs a) (drawn-wrapped g k true)
    ∙ sym (ap (λ (s : Scrolled). without_kept s.grid) (row-printed g c n times a f))

full-of : (g : GridView) (c n times : ℕ) (a : Attrs) → IsGrid g → IsAllocated g → IsSettled g c n times a
    → IsFull g c n times
full-of g c n times a i some s = record {
  drawn = s.drawn;
  columns = s.columns;
  some = s.some;
  fits = s.fits;
  full = s.full;
  count = i.sheet.count some;
  bottom = i.region_end;
}

-- where it makes the same rows it does what a line feed does to the kept ones
row-settled : (g : GridView) (c n times : ℕ) (a : Attrs) → IsFull g c n times
    → without_kept (printed_all g (replicate times c) a).grid ≡ without_kept g
    → printed_all g (replicate times c) a ≡ fed_alike g
row-settled g c n times a f same =
    let p = printed_all g (replicate times c) a in
    let e = row-printed g c n times a f in
    let kept : p.grid.kept ≡ (fed g 1).grid.kept =
    ap (λ (o : Scrolled). o.grid.kept) e ∙ kept-wrapped g true in
    let sunk : p.sunk ≡ (fed g 1).sunk = ap (λ (o : Scrolled). o.sunk) e ∙ sunk-wrapped g true in
    let grid : p.grid ≡ record g { kept = (fed g 1).grid.kept } =
    alike-is p.grid g same ∙ ap (λ (k : KeptPart). let h : GridView = record g { kept = k } in h) kept in
    λ j. record { grid = grid j; sunk = sunk j }

settled-row : (g : GridView) (c n times : ℕ) (a : Attrs) → IsGrid g → IsAllocated g → IsSettled g c n times a
    → printed_all g (replicate times c) a ≡ fed_alike g
settled-row g c n times a i some s = row-settled g c n times a (full-of g c n times a i some s) s.same

-- also of a grid that differs from it in what is kept
settled-like : (g h : GridView) (c n times : ℕ) (a : Attrs) → IsGrid g → IsAllocated g → IsSettled g c n times a
    → h ≡ record g { kept = h.kept } → printed_all h (replicate times c) a ≡ fed_alike h
settled-like g h c n times a i some s e =
    let f = full-of g c n times a i some s in
    let x : GridView = record g { kept = h.kept } in
    ap (λ (y : GridView). printed_all y (replicate times c) a) e
    ∙ row-settled x c n times a (with-other g h.kept c n times f) (row-alike g h.kept c n times a f ∙ s.same)
    ∙ sym (ap fed_alike e)

few-columns : (c n : ℕ) → drawn_columns c ≡ Some n → 0 < n → OneOrTwo n
few-columns c n e some =
    let most : n ≤ 2 = omega (arith, (drawn-is c n e).1) in
    elim (cases_Bool (n == 1)) [
      | inl one ↦ inl (eqb-true n 1 one)
      | inr more ↦ inr (let other = eqb-false n 1 more in omega (arith, some, most, other))
    ]

-- a row was printed from g on, and the grid h is drawn like g
pub settles : (g h b : GridView) (c n times : ℕ) (a : Attrs) → IsGrid g → IsAllocated g → drawn_columns c ≡ Some n
    → 0 < n → n ≤ g.width → times ≡ g.width / n → g.width < g.col + n → b ≡ without_kept g
    → h ≡ (printed_all g (replicate times c) a).grid → AreDrawnAlike h b → IsSettled h c n times a
settles g h b c n times a i some drawn one wide all full copy is same =
    let o = few-columns c n drawn one in
    let more = subst (λ t. 0 < t) (sym all) (some-fit g.width n o wide) in
    let fits = few-fit times g.width n o (omega (arith, all)) in
    let row = same.row ∙ ap (λ (x : GridView). x.row) copy in
    let col = same.col ∙ ap (λ (x : GridView). x.col) copy in
    let rows = same.rows ∙ ap (λ (x : GridView). x.rows) copy in
    let f : IsFull g c n times = record {
      drawn = drawn;
      columns = o;
      some = more;
      fits = fits;
      full = full;
      count = i.sheet.count some;
      bottom = i.region_end;
    } in
    let frame : frame_of h ≡ frame_of g =
    ap frame_of is ∙ ap (λ (s : Scrolled). frame_of s.grid) (row-printed g c n times a f)
    ∙ (within-wrapped g true i.region_end i.some_rows).frame in
    let alike : without_kept h ≡ without_kept g = λ j. record (frame j) {
      rows = rows j;
      row = row j;
      col = col j;
    } in
    let width : h.width ≡ g.width = ap (λ (x : GridView). x.width) frame in
    record {
      drawn = drawn;
      columns = f.columns;
      some = more;
      fits = omega (arith, width, fits);
      full = omega (arith, width, col, full);
      same = ap (λ (x : GridView). without_kept (printed_all x (replicate times c) a).grid) (alike-is h g alike)
          ∙ row-alike g h.kept c n times a f ∙ sym (ap without_kept is);
    }

-- ---- a line feed at the region's last row, where the region begins at the first row

in-region : (g : GridView) → g.top ≡ 0 → g.row ≡ g.bottom → is_in_region g ≡ true
in-region g top last = grind (arith, nat_tests)

one-past : (g : GridView) → IsGrid g → g.top ≡ 0 → g.row ≡ g.bottom → rows_past_bottom g 1 ≡ 1
one-past g i top last =
    cond-true (is_in_region g) (min (g.row + 1) 65535 - g.bottom) 0 (in-region g top last)
    ∙ (let count : min (g.row + 1) 65535 - g.bottom ≡ 1 = omega (arith, last, i.region_end, i.few_rows) in count)

fed-is : (g : GridView) → IsGrid g → g.top ≡ 0 → g.row ≡ g.bottom → fed g 1 ≡ scrolled_up (moved_rows_down g 1) 1
fed-is g i top last =
    sym (feeds g 1 (in-region g top last))
    ∙ ap (λ n. scrolled_up (moved_rows_down g 1) n) (one-past g i top last)

pub leaves-kept : (g : GridView) → IsGrid g → g.top ≡ 0 → g.row ≡ g.bottom → g.kept.keeps ≡ true
    → widened (kept_after g.kept (take 1 g.rows)) g.height g.width ≡ (fed g 1).grid.kept
leaves-kept g i top last keeps =
    let d = moved_rows_down g 1 in
    ap (λ (x : GridView). x.kept) (scrolls-off d 1 (d.bottom + 1) 1 d.width d.height _ _ top keeps refl (omega arith)
    refl refl refl refl)
    ∙ sym (ap (λ (s : Scrolled). s.grid.kept) (fed-is g i top last))

pub leaves-sunk : (g : GridView) → IsGrid g → g.top ≡ 0 → g.row ≡ g.bottom → g.kept.keeps ≡ true
    → pushed_out g.kept (take 1 g.rows) ≡ (fed g 1).sunk
leaves-sunk g i top last keeps =
    let d = moved_rows_down g 1 in
    sunk-kept d 1 (d.bottom + 1) 1 top keeps refl (omega arith)
    ∙ sym (ap (λ (s : Scrolled). s.sunk) (fed-is g i top last))

pub leaves-unkept : (g : GridView) → IsGrid g → g.top ≡ 0 → g.row ≡ g.bottom → g.kept.keeps ≡ false
    → (g.kept ≡ (fed g 1).grid.kept) × (take 1 g.rows ≡ (fed g 1).sunk)
leaves-unkept g i top last keeps =
    let d = moved_rows_down g 1 in (
      ap (λ (x : GridView). x.kept) (closes d 1 (unkept d keeps))
          ∙ sym (ap (λ (s : Scrolled). s.grid.kept) (fed-is g i top last)),
      sunk-unkept d 1 (d.bottom + 1) 1 top keeps refl (omega arith)
          ∙ sym (ap (λ (s : Scrolled). s.sunk) (fed-is g i top last)),
    )

-- ---- any other line feed

outside : (g : GridView) → is_in_region g ≡ false → fed g 1 ≡ record { grid = moved_rows_down g 1; sunk = [] }
unfolding fed
outside g e = cond-false (is_in_region g) _ _ e

first-of-two : (p q : Bool) → p ≡ true → (p && q) ≡ false → q ≡ false
first-of-two p q e h = rw e at h

not-zero : (n : ℕ) → (n == 0) ≡ false → 0 < n
not-zero n e = let other = eqb-false n 0 e in omega (arith, other)

none-past : (g : GridView) → is_in_region g ≡ true → (g.row == g.bottom) ≡ false → rows_past_bottom g 1 ≡ 0
none-past g inside e =
    cond-true (is_in_region g) (min (g.row + 1) 65535 - g.bottom) 0 inside
    ∙ (let above : g.row < g.bottom = grind (arith, nat_tests) in
    let count : min (g.row + 1) 65535 - g.bottom ≡ 0 = omega (arith, above) in count)

quiet-kept : (g : GridView) → IsGrid g → ((g.top == 0) && (g.row == g.bottom)) ≡ false
    → ((fed g 1).grid.kept ≡ g.kept) × ((fed g 1).sunk ≡ [])
quiet-kept g i e =
    let d = moved_rows_down g 1 in
    elim (cases_Bool (is_in_region g)) [
      | inr out ↦
          (ap (λ (s : Scrolled). s.grid.kept) (outside g out), ap (λ (s : Scrolled). s.sunk) (outside g out))
      | inl inside ↦ elim (cases_Bool (g.top == 0)) [
        | inl first ↦
            let none = none-past g inside (first-of-two (g.top == 0) (g.row == g.bottom) first e) in (
              sym (ap (λ (x : GridView). x.kept) (feeds-none g 1 inside none i.kept i.shown)),
              sym (feeds-sunk_none g 1 inside none i.kept.fits),
            )
        | inr below ↦
            let some = not-zero g.top below in
            let is = feeds g 1 inside in
            let m = rows_past_bottom g 1 in (
              sym (ap (λ (x : GridView). x.kept) (closes d m (unkept-below d some))
                  ∙ ap (λ (s : Scrolled). s.grid.kept) is),
              sym (sunk-below d m some ∙ ap (λ (s : Scrolled). s.sunk) is),
            )
      ]
    ]

quiet-alike : (g : GridView) → IsGrid g → ((g.top == 0) && (g.row == g.bottom)) ≡ false
    → fed_alike g ≡ record { grid = g; sunk = [] }
quiet-alike g i e =
    let q = quiet-kept g i e in
    λ j. record { grid = record g { kept = q.0 j }; sunk = q.1 j }

-- many rows of the character
quiet-times : (k : ℕ) (g : GridView) (c n times : ℕ) (a : Attrs) → IsGrid g → IsAllocated g → IsSettled g c n times a
    → ((g.top == 0) && (g.row == g.bottom)) ≡ false
    → printed_all g (replicate (k * times) c) a ≡ record { grid = g; sunk = [] }
quiet-times zero g c n times a i some s e =
    let none : 0 * times ≡ 0 = grind arith in
    ap (λ m. printed_all g (replicate m c) a) none
quiet-times (suc k) g c n times a i some s e =
    let count : suc k * times ≡ times + k * times = grind arith in
    let one = settled-row g c n times a i some s ∙ quiet-alike g i e in
    let xs = replicate (k * times) c in
    ap (λ m. printed_all g (replicate m c) a) count
    ∙ ap (λ ys. printed_all g ys a) (sym (replicate-append-replicate times (k * times) c))
    ∙ printed_all-append (replicate times c) xs g a
    ∙ ap (λ (o : Scrolled). let u : Scrolled = record {
      grid = (printed_all o.grid xs a).grid;
      sunk = o.sunk ++ (printed_all o.grid xs a).sunk;
    } in u) one
    ∙ quiet-times k g c n times a i some s e

module _ {S : Type 0} {takes : S → RowView → S → Type 0} where
  pub quiet-prints : {s : S} {T E : Type 0} {x : T} (k : ℕ) (g : GridView) (c n times : ℕ) (a : Attrs) → IsGrid g
      → IsAllocated g → IsSettled g c n times a → ((g.top == 0) && (g.row == g.bottom)) ≡ false
      → PrintsAll takes s s g g {T = T} {E = E} (Ok x) (replicate (k * times) c) a
  quiet-prints {s} k g c n times a i some t e =
      let is = sym (quiet-times k g c n times a i some t e) in
      record {
        grid = ap (λ (o : Scrolled). o.grid) is;
        sink = TakesAll-list takes s s [] _ (ap (λ (o : Scrolled). o.sunk) is) refl;
        begun = tt;
        limits = record { height = refl; width = refl; kept = record { keeps = refl; capacity = refl } };
        keeps_none = λ z. refl;
        stays = λ z. refl;
        allocated = some;
      }

  -- a row of the character, of which only its line feed is done, on a grid h that is g but for what is kept
  pub settled-prints : {s t : S} {T U E : Type 0} {x : T} {y : U} {g h k : GridView} (c n times : ℕ) (a : Attrs)
      → IsGrid g → IsAllocated g → IsSettled g c n times a → h ≡ record g { kept = h.kept }
      → ScrollsTo takes s t h k {T = T} {E = E} (Ok x) (fed_alike h)
      → PrintsAll takes s t h k {T = U} {E = E} (Ok y) (replicate times c) a
  settled-prints {s} {t} {g = g} {h} c n times a i some z e p =
      let is = sym (settled-like g h c n times a i some z e) in
      record {
        grid = p.grid ∙ ap (λ (o : Scrolled). o.grid) is;
        sink = TakesAll-list takes s t _ _ (ap (λ (o : Scrolled). o.sunk) is) p.sink;
        begun = tt;
        limits = p.limits;
        keeps_none = λ _. refl;
        stays = λ _. refl;
        allocated = p.allocated;
      }

  pub settled-refuses : {s t : S} {T U E : Type 0} {x : E} {g h k : GridView} (c n times : ℕ) (a : Attrs)
      → IsGrid g → IsAllocated g → IsSettled g c n times a → h ≡ record g { kept = h.kept }
      → ScrollsTo takes s t h k {T = T} {E = E} (Err x) (fed_alike h)
      → PrintsAll takes s t h k {T = U} {E = E} (Err x) (replicate times c) a
  settled-refuses {s} {t} {g = g} {h} c n times a i some z e p =
      let is = sym (settled-like g h c n times a i some z e) in
      record {
        grid = tt;
        sink = tt;
        begun = (
          replicate times c,
          [],
          sym (append-nil (replicate times c)),
          TakesAll-list takes s t _ _ (ap (λ (o : Scrolled). o.sunk) is) p.sink,
        );
        limits = p.limits;
        keeps_none = p.keeps_none;
        stays = λ none. p.stays (subst (λ (o : Scrolled). ScrollsNoneOff h o.grid) (sym is) none);
        allocated = p.allocated;
      }

-- ---- where none is kept

length-one : (g : GridView) → IsAllocated g → length (take 1 g.rows) ≡ 1
length-one g some = length-take-le 1 g.rows (omega (arith, some))

-- what is true of one grid as of another one that it is
module _ {own s : GridView} (e : own ≡ s) (i : IsGrid own) (some : IsAllocated s) (top : s.top ≡ 0)
    (last : s.row ≡ s.bottom) where
  own-some : IsAllocated own
  own-some = subst IsAllocated (sym e) some

  own-top : own.top ≡ 0
  own-top = ap (λ (x : GridView). x.top) e ∙ top

  own-last : own.row ≡ own.bottom
  own-last = ap (λ (x : GridView). x.row) e ∙ last ∙ sym (ap (λ (x : GridView). x.bottom) e)

  with-kept : (k : KeptPart) → k ≡ (fed own 1).grid.kept → record own { kept = k } ≡ (fed_alike s).grid
  with-kept k is = (λ j. record own { kept = is j }) ∙ ap (λ (x : GridView). (fed_alike x).grid) e

  -- the first row leaves, and is counted
  pub counted : (off : ℕ) → s.kept.capacity ≡ 0 → own.kept.keeps ≡ true
      → off ≡ min (own.kept.scrolled_off + 1) (2 ^ 64 - 1)
      → record own { kept = record (own.kept) { scrolled_off = off } } ≡ (fed_alike s).grid
  counted off none keeps eo =
      let none' : own.kept.capacity ≡ 0 = ap (λ (x : GridView). x.kept.capacity) e ∙ none in
      let count = eo ∙ ap (λ n. min (own.kept.scrolled_off + n) (2 ^ 64 - 1)) (sym (length-one own own-some)) in
      with-kept (record (own.kept) { scrolled_off = off })
      (none-kept own.kept (take 1 own.rows) off own.height own.width i.kept none' count
      ∙ leaves-kept own i own-top own-last keeps)

  -- or not
  pub uncounted : own.kept.keeps ≡ false → own ≡ (fed_alike s).grid
  uncounted keeps = with-kept own.kept (leaves-unkept own i own-top own-last keeps).0

  pub gives-first : {S : Type 0} (takes : S → RowView → S → Type 0) (u t : S)
      → s.kept.capacity ≡ 0 → TakesAll takes u (take 1 own.rows) t → TakesAll takes u (fed_alike s).sunk t
  gives-first takes u t none taken =
      let none' : own.kept.capacity ≡ 0 = ap (λ (x : GridView). x.kept.capacity) e ∙ none in
      TakesAll-list takes u t _ _ (elim (cases_Bool own.kept.keeps) [
        | inl keeps ↦ sym (none-pushed own.kept (take 1 own.rows) i.kept none') ∙ leaves-sunk own i own-top own-last keeps
        | inr keeps ↦ (leaves-unkept own i own-top own-last keeps).1
      ] ∙ ap (λ (x : GridView). (fed_alike x).sunk) e) taken

  -- the first row leaves, and is kept: the rows are those of a sheet whose first row it is
  pub keeps-first : {S : Type 0} {takes : S → RowView → S → Type 0} {u t : S} {T E : Type 0} {x : T}
      {height width : ℕ} (spare : List RowView) (k : KeptPart) → own.kept.keeps ≡ true
      → take 1 spare ≡ take 1 own.rows → height ≡ own.height → width ≡ own.width
      → k ≡ widened (kept_after own.kept (take 1 spare)) height width → SameKeeping own.kept k
      → TakesAll takes u (pushed_out own.kept (take 1 spare)) t
      → ScrollsTo takes u t s (record own { kept = k }) {T = T} {E = E} (Ok x) (fed_alike s)
  keeps-first {takes = takes} {u} {t} spare k keeps same eh ew ek limits taken = record {
    grid = with-kept k (ek ∙ (λ j. widened (kept_after own.kept (same j)) (eh j) (ew j))
        ∙ leaves-kept own i own-top own-last keeps);
    sink = TakesAll-list takes u t _ _ (ap (λ (xs : List RowView). pushed_out own.kept xs) same
        ∙ leaves-sunk own i own-top own-last keeps ∙ ap (λ (x : GridView). (fed_alike x).sunk) e) taken;
    limits = subst (λ (x : GridView). SameLimits x (record own { kept = k })) e
        (record { height = refl; width = refl; kept = limits });
    keeps_none = λ _. refl;
    stays = λ _. refl;
    allocated = own-some;
  }

  -- or there is no memory to keep it
  pub refuses-first : {S : Type 0} {takes : S → RowView → S → Type 0} {u t : S} {T E : Type 0} {x : E}
      (spare : List RowView) (k : KeptPart) → own.kept.keeps ≡ true → (own.kept.capacity ≡ 0 → ⊥)
      → take 1 spare ≡ take 1 own.rows → SameKeeping own.kept k
      → TakesAll takes u (pushed_out own.kept (take 1 spare)) t
      → ScrollsTo takes u t s (record own { kept = k }) {T = T} {E = E} (Err x) (fed_alike s)
  refuses-first {takes = takes} {u} {t} spare k keeps more same limits taken =
      let count : (fed own 1).grid.kept.scrolled_off ≡ min (own.kept.scrolled_off + length (take 1 own.rows)) (2 ^ 64 - 1) =
      sym (ap (λ (y : KeptPart). y.scrolled_off) (leaves-kept own i own-top own-last keeps)) in
      let one = length-one own own-some in
      record {
        grid = tt;
        sink = TakesAll-list takes u t _ _ (ap (λ (xs : List RowView). pushed_out own.kept xs) same
            ∙ leaves-sunk own i own-top own-last keeps ∙ ap (λ (x : GridView). (fed_alike x).sunk) e) taken;
        limits = subst (λ (x : GridView). SameLimits x (record own { kept = k })) e
            (record { height = refl; width = refl; kept = limits });
        keeps_none = λ z. absurd (more (ap (λ (x : GridView). x.kept.capacity) e ∙ z));
        stays = λ z. absurd (let w = subst (λ (x : GridView). ScrollsNoneOff x (fed_alike x).grid) (sym e) z in
            omega (arith, w.0, w.1, count, one));
        allocated = own-some;
      }

-- a copy of the first row, and a blank one
abbrev pub first_alone : GridView → List RowView
first_alone g = row_at g.rows 0 ∷ blank_row g.width ∷ []

pub first-same : (g : GridView) → IsAllocated g → take 1 (first_alone g) ≡ take 1 g.rows
first-same g some = first-of g.rows g.width some where
  first-of : (rows : List RowView) (width : ℕ) → 0 < length rows
      → take 1 (row_at rows 0 ∷ blank_row width ∷ []) ≡ take 1 rows
  first-of [] width h = absurd (omega arith)
  first-of (v ∷ rows) width h = refl

pub IsSheet-first : (g : GridView) → IsGrid g → IsAllocated g → IsSheet 2 g.width (first_alone g)
IsSheet-first g i some = record {
  count = λ _. refl;
  each = λ r l. IsRowOf-first r l;
  last = refl;
} where
  IsRowOf-first : (r : ℕ) → r < 2 → IsRowOf g.width (row_at (first_alone g) r)
  IsRowOf-first zero l = i.sheet.each 0 some
  IsRowOf-first (suc zero) l = IsRowOf-blank g.width i.few_cols
  IsRowOf-first (suc (suc r)) l = absurd (omega (arith, l))

pub keeps-some : (k : KeptPart) → IsKept k → (k.capacity ≡ 0 → ⊥) → k.keeps ≡ true
keeps-some k i more =
    elim (cases_Bool k.keeps) [
      | inl keeps ↦ keeps
      | inr none ↦ absurd (more (i.none none).0)
    ]

pub spare-sheet : {s : GridView} {spare : List RowView} {w : ℕ} → spare ≡ first_alone s → w ≡ s.width → IsGrid s
    → IsAllocated s → IsSheet (length spare) w spare
spare-sheet {s} {spare} {w} e ew i some =
    subst (λ (xs : List RowView). IsSheet (length xs) w xs) (sym e)
    (subst (λ v. IsSheet 2 v (first_alone s)) (sym ew) (IsSheet-first s i some))

pub spare-first : {own s : GridView} {spare : List RowView} → own ≡ s → spare ≡ first_alone s → IsAllocated s
    → take 1 spare ≡ take 1 own.rows
spare-first {own} {s} e es some =
    ap (λ (xs : List RowView). take 1 xs) es ∙ first-same s some ∙ sym (ap (λ (x : GridView). take 1 x.rows) e)

pub IsGrid-rekept : (g : GridView) (k : KeptPart) → IsGrid g → IsAllocated g → IsKept k
    → IsShownWide k g.height g.width → IsGrid (record g { kept = k })
IsGrid-rekept g k i some kept shown = IsGrid-scrolled g g.rows k i some refl i.sheet kept shown

-- one row more, by which only what is kept changes
pub alike-next : (g h k : GridView) → h ≡ record g { kept = h.kept } → k ≡ (fed_alike h).grid
    → k ≡ record g { kept = k.kept }
alike-next g h k e f =
    ap (λ (x : GridView). let y : GridView = record x { kept = k.kept } in y) f
    ∙ ap (λ (x : GridView). let y : GridView = record x { kept = k.kept } in y) e

pub row-within : (i m n : ℕ) → 0 < m → i < n / m → i * m + m ≤ n
row-within i m n some h =
    let all = (le-div_iff_mul-le {k = m} {x = i + 1} {y = n} some).0 (omega (arith, h)) in
    let one : (i + 1) * m ≡ i * m + m = grind arith in
    omega (arith, all, one)
