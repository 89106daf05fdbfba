-- The end of a row that is drawn: the pending columns, and the row's flag.
use Rattle.std.proofs.Common.{◌≡◌, ℕ, ◌+◌, ◌-◌, ◌<◌, ◌≤◌, ◌==◌, Bool, true, false, cond, not, ◌&&◌, ◌||◌, nat_lt}
use Rattle.std.proofs.Common.{nat_le, Option, Some, None, refl, arith, sym, ap, ◌∙◌, inl, inr, subst}
use Rattle.std.proofs.lemmas.Bool.Decides.{nat_tests}
use Rattle.std.proofs.lemmas.Bool.{cases_Bool, cases_lt, both_ways, and_from, eqb-true, eq-eqb, lt-ltb, le-leb, or_left}
use Rattle.std.proofs.lemmas.Bool.{or_right}
use Rattle.vt100_forms.specs.declared.attrs.Attrs.{Attrs}
use Rattle.vt100_forms.specs.Attrs.{IsProper}
use Rattle.vt100_cells.specs.Cell.{CellView, has_text, is_filled, bool_eq}
use Rattle.vt100_cells.specs.Line.{span_of, put, put_unflags, wiped, wipe_unflags}
use Rattle.vt100_cells.proofs.JoinedCells.{whole_if_wide}
use Rattle.terminal_model.specs.Position.{update}
use Rattle.terminal_model.specs.Term.{Term}
use Rattle.terminal_model.specs.Touch.{put_touches, wipe_touches}
use Rattle.terminal_model.proofs.Positions.{update-same, update-twice, update-other, update-kept}
use Rattle.row_drawing.specs.declared.pen.Erase.{Erase}
use Rattle.row_drawing.specs.declared.pen.Pen.{Pen}
use Rattle.row_drawing.specs.Writer.{◌>>◌, skip, goto, color, print, erasing}
use Rattle.row_drawing.specs.RowWriter.{RowChange, finish, last_col_of, last_cell_of, unflag, print_last}
use Rattle.row_drawing.specs.RowWriter.{mend, owes_end, closing}
use Rattle.row_drawing.specs.Scene.{Scene, IsScene, IsDrawn, with_row, flags_above}
use Rattle.row_drawing.proofs.Lines.{Line, line-whole, line-reprinted, line-restored, line-erased_same}
use Rattle.row_drawing.proofs.Steps.{pen, Flags, kept_or_off}
use Rattle.row_drawing.proofs.LocalRow.{IsRoom, or-four, or-split}
use Rattle.row_drawing.proofs.RowReads.{Reads, reads-then, reads-as, reads-to, reads-skip, reads-goto, reads-color}
use Rattle.row_drawing.proofs.RowReads.{reads-print, reads-erasing, Ends, ends, ends-as, ends-then}
use Rattle.row_drawing.proofs.RowLeads.{flags-on, past, edge, Opens, Standing, At}
use Rattle.row_drawing.proofs.Columns.{finish-is_none, finish-is_some, empty-is, sends, clears, span-wide, span-narrow}

-- ---- all columns are drawn

pub record IsFilled (s : Scene) (p : Pen) (t : Term) : Type 0 where
  pub flags : ℕ → Bool
  pub kept : Flags flags (flags_above s) s.row_change.row p.lost
  pub state_after : t ≡ with_row s s.row_change.new flags p.pos.row p.pos.col p.attrs
  pub closed : p.erase ≡ None
  pub proper : IsProper p.attrs

module _ (s : Scene) (h : IsScene s) (C : ℕ → Type 0) (S : ℕ → ℕ → Type 0) (o : IsRoom s C S) where
  finish-at : (F : ℕ → Bool) (f : ℕ → CellView) (r k : ℕ) (a : Attrs) (e : Option Erase) (lost : Bool) → IsProper a
      → Line s.row_change.old s.row_change.new (edge e s.row_change.cols) f → Opens s.row_change s.row_change.cols e
      → Standing s F (pen r k a e lost) (edge e s.row_change.cols)
      → Ends S s (IsFilled s) (finish s.row_change) (pen r k a e lost) (with_row s f F r k a)
  finish-at F f r k a None lost ha l opens standing =
      let j = s.row_change in
      ends (reads-as (finish-is_none j _ refl) reads-skip) (record {
        flags = F;
        kept = (elim standing [ inl kept ↦ kept | inr due ↦ absurd (omega (arith, due.none, h.some_col)) ]);
        state_after = ap (λ g. with_row s g F r k a) (line-whole j.old j.new j.cols f l h.old.beyond h.new.beyond);
        closed = refl;
        proper = ha;
      })
  finish-at F f r k a (Some e) lost ha l opens standing =
      let j = s.row_change in
      let done = clears s h C S o F f r k a e lost ha l opens standing in
      ends (reads-as (finish-is_some j _ e refl) done.reads) (record {
        flags = done.flags;
        kept = done.kept;
        state_after = ap (λ g. with_row s g done.flags j.row e.from e.attrs)
            (line-whole j.old j.new j.cols done.line done.lines h.old.beyond h.new.beyond);
        closed = refl;
        proper = opens.1;
      })

  pub finish-leads : (p : Pen) (t : Term) → At s s.row_change.cols p t → Ends S s (IsFilled s) (finish s.row_change) p t
  finish-leads p t now =
      let j = s.row_change in
      let le : j.cols ≤ j.cols = omega arith in
      let whole : past j j.cols ≡ j.cols = ap (λ (x : CellView). cond x.continuation (j.cols + 1) j.cols)
      (h.new.beyond j.cols le) in
      let l = subst (λ m. Line j.old j.new (edge p.erase m) now.line) whole now.lines in
      let st = subst (λ m. Standing s now.flags p (edge p.erase m)) whole now.standing in
      subst (λ (x : Term). Ends S s (IsFilled s) (finish j) p x) (sym now.state_after)
      (finish-at now.flags now.line p.pos.row p.pos.col p.attrs p.erase p.lost now.proper l now.opens st)

-- ---- the last cell

pub record IsLast (j : RowChange) : Type 0 where
  pub up_to : last_col_of j + span_of (last_cell_of j) ≡ j.cols
  pub whole : (last_cell_of j).continuation ≡ false

-- the last column is a second half
wide-before : (s : Scene) → IsScene s → (s.row_change.new (s.row_change.cols - 1)).continuation ≡ true
    → (1 < s.row_change.cols) × ((s.row_change.new (s.row_change.cols - 2)).wide ≡ true)
wide-before s h half =
    let j = s.row_change in
    elim (cases_lt 1 j.cols) [
      | inl more ↦ (
        more,
        sym (h.new.paired.next (j.cols - 2)) ∙ ap (λ i. (j.new i).continuation) (omega (arith, more))
            ∙ half,
      )
      | inr one ↦ absurd (both_ways (j.new 0).continuation h.new.paired.first
          (ap (λ i. (j.new i).continuation) (omega (arith, h.some_col)) ∙ half))
    ]

pub last-is : (s : Scene) → IsScene s → IsLast s.row_change
last-is s h =
    let j = s.row_change in
    let n = j.cols in
    let end : n - 1 + 1 ≡ n = omega (arith, h.some_col) in
    let narrow : (j.new (n - 1)).wide ≡ false = sym (h.new.paired.next (n - 1)) ∙ ap (λ i. (j.new i).continuation) end
    ∙ ap (λ (x : CellView). x.continuation) (h.new.beyond n (omega arith)) in
    elim (cases_Bool (j.new (n - 1)).continuation) [
      | inr single ↦ record { up_to = grind (arith, nat_tests, narrow, end); whole = grind (arith, nat_tests) }
      | inl half ↦
          (let wide = wide-before s h half in
          let whole = whole_if_wide j.new (n - 2) h.new.paired wide.1 in
          record { up_to = grind (arith, nat_tests, wide.0, wide.1); whole = grind (arith, nat_tests, whole) })
    ]

wide-text : (s : Scene) → IsScene s → (k : ℕ) → (s.row_change.new k).wide ≡ true → has_text (s.row_change.new k) ≡ true
wide-text s h k wide =
    let single = whole_if_wide s.row_change.new k h.new.paired wide in
    grind (arith, nat_tests, empty-is (s.row_change.new k) (h.cells k), single)

or_off : (a b : Bool) → b ≡ false → (a || b) ≡ a
or_off a b e = grind (arith, nat_tests)

pub span-few : (x : CellView) → (1 ≤ span_of x) × (span_of x ≤ 2)
span-few x = (grind (arith, nat_tests), grind (arith, nat_tests))

third_off : (n c : ℕ) (x : CellView) (g : ℕ → CellView) → c + span_of x ≡ n → put_unflags n g c x ≡ false
third_off n c x g e = grind (arith, nat_tests)

pub print-last_is : (x : CellView) (p : Pen) → has_text x ≡ true → print_last x p ≡ (color x.attrs >> print x false) p
unfolding print_last
print-last_is x p h = rw h refl

pub print-last_none : (x : CellView) (p : Pen) → has_text x ≡ false → print_last x p ≡ skip p
unfolding print_last
print-last_none x p h = rw h refl

pub unflag-full : (x : CellView) (p : Pen) → has_text x ≡ true → unflag x p ≡ erasing 1 true p
unfolding unflag
unflag-full x p h = rw h refl

pub unflag-empty : (x : CellView) (p : Pen) → has_text x ≡ false → unflag x p ≡ (color x.attrs >> erasing 1 true) p
unfolding unflag
unflag-empty x p h = rw h refl

pub mend-wraps : (j : RowChange) (x : CellView) (p : Pen) → j.wrapped ≡ true → mend j x p ≡ print_last x p
unfolding mend
mend-wraps j x p h = rw h refl

pub mend-ends : (j : RowChange) (x : CellView) (p : Pen) → j.wrapped ≡ false → mend j x p ≡ (unflag x >> print_last x) p
unfolding mend
mend-ends j x p h = rw h refl

-- if the last column shows something, the last cell has a text
pub last-text : (s : Scene) → IsScene s → is_filled (s.row_change.new (s.row_change.cols - 1)) ≡ true
    → has_text (last_cell_of s.row_change) ≡ true
last-text s h full =
    let j = s.row_change in
    elim (cases_Bool (j.new (j.cols - 1)).continuation) [
      | inr single ↦ grind (arith, nat_tests)
      | inl half ↦ (let some = wide-text s h (j.cols - 2) (wide-before s h half).1 in grind (arith, nat_tests, some))
    ]

no_third : (s : Scene) → IsScene s → (g : ℕ → CellView)
    → put_unflags s.row_change.cols g (last_col_of s.row_change) (last_cell_of s.row_change) ≡ false
no_third s h g = third_off s.row_change.cols (last_col_of s.row_change) (last_cell_of s.row_change) g
    (last-is s h).up_to

-- ---- the flag

own-flag : (s : Scene) → IsScene s → flags_above s s.row_change.row ≡ s.row_change.was_wrapped
own-flag s h =
    elim (cases_Bool s.row_change.above) [
      | inl above ↦ ap (λ G. G s.row_change.row) (flags-on s above) ∙ update-other s.flags (s.row_change.row - 1)
          s.row_change.row true
          (λ e. let some = h.below_first above in absurd (omega (arith, e, some))) ∙ h.flag
      | inr none ↦ ap (λ b. cond b (update s.flags (s.row_change.row - 1) true) s.flags s.row_change.row) none ∙ h.flag
    ]

no-need : (a b lost : Bool) → (not (bool_eq a b) || (a && lost)) ≡ false → (a ≡ b) × ((lost ≡ true) → a ≡ false)
no-need a b lost h = (grind (arith, nat_tests), λ g. grind (arith, nat_tests))

-- a row that wraps and kept its flag needs nothing
no-need_kept : (a b lost : Bool) → a ≡ true → (b && not lost) ≡ true
    → (not (bool_eq a b) || (a && lost)) ≡ false
no-need_kept a b lost h g = grind (arith, nat_tests)

-- a row that wraps and needs nothing kept its flag
kept-no_need : (a b lost : Bool) → a ≡ true → (not (bool_eq a b) || (a && lost)) ≡ false
    → (b && not lost) ≡ true
kept-no_need a b lost h g = grind (arith, nat_tests)

pub flags-off : (F V : ℕ → Bool) (i : ℕ) (lost b : Bool) → Flags F V i lost → update F i b ≡ update V i b
flags-off F V i lost b (inl e) = ap (λ G. update G i b) e
flags-off F V i lost b (inr e) = ap (λ G. update G i b) e.1 ∙ update-twice V i false b

pub flags-kept : (s : Scene) (F : ℕ → Bool) (lost : Bool) → IsScene s → s.row_change.wrapped ≡ s.row_change.was_wrapped
    → ((lost ≡ true) → s.row_change.wrapped ≡ false) → Flags F (flags_above s) s.row_change.row lost
    → F ≡ update (flags_above s) s.row_change.row s.row_change.wrapped
flags-kept s F lost h same ends (inl e) =
    e ∙ sym (update-kept (flags_above s) s.row_change.row s.row_change.wrapped (same ∙ sym (own-flag s h)))
flags-kept s F lost h same ends (inr e) = e.1 ∙ ap (update (flags_above s) s.row_change.row) (sym (ends e.0))

pub closing-none : (j : RowChange) (p : Pen) → (not (bool_eq j.wrapped j.was_wrapped) || (j.wrapped && p.lost)) ≡ false
    → closing j p ≡ skip p
unfolding closing
closing-none j p h = rw h refl

pub closing-some : (j : RowChange) (p : Pen) (c : ℕ) (x : CellView) → owes_end j p ≡ true → c ≡ last_col_of j → x
    ≡ j.new c
    → closing j p ≡ (goto j.row c >> mend j x) p
unfolding closing
closing-some j p c x h e is = rw (is, e, h) refl

-- ---- the last cell may be touched

-- its columns may be touched
record IsEndRoom (s : Scene) (S : ℕ → ℕ → Type 0) : Type 0 where
  here : S s.row_change.row (last_col_of s.row_change)
  next : (last_cell_of s.row_change).wide ≡ true → S s.row_change.row (last_col_of s.row_change + 1)

end-room : (s : Scene) (C : ℕ → Type 0) (S : ℕ → ℕ → Type 0) → IsScene s → IsRoom s C S → C (s.row_change.cols - 1)
    → IsEndRoom s S
end-room s C S h o last =
    let j = s.row_change in
    let c = last_col_of j in
    let l = last-is s h in
    let end : j.cols - 1 < j.cols = omega (arith, h.some_col) in
    elim (cases_Bool (last_cell_of j).wide) [
      | inr narrow ↦
          (let one = span-narrow (last_cell_of j) narrow in
          let is : j.cols - 1 ≡ c = omega (arith, one, l.up_to) in
          record {
            here = subst (S j.row) is (o.close (j.cols - 1) end last);
            next = λ wide. absurd (both_ways (last_cell_of j).wide narrow wide);
          })
      | inl wide ↦
          (let two = span-wide (last_cell_of j) wide in
          let is : j.cols - 1 ≡ c + 1 = omega (arith, two, l.up_to) in
          let half : (j.new (c + 1)).continuation ≡ true = h.new.paired.next c ∙ wide in
          record {
            here = o.first c (omega (arith, two, l.up_to)) (subst C is last)
                (or_right (j.old (c + 1)).continuation _ half);
            next = λ _. subst (S j.row) is (o.close (j.cols - 1) end last);
          })
    ]

-- the line has no wide cell right before the last cell, and one in its place only if the last cell is wide
record IsOverEnd (s : Scene) (g : ℕ → CellView) : Type 0 where
  left : (k : ℕ) → k + 1 ≡ last_col_of s.row_change → (g k).wide ≡ false
  there : (g (last_col_of s.row_change)).wide ≡ true → (last_cell_of s.row_change).wide ≡ true

new-over : (s : Scene) → IsScene s → IsOverEnd s s.row_change.new
new-over s h =
    let j = s.row_change in
    record {
      left = λ k e. sym (h.new.paired.next k) ∙ ap (λ i. (j.new i).continuation) e ∙ (last-is s h).whole;
      there = λ q. q;
    }

wiped-narrow : (f : ℕ → CellView) (c : ℕ) (a : Attrs) (k : ℕ) → k + 1 ≡ c → (f k).wide ≡ false
    → (wiped f c (c + 1) a k).wide ≡ false
wiped-narrow f c a k e h = grind (arith, nat_tests)

wiped-none : (f : ℕ → CellView) (c : ℕ) (a : Attrs) → (wiped f c (c + 1) a c).wide ≡ false
wiped-none f c a = grind (arith, nat_tests)

wiped-over : (s : Scene) (a : Attrs) → IsScene s
    → IsOverEnd s (wiped s.row_change.new (last_col_of s.row_change) (last_col_of s.row_change + 1) a)
wiped-over s a h =
    let j = s.row_change in
    let c = last_col_of j in
    record {
      left = λ k e. wiped-narrow j.new c a k e ((new-over s h).left k e);
      there = λ q. absurd (both_ways _ (wiped-none j.new c a) q);
    }

print-end : (s : Scene) (S : ℕ → ℕ → Type 0) → IsScene s → IsEndRoom s S → (g : ℕ → CellView) → IsOverEnd s g → (k : ℕ)
    → k < s.row_change.cols → put_touches g (last_col_of s.row_change) (last_cell_of s.row_change) k ≡ true
    → S s.row_change.row k
print-end s S h room g over k low touched =
    let j = s.row_change in
    let c = last_col_of j in
    let x = last_cell_of j in
    let l = last-is s h in
    elim (or-four (k == c) ((k == (c + 1)) && (x.wide || (g c).wide)) (((k + 1) == c) && (g k).wide)
    ((k == (c + 2)) && (x.wide && (g (c + 1)).wide)) touched) [
      | inl at_c ↦ subst (S j.row) (sym (eqb-true k c at_c)) room.here
      | inr (inl next) ↦ grind (arith, nat_tests, room.next, over.there)
      | inr (inr (inl left)) ↦ grind (arith, nat_tests, over.left k)
      | inr (inr (inr third)) ↦
          (let two = span-wide x in
          grind (arith, nat_tests, l.up_to, two))
    ]

wipe-end : (s : Scene) (S : ℕ → ℕ → Type 0) → IsScene s → IsEndRoom s S → (k : ℕ) → k < s.row_change.cols
    → wipe_touches s.row_change.new (last_col_of s.row_change) (last_col_of s.row_change + 1) k ≡ true
    → S s.row_change.row k
wipe-end s S h room k low touched =
    let j = s.row_change in
    let c = last_col_of j in
    elim (or-split (nat_le c k && nat_lt k (c + 1)) _ touched) [
      | inl between ↦ (let is : k ≡ c = grind (arith, nat_tests) in subst (S j.row) (sym is) room.here)
      | inr edges ↦ grind (arith, nat_tests, (new-over s h).left k, h.new.paired.next c, room.next)
    ]

-- ---- it is drawn once more

-- a row that ends here is drawn
drawn-ended : {r k : ℕ} {a : Attrs} {lost : Bool} {t : Term} (s : Scene) (F : ℕ → Bool) → IsProper a
    → F ≡ update (flags_above s) s.row_change.row s.row_change.wrapped → s.row_change.wrapped ≡ false
    → t ≡ with_row s s.row_change.new F r k a → IsDrawn s (pen r k a None lost) t
drawn-ended s F ha on off is = record {
  flags = F;
  state_after = is;
  proper = ha;
  closed = refl;
  flagged = inl on;
  keeps = λ wraps _. absurd (both_ways s.row_change.wrapped off wraps);
  waits = λ wraps _. absurd (both_ways s.row_change.wrapped off wraps);
}

module _ (s : Scene) (h : IsScene s) (S : ℕ → ℕ → Type 0) (room : IsEndRoom s S) where
  -- the last cell is printed over a row that differs only there
  last-printed : (F : ℕ → Bool) (g : ℕ → CellView) (a : Attrs) (lost : Bool) → IsProper a → IsOverEnd s g
      → has_text (last_cell_of s.row_change) ≡ true → put g (last_col_of s.row_change) (last_cell_of s.row_change)
      (last_cell_of s.row_change).attrs ≡ s.row_change.new
      → Reads S s (print_last (last_cell_of s.row_change)) (pen s.row_change.row (last_col_of s.row_change) a None lost)
      (with_row s g F s.row_change.row (last_col_of s.row_change) a)
      (pen s.row_change.row s.row_change.cols (last_cell_of s.row_change).attrs None (lost || false))
      (with_row s s.row_change.new F s.row_change.row s.row_change.cols (last_cell_of s.row_change).attrs)
  last-printed F g a lost ha over some line =
      let j = s.row_change in
      let c = last_col_of j in
      let x = last_cell_of j in
      let last = last-is s h in
      let keeps : kept_or_off (put_unflags j.cols g c x) F j.row ≡ F = ap (λ b. kept_or_off b F j.row)
      (no_third s h g) in
      reads-as (print-last_is x _ some) (reads-then (reads-color _ ha (h.proper c))
      (reads-to (ap (λ n. pen j.row n x.attrs None (lost || false)) last.up_to)
      (ap (λ G. with_row s (put g c x x.attrs) G j.row (c + span_of x) x.attrs) keeps
      ∙ ap (λ f. with_row s f F j.row (c + span_of x) x.attrs) line
      ∙ ap (λ n. with_row s j.new F j.row n x.attrs) last.up_to)
      (reads-print g false (sends s h c some) (omega (arith, last.up_to)) (print-end s S h room g over))))

  -- it is erased, and the flag is off
  last-erased : (F : ℕ → Bool) (a : Attrs) (lost : Bool)
      → Reads S s (erasing 1 true) (pen s.row_change.row (last_col_of s.row_change) a None lost)
      (with_row s s.row_change.new F s.row_change.row (last_col_of s.row_change) a)
      (pen s.row_change.row (last_col_of s.row_change) a None (lost || true))
      (with_row s (wiped s.row_change.new (last_col_of s.row_change) (last_col_of s.row_change + 1) a)
      (update F s.row_change.row false) s.row_change.row
      (last_col_of s.row_change) a)
  last-erased F a lost =
      let j = s.row_change in
      let c = last_col_of j in
      let x = last_cell_of j in
      let last = last-is s h in
      let some = span-few x in
      let test : wipe_unflags j.cols j.new c (c + 1) ≡ true = and_from (nat_lt c (c + 1)) _
      (lt-ltb c (c + 1) (omega arith))
      (elim (cases_Bool x.wide) [
        | inr narrow ↦ or_left (nat_le j.cols (c + 1)) _ (le-leb j.cols (c + 1)
            (let one = span-narrow x narrow in omega (arith, last.up_to, one)))
        | inl wide ↦ or_right (nat_le j.cols (c + 1)) _ (and_from ((c + 1 + 1) == j.cols) _ (eq-eqb (c + 1 + 1) j.cols
            (let two = span-wide x wide in omega (arith, last.up_to, two))) (h.new.paired.next c ∙ wide))
      ]) in
      reads-to refl (ap (λ b. with_row s (wiped j.new c (c + 1) a) (kept_or_off b F j.row) j.row c a) test)
      (reads-erasing j.new 1 true (c + 1) refl (omega (arith, last.up_to, some)) (wipe-end s S h room))

  -- the row's flag changes, or it was lost
  mends : (F : ℕ → Bool) (a : Attrs) (lost : Bool) → IsProper a → Flags F (flags_above s) s.row_change.row lost
      → (not (bool_eq s.row_change.wrapped s.row_change.was_wrapped) || (s.row_change.wrapped && lost)) ≡ true
      → Ends S s (IsDrawn s) (mend s.row_change (last_cell_of s.row_change))
      (pen s.row_change.row (last_col_of s.row_change) a None lost)
      (with_row s s.row_change.new F s.row_change.row (last_col_of s.row_change) a)
  mends F a lost ha kept needs =
      let j = s.row_change in
      let x = last_cell_of j in
      let c = last_col_of j in
      let last = last-is s h in
      elim (cases_Bool j.wrapped) [
        | inl wraps ↦ ends (reads-as (mend-wraps j x _ wraps) (last-printed F j.new a lost ha (new-over s h)
            (last-text s h (h.new.filled wraps)) (line-reprinted j.new c x.attrs h.new.paired last.whole))) (record {
              flags = F;
              state_after = refl;
              proper = h.proper c;
              closed = refl;
              flagged = inr (wraps, refl, refl, flags-off F (flags_above s) j.row lost true kept);
              keeps = λ _ g. absurd (both_ways _ (no-need_kept j.wrapped j.was_wrapped lost wraps
                  (ap (λ b. j.was_wrapped && not b) (sym (or_off lost false refl)) ∙ g)) needs);
              waits = λ _ _. (refl, refl);
            })
        | inr ends_here ↦
            (let off : update F j.row false ≡ update (flags_above s) j.row j.wrapped =
            flags-off F (flags_above s) j.row lost false kept ∙ ap (update (flags_above s) j.row) (sym ends_here) in
            ends-as {f = unflag x >> print_last x} (mend-ends j x _ ends_here) (elim (cases_Bool (has_text x)) [
              | inl full ↦ ends (reads-then (reads-as (unflag-full x _ full) (last-erased F a lost))
                  (last-printed (update F j.row false) (wiped j.new c (c + 1) a) a (lost || true) ha
                  (wiped-over s a h) full (line-restored j.new c a x.attrs h.new.paired last.whole)))
                  (drawn-ended s _ (h.proper c) off ends_here refl)
              | inr empty ↦ ends (reads-then (reads-as (unflag-empty x _ empty) (reads-then
                  (reads-color _ ha (h.proper c)) (last-erased F x.attrs lost)))
                  (reads-as (print-last_none x _ empty) reads-skip))
                  (drawn-ended s _ (h.proper c) off ends_here
                  (ap (λ g. with_row s g (update F j.row false) j.row c x.attrs)
                  (line-erased_same j.new c x.attrs h.new.paired (empty-is x (h.cells c) empty last.whole))))
            ]))
      ]

module _ (s : Scene) (h : IsScene s) (C : ℕ → Type 0) (S : ℕ → ℕ → Type 0) (o : IsRoom s C S) where
  closing-at : (F : ℕ → Bool) (r k : ℕ) (a : Attrs) (lost : Bool) → IsProper a
      → Flags F (flags_above s) s.row_change.row lost
      → (owes_end s.row_change (pen r k a None lost) ≡ true → C (s.row_change.cols - 1))
      → Ends S s (IsDrawn s) (closing s.row_change) (pen r k a None lost) (with_row s s.row_change.new F r k a)
  closing-at F r k a lost ha kept owed =
      let j = s.row_change in
      let p = pen r k a None lost in
      let last = last-is s h in
      let some = span-few (last_cell_of j) in
      elim (cases_Bool (owes_end j p)) [
        | inr fine ↦
            (let none = no-need j.wrapped j.was_wrapped lost fine in
            let on = flags-kept s F lost h none.0 none.1 kept in
            ends (reads-as (closing-none j p fine) reads-skip) (record {
              flags = F;
              state_after = refl;
              proper = ha;
              closed = refl;
              flagged = inl on;
              keeps = λ wraps _. ap (λ G. G j.row) on ∙ update-same (flags_above s) j.row j.wrapped ∙ wraps;
              waits = λ wraps g. absurd (both_ways (j.was_wrapped && not lost) g
                  (kept-no_need j.wrapped j.was_wrapped lost wraps fine));
            }))
        | inl needs ↦ ends-as (closing-some j p _ _ needs refl refl)
            (ends-then (reads-goto _ h (omega (arith, last.up_to, some)))
            (mends s h S (end-room s C S h o (owed needs)) F a lost ha kept needs))
      ]

  pub closing-leads : (p : Pen) (t : Term) → IsFilled s p t → (owes_end s.row_change p ≡ true
      → C (s.row_change.cols - 1))
      → Ends S s (IsDrawn s) (closing s.row_change) p t
  closing-leads p t now owed =
      let j = s.row_change in
      let P : Option Erase → Term → Type 0 = λ e x.
      Ends S s (IsDrawn s) (closing j) (pen p.pos.row p.pos.col p.attrs e p.lost) x in
      subst (λ e. P e t) (sym now.closed) (subst (P None) (sym now.state_after)
      (closing-at now.flags p.pos.row p.pos.col p.attrs p.lost now.proper now.kept owed))
