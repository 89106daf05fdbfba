-- The columns of a row, drawn from the left.
use Rattle.std.proofs.Common.{◌≡◌, ℕ, zero, suc, ◌+◌, ◌-◌, ◌<◌, ◌≤◌, ◌==◌, Bool, true, false, not, ◌&&◌, ◌||◌, List, []}
use Rattle.std.proofs.Common.{◌∷◌, length, Option, Some, None, refl, arith, sym, ap, ◌∙◌, inl, inr, subst}
use Rattle.std.proofs.lemmas.Bool.Decides.{nat_tests}
use Rattle.std.proofs.lemmas.Bool.{and_from, cases_Bool, cases_lt, both_ways, ne_eqb}
use Rattle.vt100_forms.specs.declared.attrs.Attrs.{Attrs}
use Rattle.vt100_forms.specs.Attrs.{IsProper}
use Rattle.vt100_cells.specs.CellEq.{attrs_eq-true, cell_eq-true}
use Rattle.vt100_cells.specs.Cell.{CellView, IsCell, IsWideAs, cell_of, empty_cell, has_text, is_filled}
use Rattle.vt100_cells.specs.Line.{span_of, put, put_unflags, wiped, wipe_unflags}
use Rattle.vt100_cells.proofs.LineLemmas.{wide_within}
use Rattle.terminal_model.specs.Position.{update}
use Rattle.terminal_model.specs.Term.{Term}
use Rattle.terminal_model.specs.Apply.{run}
use Rattle.terminal_model.proofs.FormTexts.{some-text}
use Rattle.row_drawing.specs.declared.pen.Erase.{Erase}
use Rattle.row_drawing.specs.declared.pen.Pen.{Pen}
use Rattle.row_drawing.specs.Writer.{Writer, ◌>>◌, skip, goto, turn, color, print, space, back, erasing}
use Rattle.row_drawing.specs.Writer.{clearing, marking}
use Rattle.row_drawing.specs.RowWriter.{finish, finish_of, RowChange, is_same, wraps, to_erase, is_end, flush_of, flush}
use Rattle.row_drawing.specs.RowWriter.{arrive, mark_of, mark, draw, column, columns}
use Rattle.row_drawing.specs.Scene.{Scene, IsScene, scene_size, with_row, flags_above}
use Rattle.row_drawing.proofs.Lines.{Line, line-narrow, line-wide, line-erased, line-spaced, spaced-half}
use Rattle.row_drawing.proofs.Lines.{line-same, line-same_wide}
use Rattle.row_drawing.proofs.Steps.{pen, Flags, kept_or_off, flags-step, IsSendable}
use Rattle.row_drawing.proofs.LocalRow.{IsRoom, space-room, put-room, wipe-room}
use Rattle.row_drawing.proofs.RowReads.{Reads, reads-then, reads-as, reads-to, reads-skip, reads-turn, reads-goto}
use Rattle.row_drawing.proofs.RowReads.{reads-color, reads-back, reads-marking, reads-erasing, reads-clearing, ends}
use Rattle.row_drawing.proofs.RowReads.{ends-as, ends-then, ends-next}
use Rattle.row_drawing.proofs.RowLeads.{at-row, past, edge, Opens, Standing, At, After, wrapped-flags, not-due}
use Rattle.row_drawing.proofs.RowLeads.{wraps-now}
use Rattle.row_drawing.proofs.RowLeads.{draws, reads-space_turned}

-- ---- cells

suc-some : (n : ℕ) → not (suc n == 0) ≡ true
suc-some n = ap not (ne_eqb (suc n) 0 (λ e. absurd (omega arith)))

pub empty-is : (x : CellView) → IsCell x → has_text x ≡ false → x.continuation ≡ false → x ≡ empty_cell x.attrs
empty-is x h none single =
    (elim x.text as (λ ts. x.text ≡ ts → x ≡ empty_cell x.attrs) [
      | [] ↦ λ e.
          let narrow : x.wide ≡ false = subst (λ ts. IsWideAs ts x.wide) e h.wide in
          λ i. record { text = e i; wide = narrow i; continuation = single i; attrs = x.attrs }
      | c ∷ cs ↦ λ e. absurd (both_ways (has_text x) none (ap (λ (ts : List ℕ). not (length ts == 0)) e
          ∙ suc-some (length cs)))
    ]) refl

pub sends : (s : Scene) → IsScene s → (k : ℕ) → has_text (s.row_change.new k) ≡ true → IsSendable (s.row_change.new k)
sends s h k some = record { cell = h.cells k; some = some-text (s.row_change.new k) some; plain = h.plain k }

pub span-wide : (x : CellView) → x.wide ≡ true → span_of x ≡ 2
span-wide x w = rw w refl

pub span-narrow : (x : CellView) → x.wide ≡ false → span_of x ≡ 1
span-narrow x w = rw w refl

pub room-for : (s : Scene) → IsScene s → (n : ℕ) → n < s.row_change.cols → n + span_of (s.row_change.new n)
    ≤ s.row_change.cols
room-for s h n l =
    let inside = wide_within s.row_change.cols s.row_change.new n h.new.beyond h.new.paired in grind
    (arith, nat_tests, inside)

-- ---- columns are erased

pub wipe-loses : (n : ℕ) (f g : ℕ → CellView) (s e : ℕ) → ((g e).continuation ≡ true → (f e).continuation ≡ true)
    → wipe_unflags n g s e ≡ true → wipe_unflags n f s e ≡ true
wipe-loses n f g s e half h = grind (arith, nat_tests, half)

-- the cursor is at the first of the pending columns, and the terminal has their attributes
record Arrives (S : ℕ → ℕ → Type 0) (s : Scene) (e : Erase) (p : Pen) (t : Term) : Type 0 where
  line : ℕ → CellView
  flags : ℕ → Bool
  kept : Flags flags (flags_above s) s.row_change.row p.lost
  reads : Reads S s (to_erase s.row_change e) p t (pen s.row_change.row e.from e.attrs (Some e) p.lost)
      (with_row s line flags s.row_change.row e.from e.attrs)
  lines : (m : ℕ) → e.from < m → ((k : ℕ) → e.from ≤ k → k < m → s.row_change.new k ≡ empty_cell e.attrs)
      → Line s.row_change.old s.row_change.new m (wiped line e.from m e.attrs)
  half : (m : ℕ) → e.from < m → (line m).continuation ≡ true → (s.row_change.old m).continuation ≡ true
  written : (k : ℕ) → k < e.from → line k ≡ s.row_change.new k

-- the pending columns are erased, up to a column or to the end
pub record Erased (S : ℕ → ℕ → Type 0) (s : Scene) (g : Writer) (p : Pen) (t : Term) (e : Erase) (n : ℕ) (b : Bool)
    : Type 0 where
  pub line : ℕ → CellView
  pub flags : ℕ → Bool
  pub kept : Flags flags (flags_above s) s.row_change.row (p.lost || b)
  pub reads : Reads S s g p t (pen s.row_change.row e.from e.attrs None (p.lost || b))
      (with_row s line flags s.row_change.row e.from e.attrs)
  pub lines : Line s.row_change.old s.row_change.new n line

pub erase-turn : (j : RowChange) (e : Erase) (p : Pen) → (wraps j 1 p && (e.from == 0)) ≡ true
    → to_erase j e p ≡ (turn j.row >> space >> back >> color e.attrs) p
unfolding to_erase
erase-turn j e p h = rw h refl

pub erase-goto : (j : RowChange) (e : Erase) (p : Pen) → (wraps j 1 p && (e.from == 0)) ≡ false
    → to_erase j e p ≡ (goto j.row e.from >> color e.attrs) p
unfolding to_erase
erase-goto j e p h = rw h refl

-- ---- one column where nothing is to be erased

pub past-whole : (j : RowChange) (n : ℕ) → (j.new n).continuation ≡ false → past j n ≡ n
past-whole j n h = rw h refl

next-past : (s : Scene) → IsScene s → (n : ℕ) → past s.row_change (n + 1) ≡ n + span_of (s.row_change.new n)
next-past s h n = grind (arith, nat_tests, h.new.paired.next n)

pub draw-is_same : (j : RowChange) (n : ℕ) (p : Pen) → is_same j n ≡ true → draw j n p ≡ skip p
unfolding draw
draw-is_same j n p h = rw h refl

pub draw-full : (j : RowChange) (n : ℕ) (p : Pen) (x : CellView) (m : ℕ) (b : Bool) → x ≡ j.new n → is_same j n ≡ false
    → has_text x ≡ true → m ≡ span_of x → b ≡ put_unflags j.cols j.old n (j.new n)
    → draw j n p ≡ (arrive j n m >> color x.attrs >> print x b) p
unfolding draw
draw-full j n p x m b is differs some em eb = rw (em, eb, is, differs, ap has_text (sym is) ∙ some) refl

pub draw-marks : (j : RowChange) (n : ℕ) (p : Pen) (x : CellView) (a : Attrs) → x ≡ j.new n → is_same j n ≡ false
    → has_text x ≡ false → p.erase ≡ None → a ≡ x.attrs → draw j n p ≡ marking n a p
unfolding draw mark mark_of
draw-marks j n p x a is differs none closed e =
    rw (e, is, differs, ap has_text (sym is) ∙ none) (ap (λ o. mark_of j n o p) closed)

-- if columns are pending
pub draw-passes : (j : RowChange) (n : ℕ) (p : Pen) (e : Erase) → p.erase ≡ Some e → has_text (j.new n) ≡ false
    → draw j n p ≡ skip p
unfolding draw mark mark_of
draw-passes j n p e is none =
    elim (cases_Bool (is_same j n)) [
      | inl same ↦ draw-is_same j n p same
      | inr differs ↦ rw (differs, none) (ap (λ o. mark_of j n o p) is)
    ]

line-printed : (s : Scene) → IsScene s → (n : ℕ) (f : ℕ → CellView) (a : Attrs) → Line s.row_change.old s.row_change.new
    n f
    → (s.row_change.new n).continuation ≡ false
    → Line s.row_change.old s.row_change.new (n + span_of (s.row_change.new n)) (put f n (s.row_change.new n) a)
line-printed s h n f a l single =
    let j = s.row_change in
    elim (cases_Bool (j.new n).wide) [
      | inl wide ↦ subst (λ m. Line j.old j.new (n + m) (put f n (j.new n) a)) (sym (span-wide (j.new n) wide))
          (line-wide j.old j.new n f a h.old.paired h.new.paired l wide)
      | inr narrow ↦ subst (λ m. Line j.old j.new (n + m) (put f n (j.new n) a)) (sym (span-narrow (j.new n) narrow))
          (line-narrow j.old j.new n f a h.old.paired h.new.paired l narrow single)
    ]

line-stays : (s : Scene) → IsScene s → (n : ℕ) (f : ℕ → CellView) → Line s.row_change.old s.row_change.new n f
    → (s.row_change.new n).continuation ≡ false → s.row_change.old n ≡ s.row_change.new n
    → Line s.row_change.old s.row_change.new (n + span_of (s.row_change.new n)) f
line-stays s h n f l single same =
    let j = s.row_change in
    elim (cases_Bool (j.new n).wide) [
      | inl wide ↦ subst (λ m. Line j.old j.new (n + m) f) (sym (span-wide (j.new n) wide))
          (line-same_wide j.old j.new n f h.old.paired h.new.paired l same wide)
      | inr narrow ↦ subst (λ m. Line j.old j.new (n + m) f) (sym (span-narrow (j.new n) narrow))
          (line-same j.old j.new n f h.old.paired l same narrow single)
    ]

-- a wide cell here empties the last column only where it does so in the earlier row
print-loses : (j : RowChange) (n : ℕ) (f : ℕ → CellView) → Line j.old j.new n f
    → put_unflags j.cols f n (j.new n) ≡ true → put_unflags j.cols j.old n (j.new n) ≡ true
print-loses j n f l h =
    ap (λ (x : CellView). (j.new n).wide && (x.wide && ((n + 3) == j.cols))) (sym (l.rest (n + 1) (omega arith))) ∙ h

-- ---- one column

pub flush-is_none : (j : RowChange) (n : ℕ) (p : Pen) → p.erase ≡ None → flush j n p ≡ skip p
unfolding flush flush_of
flush-is_none j n p e = ap (λ o. flush_of j n o p) e

pub flush-is_kept : (j : RowChange) (n : ℕ) (p : Pen) (e : Erase) (x : CellView) → p.erase ≡ Some e → x ≡ j.new n
    → is_end x e.attrs ≡ false → flush j n p ≡ skip p
unfolding flush flush_of
flush-is_kept j n p e x h is g =
    ap (λ o. flush_of j n o p) h ∙ rw (ap (λ (y : CellView). is_end y e.attrs) (sym is) ∙ g) refl

pub flush-is_ended : (j : RowChange) (n : ℕ) (p : Pen) (e : Erase) (x : CellView) (m : ℕ) (b : Bool) → p.erase ≡ Some e
    → x ≡ j.new n → is_end x e.attrs ≡ true → m ≡ n - e.from → b ≡ wipe_unflags j.cols j.old e.from n
    → flush j n p ≡ (to_erase j e >> erasing m b) p
unfolding flush flush_of
flush-is_ended j n p e x m b h is g em eb =
    ap (λ o. flush_of j n o p) h ∙ rw (ap (λ (y : CellView). is_end y e.attrs) (sym is) ∙ g) refl
    ∙ ap (λ k. (to_erase j e >> erasing k (wipe_unflags j.cols j.old e.from n)) p) (sym em)
    ∙ ap (λ c. (to_erase j e >> erasing m c) p) (sym eb)

pub finish-is_none : (j : RowChange) (p : Pen) → p.erase ≡ None → finish j p ≡ skip p
unfolding finish finish_of
finish-is_none j p e = ap (λ o. finish_of j o p) e

pub finish-is_some : (j : RowChange) (p : Pen) (e : Erase) → p.erase ≡ Some e → finish j p ≡ (to_erase j e >> clearing)
    p
unfolding finish finish_of
finish-is_some j p e h = ap (λ o. finish_of j o p) h

open-on : (x : CellView) (a : Attrs) → is_end x a ≡ false → (has_text x ≡ false) × (x.attrs ≡ a)
open-on x a h = (grind (arith, nat_tests), attrs_eq-true x.attrs a (grind (arith, nat_tests)))

pub column-is_half : (j : RowChange) (n : ℕ) (p : Pen) → ((j.new n).continuation && not (n == j.start)) ≡ true
    → column j n p ≡ skip p
unfolding column
column-is_half j n p h = rw h refl

pub column-is_whole : (j : RowChange) (n : ℕ) (p : Pen) → ((j.new n).continuation && not (n == j.start)) ≡ false
    → column j n p ≡ (flush j n >> draw j n) p
unfolding column
column-is_whole j n p h = rw h refl

-- a second half follows a wide cell, and so no column is pending there
half-closed : (s : Scene) (n : ℕ) (e : Erase) → IsScene s → Opens s.row_change n (Some e)
    → (s.row_change.new n).continuation ≡ true → ⊥
half-closed s zero e h opens half = absurd (omega (arith, opens.0))
half-closed s (suc n) e h opens half =
    let next : n + 1 ≡ suc n = omega arith in
    let wide : (s.row_change.new n).wide ≡ true = sym (h.new.paired.next n)
    ∙ ap (λ i. (s.row_change.new i).continuation) next ∙ half
    in
    both_ways (s.row_change.new n).wide (ap (λ (x : CellView). x.wide) (opens.2 n (omega (arith, opens.0))
    (omega arith))) wide

pub not-first : (s : Scene) (n : ℕ) → IsScene s → (s.row_change.new n).continuation ≡ true → (n == s.row_change.start)
    ≡ false
not-first s n h half = ne_eqb n s.row_change.start (λ e. both_ways (s.row_change.new 0).continuation h.new.paired.first
    (ap (λ i. (s.row_change.new i).continuation) (sym (e ∙ h.whole)) ∙ half))

half-past : (s : Scene) (n : ℕ) → IsScene s → (s.row_change.new n).continuation ≡ true
    → past s.row_change n ≡ past s.row_change (n + 1)
half-past s n h half = grind (arith, nat_tests, h.new.paired.blank n half, h.new.paired.next n)

-- ---- the columns, one by one

module _ (s : Scene) (h : IsScene s) (C : ℕ → Type 0) (S : ℕ → ℕ → Type 0) (o : IsRoom s C S) where
  arrives : (F : ℕ → Bool) (f : ℕ → CellView) (r k : ℕ) (a : Attrs) (e : Erase) (lost : Bool) → IsProper a
      → IsProper e.attrs → e.from < s.row_change.cols → C e.from → Line s.row_change.old s.row_change.new e.from f
      → Standing s F (pen r k a (Some e) lost) e.from
      → Arrives S s e (pen r k a (Some e) lost) (with_row s f F r k a)
  arrives F f r k a e lost ha he inside close l standing =
      let j = s.row_change in
      let p = pen r k a (Some e) lost in
      elim (cases_Bool (wraps j 1 p && (e.from == 0))) [
        | inr stays ↦ record {
          line = f;
          flags = F;
          kept = not-due s F p e.from 1 (omega arith) stays standing;
          reads = reads-as (erase-goto j e p stays) (reads-then (reads-goto _ h inside) (reads-color _ ha he));
          lines = λ m some blank. line-erased j.old j.new e.from m e.attrs f h.old.paired h.new.paired l some blank;
          half = λ m some q. ap (λ (x : CellView). x.continuation) (sym (l.rest m some)) ∙ q;
          written = l.written;
        }
        | inl turns ↦
            (let now = wraps-now s 1 p e.from turns in
            let g : ℕ → CellView = put f 0 (cell_of 32 a) a in
            let G : ℕ → Bool = update F r true in
            let begun : Line j.old j.new 0 f = subst (λ m. Line j.old j.new m f) now.first l in
            let all : Reads S s (turn j.row >> space >> back >> color e.attrs) p (with_row s f F r k a)
            (pen j.row 0 e.attrs (Some e) lost) (with_row s g G j.row 0 e.attrs) =
            reads-then (reads-then (reads-then reads-turn (reads-space_turned s F f r k a (Some e) lost h now
            (space-room s C S h o f a begun (subst C now.first close)))) (reads-back _)) (reads-color _ ha he) in
            record {
              line = g;
              flags = G;
              kept = wrapped-flags s F p e.from r h now.above now.row standing;
              reads = reads-to (ap (λ c. pen j.row c e.attrs (Some e) lost) (sym now.first))
                  (ap (λ c. with_row s g G j.row c e.attrs) (sym now.first)) (reads-as (erase-turn j e p turns) all);
              lines = λ m some blank. subst (λ i. Line j.old j.new m (wiped g i m e.attrs)) (sym now.first)
                  (line-spaced j.old j.new m a e.attrs f h.old.paired begun (omega arith)
                  (λ i low high. blank i (omega (arith, now.first)) high));
              half = λ m some q. spaced-half j.old j.new m a f h.old.paired begun (omega arith) q;
              written = λ i low. absurd (omega (arith, now.first));
            })
      ]

  -- the columns from the mark up to n are to be empty
  marked-room : (e : Erase) (n : ℕ) → Opens s.row_change n (Some e) → n ≤ s.row_change.cols → (k : ℕ) → e.from ≤ k
      → k < n → C k
  marked-room e n opens up_to k low high =
      o.empty e.from k (let from = opens.0 in omega (arith, from, up_to)) opens.3 (omega (arith, high, up_to))
      (ap is_filled (opens.2 k low high))

  erases : (F : ℕ → Bool) (f : ℕ → CellView) (r k : ℕ) (a : Attrs) (e : Erase) (lost : Bool) (n : ℕ) → IsProper a
      → Line s.row_change.old s.row_change.new e.from f → Opens s.row_change n (Some e) → n ≤ s.row_change.cols
      → Standing s F (pen r k a (Some e) lost) e.from
      → Erased S s (to_erase s.row_change e >> erasing (n - e.from) (wipe_unflags s.row_change.cols s.row_change.old
      e.from n))
      (pen r k a (Some e) lost) (with_row s f F r k a) e n (wipe_unflags s.row_change.cols s.row_change.old e.from n)
  erases F f r k a e lost n ha l opens up_to standing =
      let j = s.row_change in
      let some : e.from < n = opens.0 in
      let close = marked-room e n opens up_to in
      let there = arrives F f r k a e lost ha opens.1 (omega (arith, some, up_to)) (close e.from (omega arith) some) l
      standing in
      let loses = wipe_unflags j.cols j.old e.from n in
      let b = wipe_unflags j.cols there.line e.from n in
      record {
        line = wiped there.line e.from n e.attrs;
        flags = kept_or_off b there.flags j.row;
        kept = flags-step there.flags (flags_above s) j.row lost b loses there.kept
            (wipe-loses j.cols j.old there.line e.from n (there.half n some));
        reads = reads-then there.reads (reads-erasing _ _ _ n (omega (arith, some)) up_to (wipe-room s C S h o e.from n
            there.line e.attrs there.written (there.half n some) some up_to opens.2 close));
        lines = there.lines n some opens.2;
      }

  pub clears : (F : ℕ → Bool) (f : ℕ → CellView) (r k : ℕ) (a : Attrs) (e : Erase) (lost : Bool) → IsProper a
      → Line s.row_change.old s.row_change.new e.from f → Opens s.row_change s.row_change.cols (Some e)
      → Standing s F (pen r k a (Some e) lost) e.from
      → Erased S s (to_erase s.row_change e >> clearing) (pen r k a (Some e) lost) (with_row s f F r k a) e
      s.row_change.cols true
  clears F f r k a e lost ha l opens standing =
      let j = s.row_change in
      let some : e.from < j.cols = opens.0 in
      let up_to : j.cols ≤ j.cols = omega arith in
      let close = marked-room e j.cols opens up_to in
      let there = arrives F f r k a e lost ha opens.1 some (close e.from (omega arith) some) l standing in
      let b = wipe_unflags j.cols there.line e.from j.cols in
      record {
        line = wiped there.line e.from j.cols e.attrs;
        flags = kept_or_off b there.flags j.row;
        kept = flags-step there.flags (flags_above s) j.row lost b true there.kept (λ q. refl);
        reads = reads-then there.reads (reads-clearing _ (wipe-room s C S h o e.from j.cols there.line e.attrs
            there.written (there.half j.cols some) some up_to opens.2 close));
        lines = there.lines j.cols some opens.2;
      }

  draw-closed : (F : ℕ → Bool) (f : ℕ → CellView) (r k : ℕ) (a : Attrs) (lost : Bool) (n : ℕ) → IsProper a
      → n < s.row_change.cols → (s.row_change.new n).continuation ≡ false → Line s.row_change.old s.row_change.new n f
      → Standing s F (pen r k a None lost) n
      → After S s (n + 1) (draw s.row_change n) (pen r k a None lost) (with_row s f F r k a)
  draw-closed F f r k a lost n ha inside single l standing =
      let j = s.row_change in
      let x = j.new n in
      let p = pen r k a None lost in
      let next : n + span_of x ≡ past j (n + 1) = sym (next-past s h n) in
      elim (cases_Bool (is_same j n)) [
        | inl same ↦
            (let is : j.old n ≡ j.new n = sym (cell_eq-true (j.new n) (j.old n) same) in
            let kept : Flags F (flags_above s) j.row lost = (elim standing [
              | inl kept ↦ kept
              | inr due ↦ absurd (both_ways (is_same j 0) due.differs (ap (is_same j) (sym due.none) ∙ same))
            ]) in
            ends (reads-as (draw-is_same j n p same) reads-skip) (at-row F f ha
            (subst (λ m. Line j.old j.new m f) next (line-stays s h n f l single is)) tt (inl kept)))
        | inr differs ↦ elim (cases_Bool (has_text x)) [
          | inl full ↦
              (let loses = put_unflags j.cols j.old n x in
              let done = draws S s F f r k a lost loses n x h ha (h.proper n) (sends s h n full) (room-for s h n inside)
              (print-loses j n f l) standing (put-room s C S h o n f l single inside (o.differs n inside differs)) in
              ends (reads-as (draw-full j n p _ _ _ refl differs full refl refl) done.reads) (at-row done.flags
              (put f n x x.attrs) (h.proper n) (subst (λ m. Line j.old j.new m (put f n x x.attrs)) next
              (line-printed s h n f x.attrs l single)) tt (inl done.kept)))
          | inr empty ↦
              (let here : (i : ℕ) → n ≤ i → i < n + 1 → j.new i ≡ empty_cell x.attrs = λ i low high.
              ap j.new (omega (arith, low, high)) ∙ empty-is x (h.cells n) empty single in
              ends (reads-as (draw-marks j n p _ _ refl differs empty refl refl) reads-marking)
              (at-row F f ha l (omega arith, h.proper n, here, differs) standing))
        ]
      ]

  column-at : (F : ℕ → Bool) (f : ℕ → CellView) (r k : ℕ) (a : Attrs) (e : Option Erase) (lost : Bool) (n : ℕ)
      → IsProper a → n < s.row_change.cols → (s.row_change.new n).continuation ≡ false → Line s.row_change.old
      s.row_change.new (edge e n) f
      → Opens s.row_change n e → Standing s F (pen r k a e lost) (edge e n)
      → After S s (n + 1) (flush s.row_change n >> draw s.row_change n) (pen r k a e lost) (with_row s f F r k a)
  column-at F f r k a None lost n ha inside single l opens standing =
      ends-then (reads-as (flush-is_none s.row_change n _ refl) reads-skip)
      (draw-closed F f r k a lost n ha inside single l standing)
  column-at F f r k a (Some e) lost n ha inside single l opens standing =
      let j = s.row_change in
      let p = pen r k a (Some e) lost in
      elim (cases_Bool (is_end (j.new n) e.attrs)) [
        | inl ends_here ↦
            (let done = erases F f r k a e lost n ha l opens (omega arith) standing in
            ends-then (reads-as (flush-is_ended j n p e _ _ _ refl refl ends_here refl refl) done.reads)
            (draw-closed done.flags done.line j.row e.from e.attrs (lost || wipe_unflags j.cols j.old e.from n) n
            opens.1 inside single done.lines (inl done.kept)))
        | inr passes ↦
            (let is = open-on (j.new n) e.attrs passes in
            let blank : j.new n ≡ empty_cell e.attrs = empty-is (j.new n) (h.cells n) is.0 single ∙ ap empty_cell is.1
            in
            let more : (i : ℕ) → e.from ≤ i → i < n + 1 → j.new i ≡ empty_cell e.attrs = λ i low high.
            elim (cases_lt i n) [
              | inl before ↦ opens.2 i low before
              | inr after ↦ (let here : i ≡ n = omega arith in ap j.new here ∙ blank)
            ] in
            ends-then (reads-as (flush-is_kept j n p e _ refl refl passes) reads-skip)
            (ends (reads-as (draw-passes j n p e refl is.0) reads-skip)
            (at-row F f ha l (omega (arith, opens.0), opens.1, more, opens.3) standing)))
      ]

  column-half_at : (F : ℕ → Bool) (f : ℕ → CellView) (r k : ℕ) (a : Attrs) (e : Option Erase) (lost : Bool) (n : ℕ)
      → IsProper a → (s.row_change.new n).continuation ≡ true → Line s.row_change.old s.row_change.new
      (edge e (past s.row_change n)) f
      → Opens s.row_change n e → Standing s F (pen r k a e lost) (edge e (past s.row_change n))
      → After S s (n + 1) (column s.row_change n) (pen r k a e lost) (with_row s f F r k a)
  column-half_at F f r k a (Some e) lost n ha half l opens standing = absurd (half-closed s n e h opens half)
  column-half_at F f r k a None lost n ha half l opens standing =
      let j = s.row_change in
      let p = pen r k a None lost in
      let same = half-past s n h half in
      ends (reads-as (column-is_half j n p (and_from _ _ half (ap not (not-first s n h half)))) reads-skip)
      (at-row F f ha (subst (λ m. Line j.old j.new m f) same l) tt (subst (Standing s F p) same standing))

  column-leads : (n : ℕ) (p : Pen) (t : Term) → n < s.row_change.cols → At s n p t
      → After S s (n + 1) (column s.row_change n) p t
  column-leads n p t inside now =
      let j = s.row_change in
      elim (cases_Bool (j.new n).continuation) [
        | inr single ↦
            (let whole = past-whole j n single in
            let l = subst (λ m. Line j.old j.new (edge p.erase m) now.line) whole now.lines in
            let st = subst (λ m. Standing s now.flags p (edge p.erase m)) whole now.standing in
            subst (λ (x : Term). After S s (n + 1) (column j n) p x) (sym now.state_after)
            (ends-as (column-is_whole j n p (ap (λ b. b && not (n == j.start)) single))
            (column-at now.flags now.line p.pos.row p.pos.col p.attrs p.erase p.lost n now.proper inside single l
            now.opens st)))
        | inl half ↦ subst (λ (x : Term). After S s (n + 1) (column j n) p x) (sym now.state_after)
            (column-half_at now.flags now.line p.pos.row p.pos.col p.attrs p.erase p.lost n now.proper half now.lines
            now.opens now.standing)
      ]

  pub columns-lead : (p : Pen) (t : Term) → At s 0 p t → (n : ℕ) → n ≤ s.row_change.cols
      → After S s n (columns s.row_change n) p t
  unfolding columns
  columns-lead p t now zero le = ends reads-skip now
  columns-lead p t now (suc n) le =
      let j = s.row_change in
      let before = columns-lead p t now n (omega arith) in
      let q = (columns j n p).pen in
      let u = run (scene_size s) (columns j n p).forms t in
      let from_start : n ≡ j.start + n = omega (arith, h.whole) in
      let next : n + 1 ≡ suc n = omega arith in
      ends-next _ before.stays (subst (λ m. After S s (suc n) (column j m) q u) from_start
      (subst (λ m. After S s m (column j n) q u) next (column-leads n q u (omega arith) before.there)))
