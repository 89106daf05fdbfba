-- A row that is drawn over an earlier one, column by column.
use Rattle.std.proofs.Common.{◌≡◌, ℕ, ◌+◌, ◌-◌, ◌<◌, ◌≤◌, ◌==◌, Bool, true, false, cond, ◌&&◌, ◌||◌, Option, Some, None}
use Rattle.std.proofs.Common.{refl, arith, sym, ap, ◌∙◌, inl, inr, ◌⊎◌, subst}
use Rattle.std.proofs.lemmas.Bool.Decides.{nat_tests}
use Rattle.std.proofs.lemmas.Bool.{cases_Bool, both_ways, and_parts, eqb-true}
use Rattle.unicode_width.specs.Width.{char_width}
use Rattle.vt100_forms.specs.Form.{Text}
use Rattle.vt100_forms.specs.declared.attrs.Attrs.{Attrs}
use Rattle.vt100_forms.specs.declared.position.Pos.{Pos}
use Rattle.vt100_forms.specs.Attrs.{IsProper}
use Rattle.vt100_cells.specs.Cell.{CellView, empty_cell, cell_of, is_filled}
use Rattle.vt100_cells.specs.Line.{span_of, put, put_unflags}
use Rattle.terminal_model.specs.Position.{update}
use Rattle.terminal_model.specs.Term.{Term}
use Rattle.terminal_model.specs.Touch.{put_touches}
use Rattle.terminal_model.specs.Apply.{print as printed_cell}
use Rattle.terminal_model.proofs.Positions.{update-same, update-other}
use Rattle.terminal_model.proofs.TermLemmas.{span-some}
use Rattle.row_drawing.specs.declared.pen.Erase.{Erase}
use Rattle.row_drawing.specs.declared.pen.Pen.{Pen}
use Rattle.row_drawing.specs.Writer.{Drawn, Writer, ◌>>◌, goto, turn, color, print, space}
use Rattle.row_drawing.specs.RowWriter.{RowChange, is_same, wraps, arrive}
use Rattle.row_drawing.specs.Scene.{Scene, IsScene, scene_size, with_row, flags_above}
use Rattle.row_drawing.proofs.Lines.{Line}
use Rattle.row_drawing.proofs.Steps.{at, pen, Flags, kept_or_off, flags-step, flags-above, IsSendable}
use Rattle.row_drawing.proofs.Steps.{text-printed, fits-below, print-line, sends-space}
use Rattle.row_drawing.proofs.Touches.{form-within, text-from, first-below}
use Rattle.row_drawing.proofs.RowReads.{Reads, reads-then, reads-as, reads-turn, reads-goto, reads-color, reads-print}
use Rattle.row_drawing.proofs.RowReads.{Ends}

-- ---- what is true after n columns

-- the first column that is not yet right: after the second half of a wide cell that is drawn, or the first pending
-- column
abbrev pub past : RowChange → ℕ → ℕ
past j n = cond (j.new n).continuation (n + 1) n

abbrev pub edge : Option Erase → ℕ → ℕ
edge None n = n
edge (Some e) n = e.from

-- the pending columns become empty, with these attributes, and the first of them differs
abbrev pub Opens : RowChange → ℕ → Option Erase → Type 0
Opens j n None = Unit {0}
Opens j n (Some e) = (e.from < n) × IsProper e.attrs × ((k : ℕ) → e.from ≤ k → k < n → j.new k ≡ empty_cell e.attrs)
    × (is_same j e.from ≡ false)

-- nothing is drawn yet, and the row above has no flag: the first character comes into the first column
pub record IsDue (s : Scene) (F : ℕ → Bool) (p : Pos) (m : ℕ) : Type 0 where
  pub unset : F ≡ s.flags
  pub above : s.row_change.above ≡ true
  pub row : p.row + 1 ≡ s.row_change.row
  pub col : p.col ≡ s.row_change.cols
  pub none : m ≡ 0
  pub differs : is_same s.row_change 0 ≡ false

abbrev pub Standing : Scene → (ℕ → Bool) → Pen → ℕ → Type 0
Standing s F p m = Flags F (flags_above s) s.row_change.row p.lost ⊎ IsDue s F p.pos m

pub record At (s : Scene) (n : ℕ) (p : Pen) (t : Term) : Type 0 where
  pub line : ℕ → CellView
  pub flags : ℕ → Bool
  pub state_after : t ≡ with_row s line flags p.pos.row p.pos.col p.attrs
  pub lines : Line s.row_change.old s.row_change.new (edge p.erase (past s.row_change n)) line
  pub opens : Opens s.row_change n p.erase
  pub proper : IsProper p.attrs
  pub standing : Standing s flags p (edge p.erase (past s.row_change n))

pub at-row : {s : Scene} {n r k : ℕ} {a : Attrs} {e : Option Erase} {lost : Bool} (F : ℕ → Bool) (f : ℕ → CellView)
    → IsProper a → Line s.row_change.old s.row_change.new (edge e (past s.row_change n)) f → Opens s.row_change n e
    → Standing s F (pen r k a e lost) (edge e (past s.row_change n)) → At s n (pen r k a e lost) (with_row s f F r k a)
at-row F f ha l opens standing = record {
  line = f;
  flags = F;
  state_after = refl;
  lines = l;
  opens = opens;
  proper = ha;
  standing = standing;
}

abbrev pub After : (ℕ → ℕ → Type 0) → Scene → ℕ → Writer → Pen → Term → Type 0
After S s n f p t = Ends S s (At s n) f p t

-- ---- the row above

-- its flag is to be on
pub flags-on : (s : Scene) → s.row_change.above ≡ true → flags_above s ≡ update s.flags (s.row_change.row - 1) true
flags-on s h = ap (λ b. cond b (update s.flags (s.row_change.row - 1) true) s.flags) h

-- after a character is printed from its end
pub wrapped-flags : (s : Scene) (F : ℕ → Bool) (p : Pen) (m r : ℕ) → IsScene s → s.row_change.above ≡ true
    → r + 1 ≡ s.row_change.row → Standing s F p m → Flags (update F r true) (flags_above s) s.row_change.row p.lost
wrapped-flags s F p m r h above next (inl kept) =
    let is : s.row_change.row - 1 ≡ r = omega (arith, next) in
    flags-above F (flags_above s) s.row_change.row r p.lost next
    (ap (flags_above s) (sym is) ∙ ap (λ G. G (s.row_change.row - 1)) (flags-on s above)
    ∙ update-same s.flags (s.row_change.row - 1) true) kept
wrapped-flags s F p m r h above next (inr due) =
    let is : r ≡ s.row_change.row - 1 = omega (arith, next) in
    inl (ap (λ G. update G r true) due.unset ∙ ap (λ i. update s.flags i true) is ∙ sym (flags-on s above))

-- if the flag is due, the first character wraps
due-wraps : (s : Scene) (F : ℕ → Bool) (p : Pen) (m n : ℕ) → IsDue s F p.pos m → 0 < n
    → (wraps s.row_change n p && (m == 0)) ≡ true
due-wraps s F p m n d some = grind (arith, nat_tests, d.above, d.row, d.col, d.none)

pub not-due : (s : Scene) (F : ℕ → Bool) (p : Pen) (m n : ℕ) → 0 < n → (wraps s.row_change n p && (m == 0)) ≡ false
    → Standing s F p m → Flags F (flags_above s) s.row_change.row p.lost
not-due s F p m n some off (inl kept) = kept
not-due s F p m n some off (inr due) = absurd (both_ways _ off (due-wraps s F p m n due some))

-- what a test of wrapping says
pub record WrapsNow (s : Scene) (n : ℕ) (p : Pen) (m : ℕ) : Type 0 where
  pub above : s.row_change.above ≡ true
  pub row : p.pos.row + 1 ≡ s.row_change.row
  pub over : s.row_change.cols < p.pos.col + n
  pub first : m ≡ 0

pub wraps-now : (s : Scene) (n : ℕ) (p : Pen) (m : ℕ) → (wraps s.row_change n p && (m == 0)) ≡ true → WrapsNow s n p m
wraps-now s n p m h = record {
  above = grind (arith, nat_tests);
  row = grind (arith, nat_tests);
  over = grind (arith, nat_tests);
  first = grind (arith, nat_tests);
}

-- from the end of the row above, a cell is printed at the start of this one
pub reads-print_turned : {S : ℕ → ℕ → Type 0} {a : Attrs} {m : ℕ} (s : Scene) (F : ℕ → Bool) (f : ℕ → CellView)
    (r k : ℕ) (x : CellView) (e : Option Erase) (lost b : Bool) → IsScene s
    → WrapsNow s (span_of x) (pen r k a e lost) m → IsSendable x → span_of x ≤ s.row_change.cols
    → ((i : ℕ) → i < s.row_change.cols → put_touches f 0 x i ≡ true → S s.row_change.row i)
    → Reads S s (print x b) (pen s.row_change.row 0 x.attrs e lost) (with_row s f F r k x.attrs)
    (pen s.row_change.row (0 + span_of x) x.attrs e (lost || b))
    (with_row s (put f 0 x x.attrs) (kept_or_off (put_unflags s.row_change.cols f 0 x) (update F r true)
    s.row_change.row) s.row_change.row
    (0 + span_of x) x.attrs)
unfolding print
reads-print_turned {S = S} s F f r k x e lost b h now send fits touched =
    let z = scene_size s in
    let D : ℕ → ℕ → CellView = update s.cells (r + 1) f in
    let u = at s.term D F r k x.attrs in
    let full : is_filled (D r (z.cols - 1)) ≡ true = ap (λ (g : ℕ → CellView). is_filled (g (z.cols - 1)))
    (update-other s.cells (r + 1) r f (λ q. absurd (omega (arith, q))))
    ∙ ap (λ i. is_filled (s.cells i (z.cols - 1))) (omega (arith, now.row)) ∙ h.above_filled now.above in
    let room : r + 1 < z.rows = omega (arith, now.row, h.row_in) in
    let Q : ℕ → Type 0 = λ i. Reads S s (print x b) (pen i 0 x.attrs e lost)
    (at s.term (update s.cells i f) F r k x.attrs) (pen i (0 + span_of x) x.attrs e (lost || b))
    (at s.term (update s.cells i (put f 0 x x.attrs))
    (kept_or_off (put_unflags s.row_change.cols f 0 x) (update F r true) i) i (0 + span_of x) x.attrs) in
    subst Q now.row (record {
      takes = record {
        pen_is = refl;
        term_is = text-printed z u x send.cell send.some send.plain refl fits
            ∙ ap (printed_cell z x) (fits-below z (span_of x) s.term D F r k x.attrs now.over room full)
            ∙ print-line z s.term s.cells (update F r true) (r + 1) 0 x.attrs f x;
      };
      stays = form-within S z (Text x.text) u (λ i l low q.
          let there = text-from z x u (r + 1) 0 (D (r + 1)) send
          (λ d ds head. first-below z x d ds s.term D F r k x.attrs head fits now.over room full) i l q in
          subst (λ v. S v l) (sym (there.0 ∙ now.row)) (touched l low
          (ap (λ g. put_touches g 0 x l) (sym (update-same s.cells (r + 1) f)) ∙ there.1)));
    })

pub reads-space_turned : {S : ℕ → ℕ → Type 0} {b : Attrs} {m : ℕ} (s : Scene) (F : ℕ → Bool) (f : ℕ → CellView)
    (r k : ℕ) (a : Attrs) (e : Option Erase) (lost : Bool) → IsScene s → WrapsNow s 1 (pen r k b e lost) m
    → ((i : ℕ) → i < s.row_change.cols → put_touches f 0 (cell_of 32 a) i ≡ true → S s.row_change.row i)
    → Reads S s space (pen s.row_change.row 0 a e lost) (with_row s f F r k a) (pen s.row_change.row 1 a e lost)
    (with_row s (put f 0 (cell_of 32 a) a) (update F r true) s.row_change.row 1 a)
unfolding print space char_width
reads-space_turned s F f r k a e lost h now touched =
    let printed = reads-print_turned s F f r k (cell_of 32 a) e lost false h now (sends-space a)
    (omega (arith, h.some_col))
    touched in
    record { takes = record { pen_is = refl; term_is = printed.takes.term_is }; stays = printed.stays }

-- ---- a cell is drawn

pub record Prints (S : ℕ → ℕ → Type 0) (s : Scene) (f : ℕ → CellView) (p : Pen) (t : Term) (g : Writer) (n : ℕ)
    (x : CellView) (b : Bool) : Type 0 where
  pub flags : ℕ → Bool
  pub kept : Flags flags (flags_above s) s.row_change.row (p.lost || b)
  pub reads : Reads S s g p t (pen s.row_change.row (n + span_of x) x.attrs None (p.lost || b))
      (with_row s (put f n x x.attrs) flags s.row_change.row (n + span_of x) x.attrs)

pub arrive-turn : (j : RowChange) (c n : ℕ) (p : Pen) → (wraps j n p && (c == 0)) ≡ true → arrive j c n p ≡ turn j.row p
unfolding arrive
arrive-turn j c n p h = rw h refl

pub arrive-goto : (j : RowChange) (c n : ℕ) (p : Pen) → (wraps j n p && (c == 0)) ≡ false → arrive j c n p
    ≡ goto j.row c p
unfolding arrive
arrive-goto j c n p h = rw h refl

-- the cursor moves there, and nothing else of the pen changes
pub arrive-pen : (j : RowChange) (c n : ℕ) (p : Pen)
    → (arrive j c n p).pen ≡ record p { pos = record { row = j.row; col = c } }
unfolding turn goto
arrive-pen j c n p =
    elim (cases_Bool (wraps j n p && (c == 0))) [
      | inl turns ↦ (let first = sym (eqb-true c 0 (and_parts (wraps j n p) (c == 0) turns).1) in
          ap (λ (d : Drawn). d.pen) (arrive-turn j c n p turns)
          ∙ (λ i. record p { pos = record { row = j.row; col = first i } }))
      | inr goes ↦ ap (λ (d : Drawn). d.pen) (arrive-goto j c n p goes)
    ]

-- the cell x is drawn at n
pub draws : (S : ℕ → ℕ → Type 0) (s : Scene) (F : ℕ → Bool) (f : ℕ → CellView) (r k : ℕ) (a : Attrs) (lost b : Bool)
    (n : ℕ) (x : CellView) → IsScene s → IsProper a → IsProper x.attrs → IsSendable x
    → n + span_of x ≤ s.row_change.cols
    → (put_unflags s.row_change.cols f n x ≡ true → b ≡ true) → Standing s F (pen r k a None lost) n
    → ((i : ℕ) → i < s.row_change.cols → put_touches f n x i ≡ true → S s.row_change.row i)
    → Prints S s f (pen r k a None lost) (with_row s f F r k a)
    (arrive s.row_change n (span_of x) >> color x.attrs >> print x b) n x b
draws S s F f r k a lost b n x h ha hx send room loses standing touched =
    let j = s.row_change in
    let p = pen r k a None lost in
    let some = span-some x in
    elim (cases_Bool (wraps j (span_of x) p && (n == 0))) [
      | inr stays ↦ record {
        flags = kept_or_off (put_unflags j.cols f n x) F j.row;
        kept = flags-step F (flags_above s) j.row lost (put_unflags j.cols f n x) b
            (not-due s F p n (span_of x) (omega arith) stays standing) loses;
        reads = reads-then (reads-then (reads-as (arrive-goto j n (span_of x) p stays) (reads-goto _ h (omega arith)))
            (reads-color _ ha hx)) (reads-print _ _ send room touched);
      }
      | inl turns ↦
          (let now = wraps-now s (span_of x) p n turns in
          let Q : ℕ → Type 0 = λ m. Reads S s (print x b) (pen j.row 0 x.attrs None lost) (with_row s f F r k x.attrs)
          (pen j.row (m + span_of x) x.attrs None (lost || b))
          (with_row s (put f m x x.attrs) (kept_or_off (put_unflags j.cols f m x) (update F r true) j.row) j.row
          (m + span_of x) x.attrs) in
          let there : Q n = subst Q (sym now.first) (reads-print_turned s F f r k x None lost b h now send (omega arith)
          (λ i low q. touched i low (ap (λ v. put_touches f v x i) now.first ∙ q))) in
          record {
            flags = kept_or_off (put_unflags j.cols f n x) (update F r true) j.row;
            kept = flags-step (update F r true) (flags_above s) j.row lost (put_unflags j.cols f n x) b
                (wrapped-flags s F p n r h now.above now.row standing) loses;
            reads = reads-then (reads-then (reads-as (arrive-turn j n (span_of x) p turns) reads-turn)
                (reads-color _ ha hx)) there;
          })
    ]
