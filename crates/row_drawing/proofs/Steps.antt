-- What single forms do to a terminal of which one row is drawn.
use Rattle.std.proofs.Common.{◌≡◌, ℕ, ◌+◌, ◌-◌, ◌<◌, ◌≤◌, Bool, true, false, cond, not, ◌||◌, min, [], ◌∷◌}
use Rattle.std.proofs.Common.{length, Option, None, refl, arith, sym, ap, ◌∙◌, inl, inr, ◌⊎◌}
use Rattle.std.specs.Prelude.{Contains, slice_index_or}
use Rattle.std.proofs.lemmas.Bool.{le-leb, lt-leb, or_right, or_left}
use Rattle.unicode_width.specs.Width.{char_width}
use Rattle.vt100_forms.specs.declared.attrs.Attrs.{Attrs}
use Rattle.vt100_forms.specs.Form.{Text}
use Rattle.vt100_cells.specs.Cell.{CellView, IsCell, cell_of, is_filled}
use Rattle.vt100_cells.specs.Line.{span_of, put, put_unflags, wiped, wipe_unflags}
use Rattle.vt100_cells.proofs.CellLemmas.{IsCell-space}
use Rattle.terminal_model.specs.Position.{update}
use Rattle.terminal_model.specs.Term.{Size, Term}
use Rattle.terminal_model.specs.Apply.{with_line, erase, print as printed_cell, wrap, made_to_fit, apply, run}
use Rattle.terminal_model.proofs.Positions.{update-same, update-twice, update-apart, update-kept}
use Rattle.terminal_model.proofs.FormLemmas.{down-room}
use Rattle.terminal_model.proofs.PrintedCells.{printed}
use Rattle.row_drawing.specs.declared.pen.Erase.{Erase}
use Rattle.row_drawing.specs.declared.pen.Pen.{Pen}
use Rattle.row_drawing.specs.Writer.{Writer, print, erasing}

-- ---- a writer at a pen, read by a terminal

pub record Takes (z : Size) (f : Writer) (p : Pen) (t : Term) (q : Pen) (u : Term) : Type 0 where
  pub pen_is : (f p).pen ≡ q
  pub term_is : run z (f p).forms t ≡ u

-- ---- terminals and pens by their parts

abbrev pub at : Term → (ℕ → ℕ → CellView) → (ℕ → Bool) → ℕ → ℕ → Attrs → Term
at t C W r c a = record t { cell = C; wrapped = W; row = r; col = c; attrs = a }

abbrev pub pen : ℕ → ℕ → Attrs → Option Erase → Bool → Pen
pen r c a e b = record { pos = record { row = r; col = c }; attrs = a; erase = e; lost = b }

-- ---- flags

-- the flags are V, but that this row may have lost its own where `lost` is set
abbrev pub Flags : (ℕ → Bool) → (ℕ → Bool) → ℕ → Bool → Type 0
Flags F V i lost = (F ≡ V) ⊎ ((lost ≡ true) × (F ≡ update V i false))

abbrev pub kept_or_off : Bool → (ℕ → Bool) → ℕ → ℕ → Bool
kept_or_off b F i = cond (not b) F (update F i false)

pub flags-step : (F V : ℕ → Bool) (i : ℕ) (lost b loses : Bool) → Flags F V i lost → (b ≡ true → loses ≡ true)
    → Flags (kept_or_off b F i) V i (lost || loses)
flags-step F V i lost false loses (inl e) h = inl e
flags-step F V i lost false loses (inr e) h = inr (or_left lost loses e.0, e.1)
flags-step F V i lost true loses (inl e) h = inr (or_right lost loses (h refl), ap (λ G. update G i false) e)
flags-step F V i lost true loses (inr e) h =
    inr (or_right lost loses (h refl), ap (λ G. update G i false) e.1 ∙ update-twice V i false false)

-- the flag of the row above is set, as it is in V
pub flags-above : (F V : ℕ → Bool) (i r : ℕ) (lost : Bool) → r + 1 ≡ i → V r ≡ true → Flags F V i lost
    → Flags (update F r true) V i lost
flags-above F V i r lost next on (inl e) = inl (ap (λ G. update G r true) e ∙ update-kept V r true (sym on))
flags-above F V i r lost next on (inr e) =
    inr (
      e.0,
      ap (λ G. update G r true) e.1 ∙ update-apart V i r false true (λ q. absurd (omega arith))
          ∙ ap (λ G. update G i false) (update-kept V r true (sym on)),
    )

-- ---- one cell is printed

pub text-printed : (z : Size) (t : Term) (x : CellView) → IsCell x → 0 < length x.text → (Contains x.text 0xFE0F → ⊥)
    → x.attrs ≡ t.attrs → span_of x ≤ z.cols
    → apply z (Text x.text) t ≡ printed_cell z x (made_to_fit z (span_of x) t)
unfolding apply
text-printed z t x cell some plain same l =
    (elim x.text as (λ ts. x.text ≡ ts → apply z (Text ts) t ≡ printed_cell z x (made_to_fit z (span_of x) t)) [
      | [] ↦ λ e. let none = ap length e in absurd (omega arith)
      | c ∷ cs ↦ λ e. printed z t x c cs e cell plain same l
    ]) refl

pub fits-here : (z : Size) (n : ℕ) (t : Term) → t.col + n ≤ z.cols → made_to_fit z n t ≡ t
unfolding made_to_fit
fits-here z n t l = rw (le-leb (t.col + n) z.cols l) refl

pub fits-below : (z : Size) (n : ℕ) (t : Term) (C : ℕ → ℕ → CellView) (W : ℕ → Bool) (r c : ℕ) (a : Attrs)
    → z.cols < c + n → r + 1 < z.rows → is_filled (C r (z.cols - 1)) ≡ true
    → made_to_fit z n (at t C W r c a) ≡ at t C (update W r true) (r + 1) 0 a
unfolding made_to_fit wrap
fits-below z n t C W r c a l room full =
    rw (lt-leb (c + n) z.cols l, full) (down-room z (at t C (update W r true) r 0 a) room)

pub print-line : (z : Size) (t : Term) (C : ℕ → ℕ → CellView) (W : ℕ → Bool) (i c : ℕ) (a : Attrs) (f : ℕ → CellView)
    (x : CellView)
    → printed_cell z x (at t (update C i f) W i c a)
    ≡ at t (update C i (put f c x a)) (kept_or_off (put_unflags z.cols f c x) W i) i (c + span_of x) a
unfolding printed_cell with_line
print-line z t C W i c a f x =
    ap (λ g. at t (update (update C i f) i (put g c x a)) (kept_or_off (put_unflags z.cols g c x) W i) i
    (c + span_of x) a) (update-same C i f)
    ∙ ap (λ D. at t D (kept_or_off (put_unflags z.cols f c x) W i) i (c + span_of x) a) (update-twice C i f
    (put f c x a))

pub erase-line : (z : Size) (t : Term) (C : ℕ → ℕ → CellView) (W : ℕ → Bool) (i c e : ℕ) (a : Attrs) (f : ℕ → CellView)
    → erase z e (at t (update C i f) W i c a)
    ≡ at t (update C i (wiped f c e a)) (kept_or_off (wipe_unflags z.cols f c e) W i) i c a
unfolding erase with_line
erase-line z t C W i c e a f =
    ap (λ g. at t (update (update C i f) i (wiped g c e a)) (kept_or_off (wipe_unflags z.cols g c e) W i) i c a)
    (update-same C i f)
    ∙ ap (λ D. at t D (kept_or_off (wipe_unflags z.cols f c e) W i) i c a) (update-twice C i f (wiped f c e a))

-- what can be sent as a form
pub record IsSendable (x : CellView) : Type 0 where
  pub cell : IsCell x
  pub some : 0 < length x.text
  pub plain : Contains x.text 0xFE0F → ⊥

pub takes-print : (z : Size) (t : Term) (C : ℕ → ℕ → CellView) (W : ℕ → Bool) (i c : ℕ) (f : ℕ → CellView)
    (x : CellView) (e : Option Erase) (lost loses : Bool) → IsSendable x → c + span_of x ≤ z.cols
    → Takes z (print x loses) (pen i c x.attrs e lost) (at t (update C i f) W i c x.attrs)
    (pen i (c + span_of x) x.attrs e (lost || loses))
    (at t (update C i (put f c x x.attrs)) (kept_or_off (put_unflags z.cols f c x) W i) i (c + span_of x) x.attrs)
unfolding print
takes-print z t C W i c f x e lost loses s l = record {
  pen_is = refl;
  term_is = text-printed z (at t (update C i f) W i c x.attrs) x s.cell s.some s.plain refl (omega arith)
      ∙ ap (printed_cell z x) (fits-here z (span_of x) (at t (update C i f) W i c x.attrs) l)
      ∙ print-line z t C W i c x.attrs f x;
}

-- ---- a space

pub span-space : (a : Attrs) → span_of (cell_of 32 a) ≡ 1
unfolding char_width
span-space a = refl

no_variation : Contains {X = ℕ} (32 ∷ []) 0xFE0F → ⊥
no_variation h =
    let zero : h.0 ≡ 0 = omega (arith, h.1) in
    let e : 32 ≡ 0xFE0F = ap (λ k. slice_index_or (32 ∷ []) k 0xFE0F) (sym zero) ∙ h.2 in
    absurd (omega (arith, e))

pub sends-space : (a : Attrs) → IsSendable (cell_of 32 a)
sends-space a = record {
  cell = IsCell-space a;
  some = omega arith;
  plain = λ h. no_variation h;
}

-- ---- columns are erased

pub takes-erasing : (z : Size) (t : Term) (C : ℕ → ℕ → CellView) (W : ℕ → Bool) (i c m : ℕ) (f : ℕ → CellView)
    (a : Attrs) (e : Option Erase) (lost loses : Bool) → c + m ≤ z.cols
    → Takes z (erasing m loses) (pen i c a e lost) (at t (update C i f) W i c a) (pen i c a None (lost || loses))
    (at t (update C i (wiped f c (c + m) a)) (kept_or_off (wipe_unflags z.cols f c (c + m)) W i) i c a)
unfolding erasing apply
takes-erasing z t C W i c m f a e lost loses l =
    let up_to : min (c + m) z.cols ≡ c + m = omega arith in
    record {
      pen_is = refl;
      term_is = ap (λ n. erase z n (at t (update C i f) W i c a)) up_to ∙ erase-line z t C W i c (c + m) a f;
    }
