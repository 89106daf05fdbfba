-- A row's writers, read by a terminal on which the row is drawn: what the terminal is then, and which cells they touch.
use Rattle.std.proofs.Common.{◌≡◌, ℕ, ◌+◌, ◌-◌, ◌<◌, ◌≤◌, Bool, true, ◌||◌, Option, Some, None, refl, sym, ap, ◌∙◌}
use Rattle.std.proofs.Common.{subst, arith}
use Rattle.std.proofs.lemmas.Bool.{or_right}
use Rattle.vt100_forms.specs.declared.attrs.Attrs.{Attrs}
use Rattle.vt100_forms.specs.Attrs.{IsProper}
use Rattle.vt100_forms.specs.Form.{Backspace, ClearRowForward}
use Rattle.vt100_cells.specs.Cell.{CellView}
use Rattle.vt100_cells.specs.Line.{span_of, put, put_unflags, wiped, wipe_unflags}
use Rattle.terminal_model.specs.Term.{Term}
use Rattle.terminal_model.specs.Apply.{apply, run}
use Rattle.terminal_model.specs.Touch.{put_touches, wipe_touches, form_touches, Within}
use Rattle.terminal_model.proofs.FormLemmas.{run-joined, moves-lead, change-read}
use Rattle.row_drawing.specs.declared.pen.Erase.{Erase}
use Rattle.row_drawing.specs.declared.pen.Pen.{Pen}
use Rattle.row_drawing.specs.Writer.{Drawn, Writer, ◌>>◌, skip, goto, turn, color, print, back, erasing, clearing}
use Rattle.row_drawing.specs.Writer.{marking}
use Rattle.row_drawing.specs.Scene.{Scene, IsScene, scene_size, with_row}
use Rattle.row_drawing.proofs.Steps.{Takes, pen, kept_or_off, erase-line, IsSendable, takes-print, takes-erasing}
use Rattle.row_drawing.proofs.Touches.{Stays, stays-then, form-idle, erase-within, stays-goto, stays-color}
use Rattle.row_drawing.proofs.Touches.{stays-print, stays-erasing}

-- the writer takes the pen p and the terminal t to q and u, and touches only cells of S
pub record Reads (S : ℕ → ℕ → Type 0) (s : Scene) (f : Writer) (p : Pen) (t : Term) (q : Pen) (u : Term) : Type 0 where
  pub takes : Takes (scene_size s) f p t q u
  pub stays : Stays S (scene_size s) f p t

pub reads-then : {S : ℕ → ℕ → Type 0} {s : Scene} {f g : Writer} {p : Pen} {t : Term} {q : Pen} {u : Term} {r : Pen}
    {v : Term} → Reads S s f p t q u → Reads S s g q u r v → Reads S s (f >> g) p t r v
unfolding ◌>>◌
reads-then {S = S} {s = s} {f = f} {g = g} {p = p} {t = t} {q = q} {u = u} {r = r} {v = v} a b =
    let z = scene_size s in
    record {
      takes = record {
        pen_is = ap (λ x. (g x).pen) a.takes.pen_is ∙ b.takes.pen_is;
        term_is = run-joined z (f p).forms (g (f p).pen).forms t
            ∙ ap (λ x. run z (g x).forms (run z (f p).forms t)) a.takes.pen_is ∙ ap (run z (g q).forms) a.takes.term_is
            ∙ b.takes.term_is;
      };
      stays = stays-then S z f g p t q u a.takes a.stays b.stays;
    }

pub reads-as : {S : ℕ → ℕ → Type 0} {s : Scene} {f g : Writer} {p : Pen} {t : Term} {q : Pen} {u : Term} → g p ≡ f p
    → Reads S s f p t q u → Reads S s g p t q u
reads-as {S = S} {s = s} {f = f} {g = g} {p = p} {t = t} {q = q} {u = u} e a = record {
  takes = record {
    pen_is = ap (λ (x : Drawn). x.pen) e ∙ a.takes.pen_is;
    term_is = ap (λ (x : Drawn). run (scene_size s) x.forms t) e ∙ a.takes.term_is;
  };
  stays = subst (λ (d : Drawn). Within S (scene_size s) d.forms t) (sym e) a.stays;
}

pub reads-to : {S : ℕ → ℕ → Type 0} {s : Scene} {f : Writer} {p : Pen} {t : Term} {q q' : Pen} {u u' : Term} → q ≡ q'
    → u ≡ u' → Reads S s f p t q u → Reads S s f p t q' u'
reads-to {s = s} e g a = record {
  takes = record { pen_is = a.takes.pen_is ∙ e; term_is = a.takes.term_is ∙ g };
  stays = a.stays;
}

-- ---- single forms

pub reads-skip : {S : ℕ → ℕ → Type 0} {s : Scene} {p : Pen} {t : Term} → Reads S s skip p t p t
unfolding skip
reads-skip = record { takes = record { pen_is = refl; term_is = refl }; stays = tt }

pub reads-turn : {S : ℕ → ℕ → Type 0} {s : Scene} {row : ℕ} {p : Pen} {t : Term}
    → Reads S s (turn row) p t (record p { pos = record { row = row; col = 0 } }) t
unfolding turn
reads-turn = record { takes = record { pen_is = refl; term_is = refl }; stays = tt }

pub reads-goto : {S : ℕ → ℕ → Type 0} {s : Scene} {F : ℕ → Bool} {r k : ℕ} {a : Attrs} {e : Option Erase} {b : Bool}
    {col : ℕ} (f : ℕ → CellView) → IsScene s → col < s.row_change.cols
    → Reads S s (goto s.row_change.row col) (pen r k a e b) (with_row s f F r k a) (pen s.row_change.row col a e b)
    (with_row s f F s.row_change.row col a)
unfolding goto
reads-goto {S = S} {s = s} {F = F} {r = r} {k = k} {a = a} {e = e} {b = b} {col = col} f h l =
    let t = with_row s f F r k a in
    record {
      takes = record {
        pen_is = refl;
        term_is = moves-lead (scene_size s) t (record { row = r; col = k })
            (record { row = s.row_change.row; col = col }) refl
            refl h.row_in l;
      };
      stays = stays-goto S (scene_size s) s.row_change.row col (pen r k a e b) t refl h.row_in;
    }

pub reads-color : {S : ℕ → ℕ → Type 0} {s : Scene} {F : ℕ → Bool} {r k i l : ℕ} {a : Attrs} {e : Option Erase}
    {b : Bool} {x : Attrs} (f : ℕ → CellView) → IsProper a → IsProper x
    → Reads S s (color x) (pen i l a e b) (with_row s f F r k a) (pen i l x e b) (with_row s f F r k x)
unfolding color
reads-color {S = S} {s = s} {F = F} {r = r} {k = k} {i = i} {l = l} {a = a} {e = e} {b = b} {x = x} f h g =
    let t = with_row s f F r k a in
    record {
      takes = record { pen_is = refl; term_is = change-read (scene_size s) t a x refl h g };
      stays = stays-color S (scene_size s) x (pen i l a e b) t;
    }

pub reads-back : {S : ℕ → ℕ → Type 0} {s : Scene} {F : ℕ → Bool} {r c : ℕ} {a : Attrs} {e : Option Erase} {b : Bool}
    (f : ℕ → CellView)
    → Reads S s back (pen r c a e b) (with_row s f F r c a) (pen r (c - 1) a e b) (with_row s f F r (c - 1) a)
unfolding back apply form_touches
reads-back {S = S} {s = s} {F = F} {r = r} {c = c} {a = a} f = record {
  takes = record { pen_is = refl; term_is = refl };
  stays = form-idle S (scene_size s) Backspace (with_row s f F r c a) (λ r k. refl);
}

pub reads-marking : {S : ℕ → ℕ → Type 0} {s : Scene} {t : Term} {n r k : ℕ} {a x : Attrs} {b : Bool}
    → Reads S s (marking n x) (pen r k a None b) t (pen r k a (Some (record { from = n; attrs = x })) b) t
unfolding marking
reads-marking = record { takes = record { pen_is = refl; term_is = refl }; stays = tt }

pub reads-print : {S : ℕ → ℕ → Type 0} {s : Scene} {F : ℕ → Bool} {c : ℕ} {x : CellView} {e : Option Erase}
    {lost : Bool} (f : ℕ → CellView) (b : Bool) → IsSendable x → c + span_of x ≤ s.row_change.cols
    → ((k : ℕ) → k < s.row_change.cols → put_touches f c x k ≡ true → S s.row_change.row k)
    → Reads S s (print x b) (pen s.row_change.row c x.attrs e lost) (with_row s f F s.row_change.row c x.attrs)
    (pen s.row_change.row (c + span_of x) x.attrs e (lost || b))
    (with_row s (put f c x x.attrs) (kept_or_off (put_unflags s.row_change.cols f c x) F s.row_change.row)
    s.row_change.row (c + span_of x)
    x.attrs)
reads-print {S = S} {s = s} {F = F} {c = c} {x = x} {e = e} {lost = lost} f b send l h = record {
  takes = takes-print (scene_size s) s.term s.cells F s.row_change.row c f x e lost b send l;
  stays = stays-print S (scene_size s) s.term s.cells F s.row_change.row c x.attrs f x b (pen s.row_change.row c x.attrs
      e lost) send l
      h;
}

-- the columns from c up to n are erased
pub reads-erasing : {S : ℕ → ℕ → Type 0} {s : Scene} {F : ℕ → Bool} {c : ℕ} {a : Attrs} {e : Option Erase}
    {lost : Bool} (f : ℕ → CellView) (m : ℕ) (b : Bool) (n : ℕ) → c + m ≡ n → n ≤ s.row_change.cols
    → ((k : ℕ) → k < s.row_change.cols → wipe_touches f c n k ≡ true → S s.row_change.row k)
    → Reads S s (erasing m b) (pen s.row_change.row c a e lost) (with_row s f F s.row_change.row c a)
    (pen s.row_change.row c a None (lost || b))
    (with_row s (wiped f c n a) (kept_or_off (wipe_unflags s.row_change.cols f c n) F s.row_change.row) s.row_change.row
    c a)
reads-erasing {S = S} {s = s} {F = F} {c = c} {a = a} {e = e} {lost = lost} f m b n is l h =
    let z = scene_size s in
    let p = pen s.row_change.row c a e lost in
    record {
      takes = subst (λ i. Takes z (erasing m b) p (with_row s f F s.row_change.row c a) (pen s.row_change.row c a None
          (lost || b))
          (with_row s (wiped f c i a) (kept_or_off (wipe_unflags s.row_change.cols f c i) F s.row_change.row)
          s.row_change.row c a)) is
          (takes-erasing z s.term s.cells F s.row_change.row c m f a e lost b (omega (arith, is, l)));
      stays = stays-erasing S z s.term s.cells F s.row_change.row c m n a f b p is l h;
    }

pub reads-clearing : {S : ℕ → ℕ → Type 0} {s : Scene} {F : ℕ → Bool} {c : ℕ} {a : Attrs} {e : Option Erase}
    {lost : Bool} (f : ℕ → CellView)
    → ((k : ℕ) → k < s.row_change.cols → wipe_touches f c s.row_change.cols k ≡ true → S s.row_change.row k)
    → Reads S s clearing (pen s.row_change.row c a e lost) (with_row s f F s.row_change.row c a)
    (pen s.row_change.row c a None (lost || true))
    (with_row s (wiped f c s.row_change.cols a) (kept_or_off (wipe_unflags s.row_change.cols f c s.row_change.cols) F
    s.row_change.row) s.row_change.row c
    a)
unfolding clearing apply form_touches
reads-clearing {S = S} {s = s} {F = F} {c = c} {a = a} {e = e} {lost = lost} f h =
    let z = scene_size s in
    reads-to (ap (pen s.row_change.row c a None) (sym (or_right lost true refl))) refl (record {
      takes = record {
        pen_is = refl;
        term_is = erase-line z s.term s.cells F s.row_change.row c s.row_change.cols a f;
      };
      stays = erase-within S z ClearRowForward s.term s.cells F s.row_change.row c s.row_change.cols a f (λ r k. refl)
          h;
    })

-- ---- what is true after a writer

pub record Ends (S : ℕ → ℕ → Type 0) (s : Scene) (P : Pen → Term → Type 0) (f : Writer) (p : Pen) (t : Term)
    : Type 0 where
  pub there : P (f p).pen (run (scene_size s) (f p).forms t)
  pub stays : Stays S (scene_size s) f p t

pub ends : {S : ℕ → ℕ → Type 0} {s : Scene} {f : Writer} {p : Pen} {t : Term} {q : Pen} {u : Term}
    {P : Pen → Term → Type 0} → Reads S s f p t q u → P q u → Ends S s P f p t
ends {f = f} {p = p} {u = u} {P = P} a h = record {
  there = subst (P (f p).pen) (sym a.takes.term_is) (subst (λ (x : Pen). P x u) (sym a.takes.pen_is) h);
  stays = a.stays;
}

pub ends-as : {S : ℕ → ℕ → Type 0} {s : Scene} {f g : Writer} {p : Pen} {t : Term} {P : Pen → Term → Type 0}
    → g p ≡ f p → Ends S s P f p t → Ends S s P g p t
ends-as {S = S} {s = s} {f = f} {g = g} {p = p} {t = t} {P = P} e a = record {
  there = subst (λ (d : Drawn). P d.pen (run (scene_size s) d.forms t)) (sym e) a.there;
  stays = subst (λ (d : Drawn). Within S (scene_size s) d.forms t) (sym e) a.stays;
}

pub ends-then : {S : ℕ → ℕ → Type 0} {s : Scene} {f g : Writer} {p : Pen} {t : Term} {q : Pen} {u : Term}
    {P : Pen → Term → Type 0} → Reads S s f p t q u → Ends S s P g q u → Ends S s P (f >> g) p t
ends-then {S = S} {s = s} {g = g} {q = q} {u = u} {P = P} a b =
    let rest : Reads S s g q u (g q).pen (run (scene_size s) (g q).forms u) =
    record { takes = record { pen_is = refl; term_is = refl }; stays = b.stays } in
    ends {P = P} (reads-then a rest) b.there

-- after a writer that touches nothing else
pub ends-next : {S : ℕ → ℕ → Type 0} {s : Scene} {g : Writer} {p : Pen} {t : Term} {P : Pen → Term → Type 0}
    (f : Writer)
    → Stays S (scene_size s) f p t → Ends S s P g (f p).pen (run (scene_size s) (f p).forms t)
    → Ends S s P (f >> g) p t
ends-next {S = S} {s = s} {p = p} {t = t} {P = P} f a b =
    let first : Reads S s f p t (f p).pen (run (scene_size s) (f p).forms t) =
    record { takes = record { pen_is = refl; term_is = refl }; stays = a } in
    ends-then {P = P} first b
