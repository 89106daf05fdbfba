-- A picture's steps, put together.
use Rattle.std.proofs.Common.{◌≡◌, ℕ, ◌+◌, ◌<◌, ◌≤◌, ◌==◌, Bool, true, false, cond, ◌&&◌, ◌||◌, nat_lt, nat_le}
use Rattle.std.proofs.Common.{Some, None, sym, refl, ap, ◌∙◌, arith}
use Rattle.std.proofs.lemmas.Bool.{cond_both, cond-true, cond-false, lt-ltb, le-ltb, ne_eqb, eq-eqb}
use Rattle.std.proofs.Math.Bool.{or-true}
use Rattle.vt100_cells.specs.Cell.{cell_of, columns_of, is_undrawable, drawn_columns}
use Rattle.vt100_cells.proofs.WidthLemmas.{drawn-is}
use Rattle.terminal_model.specs.Term.{Size, Term}
use Rattle.terminal_model.specs.Apply.{print, join, down, wrap, made_to_fit, is_dropped, input}
use Rattle.termview.specs.Step.{printed, flag_above}
use Rattle.termview.specs.Picture.{PictureView, term_of_picture, Becomes}
use Rattle.termview.proofs.TermSteps.{wraps-flagged, wraps-gone, fits-here, wraps-here}

-- ---- the next row

wrap-col : (z : Size) (t : Term) → (wrap z t).col ≡ 0
unfolding wrap down
wrap-col z t = cond_both (nat_lt (t.row + 1) z.rows) _ _ (λ (s : Term). s.col ≡ 0) (λ _. refl) (λ _. refl)

pub starts : (p q : PictureView) → Becomes p q (wrap p.size (term_of_picture p)) → q.col ≡ 0
starts p q b = ap (λ (t : Term). t.col) b.shows ∙ wrap-col p.size (term_of_picture p)

-- the cursor at the row's start, a row down, and the row above it flagged
pub wraps-to : (p q r : PictureView) → p.row < p.size.rows
    → Becomes (record p { col = 0 }) q (down p.size (term_of_picture (record p { col = 0 }))) → 0 < q.row
    → Becomes q r (flag_above q.size (term_of_picture q)) → Becomes p r (wrap p.size (term_of_picture p))
wraps-to p q r l b h d =
    let t = term_of_picture p in
    let row : q.row ≡ (down p.size (record t { col = 0 })).row = ap (λ (s : Term). s.row) b.shows in
    record {
      size = d.size ∙ b.size;
      shows = d.shows ∙ ap (λ z. flag_above z (term_of_picture q)) b.size ∙ ap (flag_above p.size) b.shows
          ∙ wraps-flagged p.size t l (omega (arith, row));
    }

pub wraps-alone : (p q : PictureView) → p.row < p.size.rows
    → Becomes (record p { col = 0 }) q (down p.size (term_of_picture (record p { col = 0 }))) → q.row ≤ 0
    → Becomes p q (wrap p.size (term_of_picture p))
wraps-alone p q l b h =
    let t = term_of_picture p in
    let row : q.row ≡ (down p.size (record t { col = 0 })).row = ap (λ (s : Term). s.row) b.shows in
    record { size = b.size; shows = b.shows ∙ wraps-gone p.size t l (omega (arith, row)) }

-- ---- room

pub room-there : (p : PictureView) (n : ℕ) → p.col + n ≤ p.size.cols
    → Becomes p p (made_to_fit p.size n (term_of_picture p))
room-there p n h = record { size = refl; shows = fits-here p.size n (term_of_picture p) h }

pub room-made : (p q : PictureView) (n : ℕ) → p.size.cols < p.col + n → Becomes p q (wrap p.size (term_of_picture p))
    → Becomes p q (made_to_fit p.size n (term_of_picture p))
room-made p q n h b = record { size = b.size; shows = b.shows ∙ wraps-here p.size n (term_of_picture p) h }

-- ---- characters

input-dropped : (z : Size) (c : ℕ) (t : Term) → is_dropped z.cols t.col c ≡ true → t ≡ input z c t
unfolding input
input-dropped z c t e = sym (cond-true (is_dropped z.cols t.col c) t _ e)

input-joined : (z : Size) (c : ℕ) (t : Term) → is_dropped z.cols t.col c ≡ false → columns_of c ≡ 0
    → join c t ≡ input z c t
unfolding input
input-joined z c t e k =
    sym (cond-false (is_dropped z.cols t.col c) t _ e
    ∙ cond-true (columns_of c == 0) (join c t) _ (eq-eqb (columns_of c) 0 k))

input-spaced : (z : Size) (c : ℕ) (t : Term) → is_dropped z.cols t.col c ≡ false → 0 < columns_of c
    → print z (cell_of c t.attrs) (made_to_fit z (columns_of c) t) ≡ input z c t
unfolding input
input-spaced z c t e h =
    sym (cond-false (is_dropped z.cols t.col c) t _ e
    ∙ cond-false (columns_of c == 0) (join c t) _ (ne_eqb (columns_of c) 0 (λ k. absurd (omega (arith, k)))))

is_none : (b : Bool) (n : ℕ) → cond b None (Some n) ≡ None → b ≡ true
is_none true n e = refl
is_none false n e = cc

-- a control character
pub drops-control : (p : PictureView) (c : ℕ) → drawn_columns c ≡ None
    → Becomes p p (input p.size c (term_of_picture p))
drops-control p c e =
    let b : is_undrawable c ≡ true = is_none (is_undrawable c) (columns_of c) e in
    record {
      size = refl;
      shows = input-dropped p.size c (term_of_picture p)
          (ap (λ x. x || (nat_lt p.size.cols (columns_of c) || ((columns_of c == 0) && (p.col == 0)))) b);
    }

-- a character that is wider than the screen
pub drops-wide : (p : PictureView) (c n : ℕ) → drawn_columns c ≡ Some n → p.size.cols < n
    → Becomes p p (input p.size c (term_of_picture p))
drops-wide p c n e h =
    let d = drawn-is c n e in
    let b : nat_lt p.size.cols (columns_of c) ≡ true = lt-ltb p.size.cols (columns_of c) (omega (arith, d.1)) in
    record {
      size = refl;
      shows = input-dropped p.size c (term_of_picture p)
          (ap (λ x. is_undrawable c || (x || ((columns_of c == 0) && (p.col == 0)))) b
          ∙ or-true (is_undrawable c));
    }

-- a zero-width character at the first column
pub drops-first : (p : PictureView) (c : ℕ) → drawn_columns c ≡ Some 0 → p.col ≤ 0
    → Becomes p p (input p.size c (term_of_picture p))
drops-first p c e h =
    let d = drawn-is c 0 e in
    let none : (columns_of c == 0) ≡ true = eq-eqb (columns_of c) 0 d.1 in
    let first : (p.col == 0) ≡ true = eq-eqb p.col 0 (omega arith) in
    record {
      size = refl;
      shows = input-dropped p.size c (term_of_picture p)
          (ap (λ x. is_undrawable c || (nat_lt p.size.cols (columns_of c) || (x && (p.col == 0)))) none
          ∙ ap (λ x. is_undrawable c || (nat_lt p.size.cols (columns_of c) || x)) first
          ∙ ap (λ x. is_undrawable c || x) (or-true (nat_lt p.size.cols (columns_of c)))
          ∙ or-true (is_undrawable c));
    }

stays : (w col c : ℕ) (n : ℕ) → drawn_columns c ≡ Some n → n ≤ w → ((n == 0) && (col == 0)) ≡ false
    → is_dropped w col c ≡ false
stays w col c n e h o =
    let d = drawn-is c n e in
    ap (λ x. x || (nat_lt w (columns_of c) || ((columns_of c == 0) && (col == 0)))) d.0
    ∙ ap (λ m. nat_lt w m || ((m == 0) && (col == 0))) d.1
    ∙ ap (λ x. x || ((n == 0) && (col == 0))) (le-ltb w n h)
    ∙ o

-- a zero-width character joins a cell
pub joins-left : (p q : PictureView) (c : ℕ) → drawn_columns c ≡ Some 0 → 0 < p.col
    → Becomes p q (join c (term_of_picture p))
    → Becomes p q (input p.size c (term_of_picture p))
joins-left p q c e h b =
    let d = drawn-is c 0 e in
    let later : (p.col == 0) ≡ false = ne_eqb p.col 0 (λ k. absurd (omega (arith, k))) in
    record {
      size = b.size;
      shows = b.shows
          ∙ input-joined p.size c (term_of_picture p) (stays p.size.cols p.col c 0 e (omega arith) later) d.1;
    }

made-attrs : (z : Size) (n : ℕ) (t : Term) → (made_to_fit z n t).attrs ≡ t.attrs
unfolding made_to_fit wrap down
made-attrs z n t =
    cond_both (nat_le (t.col + n) z.cols) t _ (λ (s : Term). s.attrs ≡ t.attrs) (λ _. refl)
    (λ _. cond_both (nat_lt (t.row + 1) z.rows) _ _ (λ (s : Term). s.attrs ≡ t.attrs) (λ _. refl) (λ _. refl))

-- a character of one or two columns is put where it has room
pub prints : (p q r : PictureView) (c n : ℕ) → drawn_columns c ≡ Some n → 0 < n → n ≤ p.size.cols
    → Becomes p q (made_to_fit p.size n (term_of_picture p))
    → Becomes q r (print q.size (cell_of c q.attrs) (term_of_picture q))
    → Becomes p r (input p.size c (term_of_picture p))
prints p q r c n e some h b d =
    let w = drawn-is c n e in
    let t = term_of_picture p in
    let kept : q.attrs ≡ p.attrs = ap (λ (s : Term). s.attrs) b.shows ∙ made-attrs p.size n t in
    let not_none : (n == 0) ≡ false = ne_eqb n 0 (λ k. absurd (omega (arith, k))) in
    record {
      size = d.size ∙ b.size;
      shows =
          d.shows
          ∙ ap (λ z. print z (cell_of c q.attrs) (term_of_picture q)) b.size
          ∙ ap (λ a. print p.size (cell_of c a) (term_of_picture q)) kept
          ∙ ap (print p.size (cell_of c p.attrs)) b.shows
          ∙ ap (λ m. print p.size (cell_of c p.attrs) (made_to_fit p.size m t)) (sym w.1)
          ∙ input-spaced p.size c t
          (stays p.size.cols p.col c n e h (ap (λ x. x && (p.col == 0)) not_none)) (omega (arith, w.1));
    }

-- ---- U+FFFD

pub unread : (p : PictureView) (c : ℕ) → c ≡ 0xFFFD → Becomes p p (printed p.size c (term_of_picture p))
unfolding printed
unread p c e = record { size = refl; shows = sym (cond-true (c == 0xFFFD) (term_of_picture p) _ (eq-eqb c 0xFFFD e)) }

pub read : (p q : PictureView) (c : ℕ) → (c ≡ 0xFFFD → ⊥) → Becomes p q (input p.size c (term_of_picture p))
    → Becomes p q (printed p.size c (term_of_picture p))
unfolding printed
read p q c ne b = record {
  size = b.size;
  shows = b.shows ∙ sym (cond-false (c == 0xFFFD) (term_of_picture p) _ (ne_eqb c 0xFFFD ne));
}
