-- A cell that a form doesn't touch stays.
use Rattle.std.proofs.Common.{◌≡◌, ℕ, ◌+◌, ◌-◌, ◌==◌, Bool, true, false, cond, ◌&&◌, ◌||◌, nat_lt, nat_le, List, []}
use Rattle.std.proofs.Common.{◌∷◌, min, sym, refl, ap, ◌∙◌, arith, ◌++◌}
use Rattle.std.proofs.lemmas.Bool.{false≢true, cond_both, eqb-true, lt-ltb}
use Rattle.std.proofs.lemmas.Bool.Decides.{nat_tests}
use Rattle.vt100_forms.specs.declared.attrs.Attrs.{Attrs}
use Rattle.vt100_forms.specs.Form.{Form, Text, MoveRight, EraseChar, ClearRowForward, ClearScreen, Crlf, Lf}
use Rattle.vt100_cells.specs.Cell.{CellView, columns_of, cell_of, appended_in_place}
use Rattle.vt100_cells.specs.Line.{put, wiped, base_col}
use Rattle.terminal_model.specs.Position.{update}
use Rattle.terminal_model.specs.Term.{Size, Term}
use Rattle.terminal_model.specs.Apply.{with_line, erase, print, join, down, wrap, made_to_fit, is_dropped, input}
use Rattle.terminal_model.specs.Apply.{inputs}
use Rattle.terminal_model.specs.Apply.{apply, run}
use Rattle.terminal_model.specs.Touch.{put_touches, wipe_touches, is_last_row, input_touches, inputs_touch}
use Rattle.terminal_model.specs.Touch.{form_touches}
use Rattle.terminal_model.specs.Touch.{touches, Within}
use Rattle.terminal_model.specs.Laws.{EachUntouchedCellStays}
use Rattle.terminal_model.proofs.TermLemmas.{neither}

-- ---- a line

put-untouched : (f : ℕ → CellView) (i : ℕ) (x : CellView) (a : Attrs) (k : ℕ) → put_touches f i x k ≡ false
    → put f i x a k ≡ f k
put-untouched f i x a k h = grind (arith, nat_tests)

wiped-untouched : (f : ℕ → CellView) (s e : ℕ) (a : Attrs) (k : ℕ) → wipe_touches f s e k ≡ false
    → wiped f s e a k ≡ f k
wiped-untouched f s e a k h = grind (arith, nat_tests)

-- another line in the cursor's row
line-untouched : (t : Term) (g : ℕ → CellView) (stays : Bool) (b : Bool) (r k : ℕ) → ((r == t.row) && b) ≡ false
    → (b ≡ false → g k ≡ t.cell t.row k) → (with_line t g stays).cell r k ≡ t.cell r k
unfolding with_line update
line-untouched t g stays b r k h same =
    (elim (r == t.row) as (λ c. (r == t.row) ≡ c → (c && b) ≡ false → cond c g (t.cell r) k ≡ t.cell r k) [
      | true ↦ λ e q. same q ∙ ap (λ j. t.cell j k) (sym (eqb-true r t.row e))
      | false ↦ λ e q. refl
    ]) refl h

erase-untouched : (z : Size) (e : ℕ) (t : Term) (r k : ℕ)
    → ((r == t.row) && wipe_touches (t.cell t.row) t.col e k) ≡ false → (erase z e t).cell r k ≡ t.cell r k
unfolding erase
erase-untouched z e t r k h = line-untouched t (wiped (t.cell t.row) t.col e t.attrs) _
    (wipe_touches (t.cell t.row) t.col e k) r k h (λ q. wiped-untouched (t.cell t.row) t.col e t.attrs k q)

print-untouched : (z : Size) (x : CellView) (t : Term) (r k : ℕ)
    → ((r == t.row) && put_touches (t.cell t.row) t.col x k) ≡ false → (print z x t).cell r k ≡ t.cell r k
unfolding print
print-untouched z x t r k h = line-untouched t (put (t.cell t.row) t.col x t.attrs) _
    (put_touches (t.cell t.row) t.col x k) r k h (λ q. put-untouched (t.cell t.row) t.col x t.attrs k q)

update-untouched : (f : ℕ → CellView) (i : ℕ) (x : CellView) (k : ℕ) → (k == i) ≡ false → update f i x k ≡ f k
unfolding update
update-untouched f i x k h = ap (λ b. cond b x (f k)) h

join-untouched : (c : ℕ) (t : Term) (r k : ℕ) → ((r == t.row) && (k == base_col (t.cell t.row) t.col)) ≡ false
    → (join c t).cell r k ≡ t.cell r k
unfolding join
join-untouched c t r k h =
    let f = t.cell t.row in
    let i = base_col f t.col in
    line-untouched t (update f i (appended_in_place (f i) c)) true (k == i) r k h
    (λ q. update-untouched f i (appended_in_place (f i) c) k q)

-- ---- the next row

room_below : (z : Size) (t : Term) → is_last_row z t ≡ false → nat_lt (t.row + 1) z.rows ≡ true
room_below z t h = grind (arith, nat_tests)

down-untouched : (z : Size) (t : Term) (r k : ℕ) → is_last_row z t ≡ false → (down z t).cell r k ≡ t.cell r k
unfolding down
down-untouched z t r k h = rw (room_below z t h) refl

-- a terminal that has wrapped, if it doesn't scroll
wrap-is : (z : Size) (t : Term) → is_last_row z t ≡ false → ((wrap z t).cell ≡ t.cell) × ((wrap z t).row ≡ t.row + 1)
    × ((wrap z t).col ≡ 0) × ((wrap z t).attrs ≡ t.attrs)
unfolding wrap down
wrap-is z t h = let room = room_below z t h in (rw room refl, rw room refl, rw room refl, rw room refl)

-- ---- characters

input-untouched : (z : Size) (c : ℕ) (t : Term) (r k : ℕ) → input_touches z c t r k ≡ false
    → (input z c t).cell r k ≡ t.cell r k
unfolding input input_touches made_to_fit
input-untouched z c t r k h =
    let spaced = (r == t.row) && put_touches (t.cell t.row) t.col (cell_of c t.attrs) k in
    let wrapped = is_last_row z t || ((r == (t.row + 1)) && put_touches (t.cell (t.row + 1)) 0 (cell_of c t.attrs) k) in
    let joined = (r == t.row) && (k == base_col (t.cell t.row) t.col) in
    let x = cell_of c t.attrs in
    let Stays : Term → Type 0 = λ u. u.cell r k ≡ t.cell r k in
    (elim (is_dropped z.cols t.col c) as (λ b. cond b false
    (cond (columns_of c == 0) joined (cond (nat_le (t.col + columns_of c) z.cols) spaced wrapped)) ≡ false
    → Stays (cond b t (cond (columns_of c == 0) (join c t)
    (print z x (cond (nat_le (t.col + columns_of c) z.cols) t (wrap z t)))))) [
      | true ↦ λ q. refl
      | false ↦ λ q.
          (elim (columns_of c == 0) as (λ b. cond b joined (cond (nat_le (t.col + columns_of c) z.cols) spaced wrapped)
          ≡ false
          → Stays (cond b (join c t) (print z x (cond (nat_le (t.col + columns_of c) z.cols) t (wrap z t))))) [
            | true ↦ λ p. join-untouched c t r k p
            | false ↦ λ p.
                (elim (nat_le (t.col + columns_of c) z.cols) as (λ b. cond b spaced wrapped ≡ false
                → Stays (print z x (cond b t (wrap z t)))) [
                  | true ↦ λ o. print-untouched z x t r k o
                  | false ↦ λ o.
                      let parts = neither (is_last_row z t) _ o in
                      let u = wrap z t in
                      let w = wrap-is z t parts.0 in
                      let same : ((r == u.row) && put_touches (u.cell u.row) u.col x k) ≡ false =
                      (λ i. (r == w.1 i) && put_touches (w.0 i (w.1 i)) (w.2 i) x k) ∙ parts.1 in
                      print-untouched z x u r k same ∙ ap (λ C. C r k) w.0
                ]) p
          ]) q
    ]) h

inputs-untouched : (z : Size) (cs : List ℕ) (t : Term) (r k : ℕ) → inputs_touch z cs t r k ≡ false
    → (inputs z cs t).cell r k ≡ t.cell r k
inputs-untouched z [] t r k h = refl
inputs-untouched z (c ∷ cs) t r k h =
    let parts = neither (input_touches z c t r k) (inputs_touch z cs (input z c t) r k) h in
    inputs-untouched z cs (input z c t) r k parts.1 ∙ input-untouched z c t r k parts.0

-- ---- forms

form-untouched : (z : Size) (f : Form) (t : Term) (r k : ℕ) → form_touches z f t r k ≡ false
    → (apply z f t).cell r k ≡ t.cell r k
unfolding apply form_touches
form-untouched z (Text cs) t r k h = inputs-untouched z cs t r k h
form-untouched z (MoveRight n) t r k h = cond_both (n == 0) t (record t { col = min (t.col + n) (z.cols - 1) })
    (λ (u : Term). u.cell r k ≡ t.cell r k) (λ _. refl) (λ _. refl)
form-untouched z (EraseChar n) t r k h = erase-untouched z (min (t.col + n) z.cols) t r k h
form-untouched z ClearRowForward t r k h = erase-untouched z z.cols t r k h
form-untouched z ClearScreen t r k h = absurd (false≢true (sym h))
form-untouched z Crlf t r k h = down-untouched z (record t { col = 0 }) r k h
form-untouched z Lf t r k h = down-untouched z t r k h
form-untouched z f t r k h = refl

pub cell-untouched : EachUntouchedCellStays
unfolding touches
cell-untouched z f t r k hr hk h =
    form-untouched z f t r k
    (ap (λ b. b && form_touches z f t r k) (sym (lt-ltb k z.cols hk))
    ∙ ap (λ b. (b && nat_lt k z.cols) && form_touches z f t r k) (sym (lt-ltb r z.rows hr)) ∙ h)

-- ---- lists of forms

pub within-joined : (S : ℕ → ℕ → Type 0) (z : Size) (fs gs : List Form) (t : Term) → Within S z fs t
    → Within S z gs (run z fs t) → Within S z (fs ++ gs) t
within-joined S z [] gs t a b = b
within-joined S z (f ∷ fs) gs t a b = (a.0, within-joined S z fs gs (apply z f t) a.1 b)

-- a larger set
pub within-more : (S T : ℕ → ℕ → Type 0) (z : Size) (fs : List Form) (t : Term) → ((r k : ℕ) → S r k → T r k)
    → Within S z fs t → Within T z fs t
within-more S T z [] t h w = tt
within-more S T z (f ∷ fs) t h w = (λ r k e. h r k (w.0 r k e), within-more S T z fs (apply z f t) h w.1)
