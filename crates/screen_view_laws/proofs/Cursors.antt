-- Forms that move, save and restore the cursor.
use Rattle.std.proofs.Common.{◌≡◌, ℕ, ◌+◌, ◌-◌, ◌^◌, ◌<◌, ◌≤◌, ◌==◌, true, false, cond, ◌&&◌, List, [], ◌∷◌, min}
use Rattle.std.proofs.Common.{nat_eq, refl, sym, ap, subst, ◌∙◌, arith}
use Rattle.std.proofs.lemmas.Bool.{cond_both, ne_eqb, eqb-true, and_parts}
use Rattle.std.proofs.lemmas.Bool.Decides.{nat_tests}
use Rattle.vt100_forms.specs.Form.{MoveTo, MoveRight, Backspace, SaveCursor, RestoreCursor}
use Rattle.terminal_model.specs.Apply.{apply}
use Rattle.forms_read.specs.Events.{kept_number, sequence, bare, events_of}
use Rattle.vt100_core.specs.Grid.{GridView}
use Rattle.vt100_core.specs.Cursor.{cursor_saved, cursor_restored}
use Rattle.screen_model.specs.State.{State}
use Rattle.screen_model.specs.Step.{with_shown, at_place, moved_right}
use Rattle.screen_model.specs.Effect.{number_or}
use Rattle.screen_model.specs.Made.{played}
use Rattle.screen_view_laws.specs.Plain.{terminal_of, size_shown, IsPlainGrid, IsPlainState}
use Rattle.screen_view_laws.specs.StateLaws.{Shows}
use Rattle.screen_view_laws.proofs.PlainStates.{plain-as, shows-same}

-- the cursor is at another place
abbrev pub moved : State → ℕ → ℕ → State
moved s r c = with_shown s (record (s.shown) { row = r; col = c })

pub plain-moved : (g : GridView) (r c : ℕ) → IsPlainGrid g → r < g.height → c ≤ g.width
    → IsPlainGrid (record g { row = r; col = c })
plain-moved g r c p h k =
    plain-as g (record g { row = r; col = c }) p p.sheet p.some h k p.saved_row p.saved_col p.origin p.saved_origin
    p.offset

pub shows-moved : (s : State) (r c : ℕ) → IsPlainState s → r < s.shown.height → c ≤ s.shown.width
    → Shows s (record (terminal_of s) { row = r; col = c }) (moved s r c)
shows-moved s r c p h k = record { shows = refl; size = refl; plain = (p.0, plain-moved s.shown r c p.1 h k) }

-- ---- to a place

-- a place that is sent, counted from 1, and read back
read-place : (r n : ℕ) (gs : List (List ℕ)) → n < 2 ^ 16
    → min (number_or 1 ((kept_number (r + 1) ∷ []) ∷ gs) - 1) (n - 1) ≡ min r (n - 1)
read-place r n gs h =
    let some : nat_eq (kept_number (r + 1)) 0 ≡ false = ne_eqb (kept_number (r + 1)) 0 (λ e. absurd (omega (arith, e)))
    in
    ap (λ b. min (cond b 1 (kept_number (r + 1)) - 1) (n - 1)) some ∙ omega (arith, h)

pub placed-at : (s : State) (p q r c : ℕ) → s.shown.origin ≡ false → min p (s.shown.height - 1) ≡ r
    → min q (s.shown.width - 1) ≡ c → at_place p q s ≡ moved s r c
placed-at s p q r c o e f =
    let g = s.shown in
    ap (λ b. with_shown s (record g {
      row = cond b (min (p + g.top) g.bottom) (min p (g.height - 1));
      col = min q (g.width - 1);
    })) o
    ∙ (λ i. moved s (e i) (f i))

shows-placed : (s : State) (p q r c : ℕ) → IsPlainState s → min p (s.shown.height - 1) ≡ min r (s.shown.height - 1)
    → min q (s.shown.width - 1) ≡ min c (s.shown.width - 1)
    → Shows s (apply (size_shown s) (MoveTo r c) (terminal_of s)) (at_place p q s)
unfolding apply
shows-placed s p q r c h e f =
    let g = s.shown in
    let k = h.1 in
    subst (Shows s _) (sym (placed-at s p q (min r (g.height - 1)) (min c (g.width - 1)) k.origin e f))
    (shows-moved s (min r (g.height - 1)) (min c (g.width - 1)) h (omega (arith, k.cursor_row))
    (omega (arith, k.some_cols)))

pub shows-MoveTo : (s : State) (r c : ℕ) → IsPlainState s
    → Shows s (apply (size_shown s) (MoveTo r c) (terminal_of s)) (played (events_of (MoveTo r c)) s)
shows-MoveTo s r c h =
    let k = h.1 in
    cond_both ((r == 0) && (c == 0)) (bare 0x48 ∷ []) (sequence [] ((r + 1) ∷ (c + 1) ∷ []) 0x48 ∷ [])
    (λ es. Shows s (apply (size_shown s) (MoveTo r c) (terminal_of s)) (played es s))
    (λ e. let parts = and_parts (r == 0) (c == 0) e in
    let row = eqb-true r 0 parts.0 in
    let col = eqb-true c 0 parts.1 in
    shows-placed s 0 0 r c h (ap (λ n. min n (s.shown.height - 1)) (sym row))
    (ap (λ n. min n (s.shown.width - 1)) (sym col)))
    (λ _. shows-placed s (number_or 1 ((kept_number (r + 1) ∷ []) ∷ (kept_number (c + 1) ∷ []) ∷ []) - 1)
    (number_or 1 ((kept_number (c + 1) ∷ []) ∷ []) - 1) r c h
    (read-place r s.shown.height ((kept_number (c + 1) ∷ []) ∷ []) k.few_rows)
    (read-place c s.shown.width [] k.few_cols))

-- ---- to the right, and to the left

pub read-count : (n m : ℕ) → 0 < n → cond (nat_eq (kept_number n) 0) m (kept_number n) ≡ kept_number n
read-count n m h =
    ap (λ b. cond b m (kept_number n)) (ne_eqb (kept_number n) 0 (λ e. absurd (omega (arith, e, h))))

pub nonzero : (n : ℕ) → (n == 0) ≡ false → 0 < n
nonzero n h = grind (arith, nat_tests)

shows-right : (s : State) (m n : ℕ) → IsPlainState s → 0 < n
    → min (s.shown.col + m) (s.shown.width - 1) ≡ min (s.shown.col + n) (s.shown.width - 1)
    → Shows s (record (terminal_of s) { col = min (s.shown.col + n) (s.shown.width - 1) }) (moved_right m s)
shows-right s m n h some e =
    let g = s.shown in
    subst (Shows s _) (sym (ap (moved s g.row) e))
    (shows-moved s g.row (min (g.col + n) (g.width - 1)) h h.1.cursor_row (omega (arith, h.1.some_cols)))

pub shows-MoveRight : (s : State) (n : ℕ) → IsPlainState s
    → Shows s (apply (size_shown s) (MoveRight n) (terminal_of s)) (played (events_of (MoveRight n)) s)
unfolding apply
shows-MoveRight s n h =
    let g = s.shown in
    let t = terminal_of s in
    let right = record t { col = min (g.col + n) (g.width - 1) } in
    (elim (n == 0) as (λ b. (n == 0) ≡ b → Shows s (cond b t right) (played (cond b [] (cond (n == 1) (bare 0x43 ∷ [])
    (sequence [] (n ∷ []) 0x43 ∷ []))) s)) [
      | true ↦ λ _. shows-same s h
      | false ↦ λ e.
          let some : 0 < n = nonzero n e in
          cond_both (n == 1) (bare 0x43 ∷ []) (sequence [] (n ∷ []) 0x43 ∷ []) (λ es. Shows s right (played es s))
          (λ q. shows-right s 1 n h some (ap (λ m. min (g.col + m) (g.width - 1)) (sym (eqb-true n 1 q))))
          (λ _. shows-right s (cond (nat_eq (kept_number n) 0) 1 (kept_number n)) n h some
          (ap (λ m. min (g.col + m) (g.width - 1)) (read-count n 1 some) ∙ omega (arith, h.1.few_cols)))
    ]) refl

pub shows-Backspace : (s : State) → IsPlainState s
    → Shows s (apply (size_shown s) Backspace (terminal_of s)) (played (events_of Backspace) s)
unfolding apply
shows-Backspace s h = shows-moved s s.shown.row (s.shown.col - 1) h h.1.cursor_row (omega (arith, h.1.cursor_col))

-- ---- saved, and back

pub shows-SaveCursor : (s : State) → IsPlainState s
    → Shows s (apply (size_shown s) SaveCursor (terminal_of s)) (played (events_of SaveCursor) s)
unfolding apply
shows-SaveCursor s h =
    let p = h.1 in
    record {
      shows = refl;
      size = refl;
      plain = (
        h.0,
        plain-as s.shown (cursor_saved s.shown) p p.sheet p.some p.cursor_row p.cursor_col p.cursor_row p.cursor_col
            p.origin p.origin p.offset,
      );
    }

pub shows-RestoreCursor : (s : State) → IsPlainState s
    → Shows s (apply (size_shown s) RestoreCursor (terminal_of s)) (played (events_of RestoreCursor) s)
unfolding apply
shows-RestoreCursor s h =
    let p = h.1 in
    record {
      shows = refl;
      size = refl;
      plain = (
        h.0,
        plain-as s.shown (cursor_restored s.shown) p p.sheet p.some p.saved_row p.saved_col p.saved_row p.saved_col
            p.saved_origin p.saved_origin p.offset,
      );
    }
