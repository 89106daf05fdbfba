-- The differences of all rows touch local cells.
use Rattle.std.proofs.Common.{◌≡◌, ℕ, zero, suc, ◌-◌, ◌<◌, ◌≤◌, Bool, true, false, not, ◌&&◌, None, refl, arith}
use Rattle.std.proofs.Common.{sym, subst, ◌∙◌, inl, inr}
use Rattle.std.proofs.lemmas.Bool.{cases_Bool, and_cases, both_ways, false≢true}
use Rattle.vt100_forms.specs.Attrs.{IsProper}
use Rattle.terminal_model.specs.Term.{Size, Shown, Term, IsShown}
use Rattle.terminal_model.specs.Touch.{Within}
use Rattle.terminal_model.specs.Local.{DiffersIn, IsLocal}
use Rattle.terminal_model.proofs.TouchLemmas.{within-joined}
use Rattle.row_drawing.specs.declared.pen.Pen.{Pen}
use Rattle.row_drawing.specs.Writer.{◌>>◌, skip}
use Rattle.row_drawing.proofs.LocalCells.{difference-local}
use Rattle.screen_drawing.specs.Rows.{afresh, is_continued, next_row, in_turn, differences_of, rows_difference}
use Rattle.screen_drawing.specs.Laws.{IsDrawable, showing}
use Rattle.screen_drawing.specs.Local.{EachRowsDifferenceIsLocal}
use Rattle.screen_drawing.proofs.LostFlags.{lost-cause, inside-row, other-cell}
use Rattle.screen_drawing.proofs.Rows.{Between, scene_of, scene-is, ready-is, here-is, differences, continued-later}

module _ (z : Size) (t : Term) (old new : Shown) (ho : IsShown z old) (hn : IsDrawable z new) where
  -- if row i is drawn as one below a row that wraps and has no flag, the row above differs
  abbrev IsOwed : ℕ → Pen → Type 0
  IsOwed i p = is_continued new.wrapped i ≡ true → (is_continued old.wrapped i && not p.lost) ≡ false
      → DiffersIn z old new (i - 1)

  module _ (i : ℕ) (p : Pen) (u : Term) (l : i < z.rows) (b : Between z t old new i p u) where
    abbrev flagged : Bool
    flagged = is_continued old.wrapped i && not p.lost

    owed-next : IsOwed (suc i) (differences_of z old new i flagged (afresh p)).pen
    owed-next on off =
        let s = scene_of z t old new i flagged b.flags in
        let q = (differences_of z old new i flagged (afresh p)).pen in
        let h = scene-is z t old new i flagged p u b refl ho hn l in
        let back : i ≡ suc i - 1 = omega arith in
        subst (DiffersIn z old new) back
        (elim (and_cases (old.wrapped i) (not q.lost) off) [
          | inl unset ↦ inr (λ e. both_ways (new.wrapped i) (sym e ∙ unset) on)
          | inr kept ↦ elim (cases_Bool q.lost) [
            | inl lost ↦ lost-cause (DiffersIn z old new i) s (afresh p) h b.closed refl on
                (λ c differs. inl (c, inside-row s h c differs, other-cell s.row_change c differs)) lost
            | inr none ↦ absurd (both_ways (not q.lost) kept (subst (λ c. not c ≡ true) (sym none) refl))
          ]
        ])

    next-within : IsOwed i p → Within (IsLocal z old new) z (differences_of z old new i flagged (afresh p)).forms u
    next-within owed =
        let s = scene_of z t old new i flagged b.flags in
        subst (Within (IsLocal z old new) z (differences_of z old new i flagged (afresh p)).forms)
        (sym (here-is z t old new i flagged p u b refl))
        (difference-local s old new (afresh p) (scene-is z t old new i flagged p u b refl ho hn l)
        (ready-is z t old new i flagged p u b refl) (record {
          old_cells = refl;
          new_cells = refl;
          old_flag = refl;
          new_flag = refl;
          above = λ on off. inr (continued-later new.wrapped i on, owed on off);
        }))

  module _ (p : Pen) (ha : IsProper p.attrs) (closed : p.erase ≡ None) where
    rows-owed : (n : ℕ) → n ≤ z.rows → IsOwed n (rows_difference z old new n p).pen
    unfolding in_turn next_row ◌>>◌
    rows-owed zero l on = absurd (false≢true on)
    rows-owed (suc n) l on =
        owed-next n _ _ (omega arith) (differences z t old new p n ho hn ha closed (omega arith)) on

    rows-within : (n : ℕ) → n ≤ z.rows
        → Within (IsLocal z old new) z (rows_difference z old new n p).forms (showing t old p)
    unfolding in_turn next_row skip ◌>>◌
    rows-within zero l = tt
    rows-within (suc n) l =
        within-joined (IsLocal z old new) z _ _ (showing t old p) (rows-within n (omega arith))
        (next-within n _ _ (omega arith) (differences z t old new p n ho hn ha closed (omega arith))
        (rows-owed n (omega arith)))

pub rows-local : EachRowsDifferenceIsLocal
rows-local z t old new p ho hn ha closed = rows-within z t old new ho hn p ha closed z.rows (omega arith)
