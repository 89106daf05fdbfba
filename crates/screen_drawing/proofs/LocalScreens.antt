-- The differences of screens touch local cells, and the last cell of one row if the cursor is past the last column.
use Rattle.std.proofs.Common.{◌≡◌, ℕ, Bool, false, [], ◌∷◌, ◌++◌, Some, refl, sym, subst, inl, inr}
use Rattle.std.proofs.lemmas.Bool.{cond_both, or_right}
use Rattle.vt100_forms.specs.Attrs.{IsProper}
use Rattle.vt100_forms.specs.Form.{Form, HideCursor, Keypad, CursorKeys, Paste, Mouse, Encoding, Style, change}
use Rattle.vt100_cells.specs.Cell.{bool_eq}
use Rattle.terminal_model.specs.Term.{Size, Shown, Term, IsShown, term_of}
use Rattle.terminal_model.specs.Apply.{run}
use Rattle.terminal_model.specs.Touch.{form_touches, Within}
use Rattle.terminal_model.specs.Local.{IsLocal, IsLocalOrEnd}
use Rattle.terminal_model.proofs.TouchLemmas.{within-joined, within-more}
use Rattle.row_drawing.specs.Writer.{◌>>◌}
use Rattle.row_drawing.proofs.Steps.{at}
use Rattle.screen_drawing.specs.Rows.{pen_at, rows_difference}
use Rattle.screen_drawing.specs.Cursor.{cursor_position_formatted}
use Rattle.screen_drawing.specs.Modes.{switch, input_mode_diff}
use Rattle.screen_drawing.specs.Screen.{cursor_placed, grid_difference, contents_diff, state_diff}
use Rattle.screen_drawing.specs.Laws.{IsDrawable, showing}
use Rattle.screen_drawing.specs.Local.{waiting_row, EachGridDifferenceIsLocal, EachContentsDifferenceIsLocal}
use Rattle.screen_drawing.specs.Local.{EachDifferenceIsLocal}
use Rattle.screen_drawing.proofs.Modes.{hide-switched}
use Rattle.screen_drawing.proofs.CursorForms.{known-some}
use Rattle.screen_drawing.proofs.Rows.{difference-done}
use Rattle.screen_drawing.proofs.LocalRows.{rows-local}
use Rattle.screen_drawing.proofs.LocalCursor.{idle, change-within, IsEndRoom}
use Rattle.screen_drawing.proofs.Cursor.{cursor-within}

abbrev Room : Size → Shown → Shown → ℕ → ℕ → Type 0
Room z old new = IsLocalOrEnd z old new (waiting_row z new)

end-room : (z : Size) (old new : Shown) → new.col ≡ z.cols → IsEndRoom (Room z old new) z new (waiting_row z new)
end-room z old new waits =
    let r = waiting_row z new in
    record {
      last = λ k e. inr (waits, refl, inl e);
      first = λ k e wide. inr (waits, refl, inr (e, or_right (old.cell r k).wide (new.cell r k).wide wide));
    }

grid-within : (z : Size) (t : Term) (old new : Shown) → IsShown z old → IsProper old.attrs → IsDrawable z new
    → Within (Room z old new) z (grid_difference z old new).forms
    (at t old.cell old.wrapped old.row old.col old.attrs)
unfolding grid_difference cursor_placed ◌>>◌
grid-within z t old new ho ha hn =
    let S = Room z old new in
    let p = pen_at old.row old.col old.attrs in
    let d = rows_difference z old new z.rows p in
    let q = d.pen in
    let goes = cursor_position_formatted z new (Some q.pos) q.attrs in
    let done = difference-done z t old new p ho hn ha refl in
    within-joined S z d.forms goes (showing t old p)
    (within-more (IsLocal z old new) S z d.forms (showing t old p) (λ r k l. inl l)
    (rows-local z t old new p ho hn ha refl))
    (subst (Within S z goes) (sym done.state_after)
    (cursor-within S z t new (Some q.pos) q.attrs q.pos.row q.pos.col hn done.proper
    (known-some q.pos.row q.pos.col) (end-room z old new)))

-- ---- modes

switch-within : (S : ℕ → ℕ → Type 0) (z : Size) (f : Bool → Form) (old new : Bool) (t : Term)
    → ((r k : ℕ) → form_touches z (f new) t r k ≡ false) → Within S z (switch f old new) t
switch-within S z f old new t h =
    cond_both (bool_eq new old) [] (f new ∷ []) (λ fs. Within S z fs t) (λ _. tt) (λ _. (idle S z (f new) t h, tt))

modes-within : (S : ℕ → ℕ → Type 0) (z : Size) (old new : Shown) (t : Term) → Within S z (input_mode_diff old new) t
unfolding input_mode_diff form_touches
modes-within S z old new t =
    let m = old.modes in
    let n = new.modes in
    let a = switch Keypad m.keypad n.keypad in
    let b = switch CursorKeys m.cursor_keys n.cursor_keys in
    let c = switch Paste m.paste n.paste in
    let d = Mouse n.mouse m.mouse ∷ Encoding n.encoding m.encoding ∷ Style new.style old.style ∷ [] in
    within-joined S z (a ++ b ++ c) d t
    (within-joined S z (a ++ b) c t
    (within-joined S z a b t (switch-within S z Keypad m.keypad n.keypad t (λ r k. refl))
    (switch-within S z CursorKeys m.cursor_keys n.cursor_keys _ (λ r k. refl)))
    (switch-within S z Paste m.paste n.paste _ (λ r k. refl))) (
      idle S z (Mouse n.mouse m.mouse) _ (λ r k. refl),
      (
        idle S z (Encoding n.encoding m.encoding) _ (λ r k. refl),
        (idle S z (Style new.style old.style) _ (λ r k. refl), tt),
      ),
    )

-- ---- screens

pub grid-local : EachGridDifferenceIsLocal
grid-local z old new ho ha hn v = grid-within z (term_of old v) old new ho ha hn

pub contents-local : EachContentsDifferenceIsLocal
unfolding contents_diff form_touches
contents-local z old new ho ha hn v =
    let S = Room z old new in
    let t = term_of old v in
    let u : Term = record t { hidden = new.hidden } in
    let hides = switch HideCursor old.hidden new.hidden in
    let d = grid_difference z old new in
    within-joined S z (hides ++ d.forms) (change d.pen.attrs new.attrs) t
    (within-joined S z hides d.forms t (switch-within S z HideCursor old.hidden new.hidden t (λ r k. refl))
    (subst (Within S z d.forms) (sym (hide-switched z t old.hidden new.hidden refl))
    (grid-within z u old new ho ha hn.drawable)))
    (change-within S z d.pen.attrs new.attrs (run z (hides ++ d.forms) t))

pub difference-local : EachDifferenceIsLocal
unfolding state_diff
difference-local z old new ho ha hn v =
    let t = term_of old v in
    let fs = contents_diff z old new in
    within-joined (Room z old new) z fs (input_mode_diff old new) t (contents-local z old new ho ha hn v)
    (modes-within (Room z old new) z old new (run z fs t))
