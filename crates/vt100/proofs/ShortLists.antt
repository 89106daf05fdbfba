-- How many bytes a screen's lists take, whichever rows it shows.
use Rattle.std.proofs.Common.{◌≡◌, ◌≤◌, ℕ, ◌+◌, ◌-◌, ◌*◌, Bool, nat_lt, List, [], ◌∷◌, ◌++◌, length, arith}
use Rattle.std.proofs.lemmas.Bool.{cond_both}
use Rattle.vt100_forms.specs.Attrs.{HasByteColors}
use Rattle.vt100_forms.specs.Form.{Form, HideCursor, change, bytes_of}
use Rattle.vt100_forms.proofs.Lengths.{length-change}
use Rattle.vt100_cells.specs.Cell.{bool_eq}
use Rattle.vt100_cells.specs.Cells.{cell_at}
use Rattle.vt100_rows.specs.Row.{RowView}
use Rattle.vt100_rows.specs.Sheet.{row_at}
use Rattle.screen_drawing.specs.Modes.{switch, input_mode_formatted, input_mode_diff}
use Rattle.screen_drawing.proofs.Costs.{form-small, join-length}
use Rattle.screen_drawing.proofs.Lengths.{modes-length, modes_diff-length}
use Rattle.vt100_core.specs.Writers as grid
use Rattle.vt100_core.specs.FormLists.{HasByteVisibleCells}
use Rattle.vt100_core.specs.FormLists as lists
use Rattle.vt100_core.proofs.ShortLists.{grid-short}
use Rattle.screen_model.specs.State.{State, IsState}
use Rattle.screen_model.specs.Shown.{shown_state}
use Rattle.vt100.specs.Writers.{contents_formatted, contents_diff, sheet_diff}
use Rattle.vt100.specs.FormLists.{EachListIsShort}

visible-colors : (s : State) → IsState s → HasByteVisibleCells s.shown
visible-colors s h r k =
    let g = s.shown in
    cond_both (nat_lt r g.kept.offset) (row_at g.kept.rows (length g.kept.rows - g.kept.offset + r))
    (row_at g.rows (r - g.kept.offset)) (λ (v : RowView). HasByteColors (cell_at v.cells k).attrs)
    (λ _. (h.proper.kept (length g.kept.rows - g.kept.offset + r) k).colors)
    (λ _. (h.proper.drawn (r - g.kept.offset) k).colors)

sheet-short : (s : State) → IsState s → lists.AreShort s.shown
sheet-short s h = grid-short s.shown h.shown (λ r k. (h.proper.drawn r k).colors) (visible-colors s h)

hides : (b : Bool) → length (bytes_of (HideCursor b ∷ [])) ≤ 6
hides b = (form-small (HideCursor b) 6 tt (omega arith)).1

hides-changed : (old new : Bool) → length (bytes_of (switch HideCursor old new)) ≤ 6
hides-changed old new =
    cond_both (bool_eq new old) [] (HideCursor new ∷ []) (λ fs. length (bytes_of fs) ≤ 6) (λ _. omega arith)
    (λ _. hides new)

-- a list between two others
three-joined : (fs gs hs : List Form)
    → length (bytes_of ((fs ++ gs) ++ hs)) ≡ length (bytes_of fs) + length (bytes_of gs) + length (bytes_of hs)
three-joined fs gs hs = omega (arith, join-length (fs ++ gs) hs, join-length fs gs)

abbrev cells : State → ℕ
cells s = 1024 * (s.shown.height * s.shown.width)

redraw-short : (s : State) → IsState s → length (bytes_of (contents_formatted s)) ≤ cells s + 310
redraw-short s h =
    let hidden = HideCursor s.hidden ∷ [] in
    let drawn = grid.contents_formatted s.shown in
    let a = (grid.redrawn s.shown).pen.attrs in
    let joined : length (bytes_of (contents_formatted s))
    ≡ length (bytes_of hidden) + length (bytes_of (drawn ++ change a s.attrs)) = join-length hidden (drawn
    ++ change a s.attrs) in
    omega (
      arith,
      joined,
      join-length drawn (change a s.attrs),
      hides s.hidden,
      (sheet-short s h).contents,
      length-change a s.attrs h.attrs.colors,
    )

difference-short : (old new : State) → HasByteColors old.attrs → IsState new
    → length (bytes_of (contents_diff old new)) ≤ cells new + 310
difference-short old new k h =
    let hidden = switch HideCursor old.hidden new.hidden in
    let d = sheet_diff old new in
    omega (
      arith,
      three-joined hidden d.forms (change d.pen.attrs new.attrs),
      hides-changed old.hidden new.hidden,
      (sheet-short new h).difference old.shown old.attrs k,
      length-change d.pen.attrs new.attrs h.attrs.colors,
    )

pub screen-short : EachListIsShort
screen-short old new k h =
    let x = shown_state old in
    let y = shown_state new in
    let redraw = redraw-short new h in
    let difference = difference-short old new k h in
    let set = modes-length y in
    let changed = modes_diff-length x y in
    record {
      contents_formatted = omega (arith, redraw);
      contents_diff = omega (arith, difference);
      state_formatted = omega (arith, join-length (contents_formatted new) (input_mode_formatted y), redraw, set);
      state_diff = omega (arith, join-length (contents_diff old new) (input_mode_diff x y), difference, changed);
      input_mode_formatted = omega (arith, set);
      input_mode_diff = omega (arith, changed);
    }
