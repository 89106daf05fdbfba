-- Redraws and differences of whole screens.
use Rattle.std.proofs.Common.{◌≡◌, ℕ, Bool, true, false, cond, ◌&&◌, nat_lt, List, [], ◌∷◌, ◌++◌}
use Rattle.std.proofs.Common.{Some, refl, ap, ◌∙◌}
use Rattle.std.specs.List.{AllByRecursion}
use mathlib.Core.Path.{fun_ext}
use Rattle.vt100_forms.specs.declared.attrs.Attrs.{Attrs}
use Rattle.vt100_forms.specs.declared.modes.CursorStyle.{CursorStyle}
use Rattle.vt100_forms.specs.Attrs.{IsProper, default_attrs}
use Rattle.vt100_forms.specs.Form.{Form, ClearAttrs, ClearScreen, HideCursor, change}
use Rattle.vt100_cells.specs.Cell.{CellView, default_cell, empty_cell}
use Rattle.terminal_model.specs.Term.{Size, Modes, Shown, Saved, Term, IsShown, shown_of, saved_of, term_of}
use Rattle.terminal_model.specs.Term.{blank_shown}
use Rattle.terminal_model.specs.Term.{none_saved}
use Rattle.terminal_model.specs.Apply.{apply, run}
use Rattle.terminal_model.proofs.FormLemmas.{run-joined, change-read}
use Rattle.row_drawing.specs.declared.pen.Pen.{Pen}
use Rattle.row_drawing.specs.Writer.{◌>>◌}
use Rattle.row_drawing.proofs.Steps.{at}
use Rattle.screen_drawing.specs.Rows.{pen_at, rows_redraw, rows_difference}
use Rattle.screen_drawing.specs.Cursor.{cursor_position_formatted}
use Rattle.screen_drawing.specs.Modes.{switch, input_mode_formatted, input_mode_diff}
use Rattle.screen_drawing.specs.Screen.{cursor_placed, grid_redraw, grid_contents_formatted, grid_difference}
use Rattle.screen_drawing.specs.Screen.{contents_formatted, state_formatted, contents_diff, state_diff, contents_diffs}
use Rattle.screen_drawing.specs.Screen.{last_shown}
use Rattle.screen_drawing.specs.Laws.{IsDrawable, IsDrawableScreen, showing, with_modes, EachGridRedrawLeads}
use Rattle.screen_drawing.specs.Laws.{EachGridDifferenceLeads, EachRedrawLeads, EachStateRedrawLeads}
use Rattle.screen_drawing.specs.Laws.{EachDifferenceLeads, EachStateDifferenceLeads, EachChainLeads}
use Rattle.screen_drawing.specs.Laws.{EachLaterRedrawLeads}
use Rattle.vt100_forms.proofs.AttrsLemmas.{default-proper}
use Rattle.screen_drawing.proofs.Modes.{hide-switched, modes-run, modes-run_changed}
use Rattle.screen_drawing.proofs.CursorForms.{known-some}
use Rattle.screen_drawing.proofs.Cursor.{cursor-run}
use Rattle.screen_drawing.proofs.Rows.{IsDone, redraw-done, difference-done}

-- ---- lists of forms, whatever is saved

record Reaches (z : Size) (fs : List Form) (a b : Shown) : Type 0 where
  leads : (v : Saved) → shown_of (run z fs (term_of a v)) ≡ b

joined : {z : Size} {fs gs : List Form} {a b c : Shown} → Reaches z fs a b → Reaches z gs b c
    → Reaches z (fs ++ gs) a c
joined {z = z} {fs = fs} {gs = gs} {a = a} f g = record {
  leads = λ v.
      let u = run z fs (term_of a v) in
      ap shown_of (run-joined z fs gs (term_of a v))
      ∙ ap (λ (x : Shown). shown_of (run z gs (term_of x (saved_of u)))) (f.leads v) ∙ g.leads (saved_of u);
}

changes : (z : Size) (s : Shown) (old new : Attrs) → s.attrs ≡ old → IsProper old → IsProper new
    → Reaches z (change old new) s (record s { attrs = new })
changes z s old new e ho hn =
    record { leads = λ v. ap shown_of (change-read z (term_of s v) old new e ho hn) }

hides : (z : Size) (s : Shown) (old new : Bool) → s.hidden ≡ old
    → Reaches z (switch HideCursor old new) s (record s { hidden = new })
hides z s old new e = record { leads = λ v. ap shown_of (hide-switched z (term_of s v) old new e) }

changes-modes : (z : Size) (old new from : Shown) → from.modes ≡ old.modes → from.style ≡ old.style
    → Reaches z (input_mode_diff old new) from (with_modes new.modes new.style from)
changes-modes z old new from em es = record {
  leads = λ v. ap shown_of (modes-run_changed z (term_of from v) old new em es);
}

-- ---- grids

pub record IsGridDone (z : Size) (t : Term) (s : Shown) (a : Attrs) (fs : List Form) (u : Term) : Type 0 where
  pub leads : shown_of (run z fs u) ≡ shown_of (at t s.cell s.wrapped s.row s.col a)
  pub proper : IsProper a

placed-after : (z : Size) (t : Term) (s : Shown) (q : Pen) (fs : List Form) (u : Term) → IsDrawable z s
    → IsDone t s q (run z fs u)
    → IsGridDone z t s q.attrs (fs ++ cursor_position_formatted z s (Some q.pos) q.attrs) u
placed-after z t s q fs u h done = record {
  leads = ap shown_of (run-joined z fs (cursor_position_formatted z s (Some q.pos) q.attrs) u
      ∙ ap (run z (cursor_position_formatted z s (Some q.pos) q.attrs)) done.state_after)
      ∙ cursor-run z t s (Some q.pos) q.attrs q.pos.row q.pos.col h done.proper (known-some q.pos.row q.pos.col);
  proper = done.proper;
}

difference-grid : (z : Size) (t : Term) (old new : Shown) → IsShown z old → IsProper old.attrs → IsDrawable z new
    → IsGridDone z t new (grid_difference z old new).pen.attrs (grid_difference z old new).forms
    (at t old.cell old.wrapped old.row old.col old.attrs)
unfolding grid_difference cursor_placed ◌>>◌
difference-grid z t old new ho ha hn =
    let p = pen_at old.row old.col old.attrs in
    let d = rows_difference z old new z.rows p in
    placed-after z t new d.pen d.forms (showing t old p) hn (difference-done z t old new p ho hn ha refl)

cleared-at : (b : Bool) → cond b (empty_cell default_attrs) default_cell ≡ default_cell
cleared-at true = refl
cleared-at false = refl

cleared-run : (z : Size) (t : Term)
    → run z (ClearAttrs ∷ ClearScreen ∷ []) t ≡ showing t blank_shown (pen_at 0 0 default_attrs)
unfolding apply
cleared-run z t = ap (λ (C : ℕ → ℕ → CellView). at t C (λ r. false) 0 0 default_attrs)
    (fun_ext (λ r. fun_ext (λ k. cleared-at (nat_lt r z.rows && nat_lt k z.cols))))

redraw-grid : (z : Size) (t : Term) (s : Shown) → IsDrawable z s
    → IsGridDone z t s (grid_redraw z s).pen.attrs (grid_contents_formatted z s) t
unfolding grid_contents_formatted grid_redraw cursor_placed ◌>>◌
redraw-grid z t s h =
    let p = pen_at 0 0 default_attrs in
    let d = rows_redraw z s z.rows p in
    let all = d.forms ++ cursor_position_formatted z s (Some d.pen.pos) d.pen.attrs in
    let g = placed-after z t s d.pen d.forms (showing t blank_shown p) h (redraw-done z t s p h default-proper refl) in
    record {
      leads = ap (λ u. shown_of (run z all u)) (cleared-run z t) ∙ g.leads;
      proper = g.proper;
    }

pub grid-redraw_leads : EachGridRedrawLeads
grid-redraw_leads z s from h v hv = (redraw-grid z (term_of from v) s h).leads

pub grid-difference_leads : EachGridDifferenceLeads
grid-difference_leads z old new ho ha hn v hv = (difference-grid z (term_of old v) old new ho ha hn).leads

-- ---- screens

-- the grid of `old`, whatever else there is
abbrev beside : Bool → Modes → CursorStyle → Shown → Shown
beside b m y s = record s { hidden = b; modes = m; style = y }

redraws : (z : Size) (s from : Shown) → IsDrawableScreen z s
    → Reaches z (contents_formatted z s) from (with_modes from.modes from.style s)
unfolding contents_formatted grid_contents_formatted apply
redraws z s from h = record {
  leads = λ v.
      let t : Term = record (term_of from v) { hidden = s.hidden } in
      let fs = grid_contents_formatted z s in
      let a = (grid_redraw z s).pen.attrs in
      let g = redraw-grid z t s h.drawable in
      let u = run z fs t in
      ap shown_of (run-joined z fs (change a s.attrs) t)
      ∙ ap (λ (x : Shown). shown_of (run z (change a s.attrs) (term_of x (saved_of u)))) g.leads
      ∙ (changes z (record (with_modes from.modes from.style s) { attrs = a }) a s.attrs
      refl g.proper h.attrs).leads
      (saved_of u);
}

differs : (z : Size) (old new : Shown) (m : Modes) (y : CursorStyle) → IsShown z old → IsProper old.attrs
    → IsDrawableScreen z new → Reaches z (contents_diff z old new) (with_modes m y old) (with_modes m y new)
unfolding contents_diff
differs z old new m y ho ha hn =
    let first = beside new.hidden m y old in
    let a = (grid_difference z old new).pen.attrs in
    let second : Shown = record (beside new.hidden m y new) { attrs = a } in
    let g = λ (v : Saved). difference-grid z (term_of first v) old new ho ha hn.drawable in
    let grid : Reaches z (grid_difference z old new).forms first second =
    record { leads = λ v. (g v).leads } in
    joined (joined (hides z (with_modes m y old) old.hidden new.hidden refl) grid)
    (changes z second a new.attrs refl (g none_saved).proper hn.attrs)

pub redraw_leads : EachRedrawLeads
redraw_leads z s from h v hv = (redraws z s from h).leads v

pub difference_leads : EachDifferenceLeads
difference_leads z old new m y ho ha hn v hv = (differs z old new m y ho ha hn).leads v

pub state-redraw_leads : EachStateRedrawLeads
unfolding state_formatted
state-redraw_leads z s from h em ee es v hv =
    let drawn = with_modes from.modes from.style s in
    let sets : Reaches z (input_mode_formatted s) drawn s =
    record { leads = λ w. ap shown_of (modes-run z (term_of drawn w) s em ee es) } in
    (joined (redraws z s from h) sets).leads v

pub state-difference_leads : EachStateDifferenceLeads
unfolding state_diff
state-difference_leads z old new ho ha hn v hv =
    (joined (differs z old new old.modes old.style ho ha hn)
    (changes-modes z old new (with_modes old.modes old.style new) refl refl)).leads v

pub later-redraw_leads : EachLaterRedrawLeads
later-redraw_leads z old new from h em es v hv =
    (joined (redraws z new from h)
    (changes-modes z old new (with_modes from.modes from.style new) em es)).leads v

-- ---- chains

chains : (z : Size) (s : Shown) (xs : List Shown) (m : Modes) (y : CursorStyle) → IsDrawableScreen z s
    → AllByRecursion (IsDrawableScreen z) xs
    → Reaches z (contents_diffs z s xs) (with_modes m y s) (with_modes m y (last_shown s xs))
chains z s [] m y h hs = record { leads = λ v. refl }
chains z s (x ∷ xs) m y h hs =
    joined (differs z s x m y h.drawable.shown h.attrs hs.0) (chains z x xs m y hs.0 hs.1)

pub chain-leads : EachChainLeads
chain-leads z s from xs h hs v hv =
    (joined (redraws z s from h) (chains z s xs from.modes from.style h hs)).leads v
