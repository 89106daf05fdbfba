-- A screen's forms are those of what it shows.
use Rattle.std.proofs.Common.{◌≡◌, ◌∙◌, ℕ, List, ◌∷◌, ◌++◌, Contains, None, sym, ap, subst}
use Rattle.vt100_forms.specs.Attrs.{default_attrs}
use Rattle.vt100_forms.specs.Form.{Form, HideCursor}
use Rattle.vt100_cells.specs.Cell.{CellView}
use Rattle.terminal_model.specs.Term.{Size, Shown, IsShown}
use Rattle.terminal_model.specs.Leads.{Leads}
use Rattle.terminal_model.proofs.FormLemmas.{IsShown-of}
use Rattle.screen_drawing.specs.Modes.{input_mode_formatted, input_mode_diff}
use Rattle.screen_drawing.specs.Cursor as cursor
use Rattle.screen_drawing.specs.Laws.{IsDrawable, with_modes}
use Rattle.screen_drawing.proofs.Screens.{redraw_leads, state-redraw_leads, difference_leads, state-difference_leads}
use Rattle.screen_drawing.proofs.Cursor.{cursor-state_set}
use Rattle.screen_drawing.specs.Screen as picture
use Rattle.screen_drawing.specs.Screen.{grid_redraw, grid_difference, redraw_by, difference_by}
use Rattle.vt100_core.specs.Picture.{grid_size, term_of_grid, visible_lines}
use Rattle.vt100_core.specs.WriterLaws as core
use Rattle.vt100_core.specs.WriterLaws.{picture_of}
use Rattle.vt100_core.proofs.PictureLemmas.{visible_lines-drawn, visible_wraps-drawn, IsTerm-grid}
use Rattle.vt100_core.proofs.PictureWriters.{cursor-of_picture, redrawn-of_picture, differing-of_pictures}
use Rattle.vt100_core.proofs.PictureWriters.{grid-drawable}
use Rattle.vt100_rows.specs.Picture.{lines_of}
use Rattle.screen_model.specs.State.{State}
use Rattle.screen_model.specs.Shown.{shown_state, extras_of}
use Rattle.vt100.specs.WriterLaws.{IsUnscrolled, EachRedrawIsOfShown, EachDifferenceIsOfShown, EachScreenIsDrawable}
use Rattle.vt100.specs.WriterLaws.{EachRedrawLeads, EachDifferenceLeads}

grid-unscrolled : (s : State) → IsUnscrolled s → core.IsUnscrolledGrid s.shown
grid-unscrolled s h = record { grid = h.state.shown; some = h.state.drawn; offset = h.offset }

pub cells-are : (s : State) → IsUnscrolled s → visible_lines s.shown ≡ lines_of s.shown.rows
cells-are s h = visible_lines-drawn s.shown h.state.shown h.state.drawn h.offset

picture-is : (s : State) → IsUnscrolled s → shown_state s ≡ picture_of s.shown (extras_of s)
picture-is s h =
    let cells = cells-are s h in
    let wraps = visible_wraps-drawn s.shown h.state.shown h.state.drawn h.offset in
    λ i. record {
      cell = cells i;
      wrapped = wraps i;
      row = s.shown.row;
      col = s.shown.col;
      hidden = s.hidden;
      attrs = s.attrs;
      modes = s.modes;
      style = s.style;
    }

-- ---- redraws

pub redraw-of_shown : EachRedrawIsOfShown
unfolding picture.contents_formatted picture.state_formatted picture.cursor_state_formatted
redraw-of_shown s h =
    let x = extras_of s in
    let z = grid_size s.shown in
    let is = sym (picture-is s h) in
    let drawn = redrawn-of_picture s.shown x (grid-unscrolled s h) ∙ ap (grid_redraw z) is in
    let contents = ap (redraw_by (shown_state s)) drawn in
    record {
      contents = contents;
      state = ap (λ (fs : List Form). fs ++ input_mode_formatted (shown_state s)) contents;
      cursor = ap (λ (fs : List Form). HideCursor s.hidden ∷ fs) (cursor-of_picture s.shown x None None
          ∙ ap (λ (y : Shown). cursor.cursor_position_formatted z y None default_attrs) is);
    }

-- ---- differences

pub difference-of_shown : EachDifferenceIsOfShown
unfolding picture.contents_diff picture.state_diff
difference-of_shown old new o h e =
    let z = grid_size new.shown in
    let drawn = differing-of_pictures new.shown old.shown (extras_of new) (extras_of old) (grid-unscrolled new h)
    (grid-unscrolled old o) e ∙ (λ i. grid_difference z (sym (picture-is old o) i) (sym (picture-is new h) i)) in
    let contents = ap (difference_by (shown_state old) (shown_state new)) drawn in
    record {
      contents = contents;
      state = ap (λ (fs : List Form). fs ++ input_mode_diff (shown_state old) (shown_state new)) contents;
    }

-- ---- what can be drawn

pub screen-drawable : EachScreenIsDrawable
screen-drawable s h p =
    let z = grid_size s.shown in
    let same : (r k : ℕ) → visible_lines s.shown r k ≡ lines_of s.shown.rows r k =
    λ r k. ap (λ f. f r k) (cells-are s h) in
    record {
      drawable = subst (λ (x : Shown). IsDrawable z x) (sym (picture-is s h))
          (grid-drawable s.shown (extras_of s) (record {
            shown = grid-unscrolled s h;
            plain = λ r k. subst (λ (x : CellView). Contains x.text 0xFE0F → ⊥) (same r k) (p r k);
            proper = h.state.proper.drawn;
          }));
      attrs = h.state.attrs;
    }

-- ---- what a terminal makes of them

pub shown-is : (s : State) → IsUnscrolled s → IsShown (grid_size s.shown) (shown_state s)
shown-is s h =
    subst (IsShown (grid_size s.shown)) (sym (picture-is s h))
    (IsShown-of (grid_size s.shown) (term_of_grid s.shown (extras_of s))
    (IsTerm-grid s.shown (extras_of s) h.state.shown))

pub old-shown : (old new : State) → IsUnscrolled old → grid_size old.shown ≡ grid_size new.shown
    → IsShown (grid_size new.shown) (shown_state old)
old-shown old new o e = subst (λ (z : Size). IsShown z (shown_state old)) e (shown-is old o)

pub redraws-lead : EachRedrawLeads
redraws-lead s from h p =
    let z = grid_size s.shown in
    let x = shown_state s in
    let is = redraw-of_shown s h in
    let d = screen-drawable s h p in
    record {
      contents = subst (λ fs. Leads z fs from (with_modes from.modes from.style x)) (sym is.contents)
          (redraw_leads z x from d);
      state = λ m e y. subst (λ fs. Leads z fs from x) (sym is.state) (state-redraw_leads z x from d m e y);
      cursor = λ a c w. subst (λ fs. Leads z fs from (record from { row = x.row; col = x.col; hidden = x.hidden }))
          (sym is.cursor) (cursor-state_set z x from d.drawable a c w);
    }

pub differences-lead : EachDifferenceLeads
differences-lead old new o h e p =
    let z = grid_size new.shown in
    let x = shown_state old in
    let y = shown_state new in
    let is = difference-of_shown old new o h e in
    let d = screen-drawable new h p in
    let start = old-shown old new o e in
    record {
      contents = λ m k. subst (λ fs. Leads z fs (with_modes m k x) (with_modes m k y)) (sym is.contents)
          (difference_leads z x y m k start o.state.attrs d);
      state = subst (λ fs. Leads z fs x y) (sym is.state) (state-difference_leads z x y start o.state.attrs d);
    }
