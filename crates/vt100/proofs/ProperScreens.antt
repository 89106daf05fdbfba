-- A screen of which a sheet, or both, have changed.
use Rattle.std.proofs.Common.{◌≡◌, ◌∙◌, ◌==◌, ℕ, Bool, Option, true, false, not, length, replicate, refl, sym, ap}
use Rattle.std.proofs.Common.{Result, Ok, Err, OnOk, OnErr, ◌<◌, subst}
use Rattle.std.proofs.lemmas.List.{length-replicate}
use Rattle.std.specs.Prelude.{IfOk}
use Rattle.std.proofs.lemmas.Bool.{both_ways, cond_both, false≢true}
use Rattle.vt100_forms.specs.Attrs.{default_attrs}
use Rattle.vt100_rows.specs.Row.{blank_row}
use Rattle.vt100_core.specs.Grid.{GridView, IsAllocated, SameLimits, new_grid, allocated, cleared}
use Rattle.vt100_core.specs.declared.scrollback.Scrollback.TheVariants.{Disabled, Enabled}
use Rattle.vt100_core.specs.Scroll.{scrollback_shown}
use Rattle.vt100_core.specs.Resize.{resized}
use Rattle.screen_model.specs.State.{IsProperSheet}
use Rattle.vt100_forms.proofs.AttrsLemmas.{default-proper}
use Rattle.screen_model.proofs.ProperSheets.{proper_new, proper_resized, proper_allocated, proper_scrollback_shown}
use Rattle.screen_model.proofs.ProperSheets.{proper_cells_inserted, proper_cells_deleted, proper_columns_erased}
use Rattle.screen_model.proofs.ProperSheets.{proper_row_erased, proper_all_erased, proper_all_erased_forward}
use Rattle.screen_model.proofs.ProperSheets.{proper_all_erased_backward, proper_lines_inserted, proper_lines_deleted}
use Rattle.screen_model.proofs.ProperSheets.{proper_scrolled_down}
use Rattle.vt100.specs.ScreenFields.{IsInside}
use Rattle.vt100.specs.declared.error.ScreenError.{ScreenError}
use Rattle.vt100.specs.declared.screen.Screen.TheInside.{Inside}
use Rattle.vt100.proofs.SizeLemmas.{resized_height, resized_width}

-- both sheets have changed, the last character, and whether it has failed
changed-screen : (s : Inside) (g h : GridView) (last : Option ℕ) (failed : Bool) → IsInside s → IsAllocated g
    → (s.alternate_screen ≡ true → IsAllocated h) → (failed ≡ false → h.height ≡ g.height)
    → (failed ≡ false → h.width ≡ g.width) → g.kept.keeps ≡ s.grid.kept.keeps
    → h.kept.keeps ≡ s.other_grid.kept.keeps → (failed ≡ false → IsProperSheet g)
    → (failed ≡ false → IsProperSheet h)
    → IsInside (record s { grid = g; other_grid = h; last_char = last; failed = failed })
changed-screen s g h last failed i some main height width keeps other_keeps proper other_proper = record {
  shown = some;
  main = main;
  height = height;
  width = width;
  shown_keeps = keeps ∙ i.shown_keeps;
  other_keeps = other_keeps ∙ i.other_keeps;
  attrs = i.attrs;
  saved_attrs = i.saved_attrs;
  proper = proper;
  other_proper = other_proper;
}

-- the shown sheet has changed, and the last character
pub drawn_screen : (s : Inside) (g : GridView) (last : Option ℕ) → IsInside s → IsAllocated g → SameLimits s.grid g
    → (IsProperSheet s.grid → IsProperSheet g) → IsInside (record s { grid = g; last_char = last })
drawn_screen s g last i some limits proper =
    changed-screen s g s.other_grid last s.failed i some i.main (λ live. i.height live ∙ sym limits.height)
    (λ live. i.width live ∙ sym limits.width) limits.kept.keeps refl (λ live. proper (i.proper live)) i.other_proper

-- a sheet is cleared
allocated-cleared : (g : GridView) → IsAllocated g → IsAllocated (cleared g)
allocated-cleared g some =
    subst (λ n. 0 < n) (sym (length-replicate (length g.rows) (blank_row g.width))) some

proper-cleared : (g : GridView) → IsProperSheet g → IsProperSheet (cleared g)
proper-cleared g p = record {
  drawn = (proper_allocated (new_grid (length g.rows) g.width Disabled) (proper_new (length g.rows) g.width
      Disabled)).drawn;
  kept = p.kept;
}

pub cleared_shown : (s : Inside) (g : GridView) → IsInside s → g ≡ cleared s.grid → IsInside (record s { grid = g })
cleared_shown s g i is =
    changed-screen s g s.other_grid s.last_char s.failed i (rw is (allocated-cleared s.grid i.shown)) i.main
    (λ live. rw is (i.height live)) (λ live. rw is (i.width live)) (rw is refl) refl
    (λ live. rw is (proper-cleared s.grid (i.proper live))) i.other_proper

pub cleared_other : (s : Inside) (h : GridView) → IsInside s → h ≡ cleared s.other_grid
    → IsInside (record s { other_grid = h })
cleared_other s h i is =
    changed-screen s s.grid h s.last_char s.failed i i.shown (λ e. rw is (allocated-cleared s.other_grid (i.main e)))
    (λ live. rw is (i.height live)) (λ live. rw is (i.width live)) refl (rw is refl) i.proper
    (λ live. rw is (proper-cleared s.other_grid (i.other_proper live)))

-- what the calls that draw on it keep
pub ruleset drawn_rules = (
  drawn_screen,
  proper_cells_inserted,
  proper_cells_deleted,
  proper_columns_erased,
  proper_row_erased,
  proper_all_erased,
  proper_all_erased_forward,
  proper_all_erased_backward,
  proper_lines_inserted,
  proper_lines_deleted,
  proper_scrolled_down,
)

-- ---- another size

-- also where the screen is marked as failed, at an error
pub settled_screen : {E : Type 0} (s : Inside) (g h : GridView) (rows cols : ℕ) (answer : Result (Unit {0}) E)
    (result : Result (Unit {0}) ScreenError) (failed : Bool) → IsInside s
    → IfOk result (λ x. answer ≡ Ok x) → OnOk result (failed ≡ s.failed) → OnErr result (failed ≡ true)
    → OnOk answer (g ≡ (resized s.grid rows cols).grid) → OnOk answer (h ≡ (resized s.other_grid rows cols).grid)
    → g.kept.keeps ≡ s.grid.kept.keeps → h.kept.keeps ≡ s.other_grid.kept.keeps
    → (IsAllocated s.grid → IsAllocated g) → (IsAllocated s.other_grid → IsAllocated h)
    → IsInside (record s { grid = g; other_grid = h; failed = failed })
settled_screen s g h rows cols answer (Ok u) failed i done same marked is other keeps other_keeps some other_some =
    let first = rw done at is in
    let second = rw done at other in
    changed-screen s g h s.last_char failed i (some i.shown) (λ e. other_some (i.main e))
    (λ _. rw (second, first) (resized_height s.other_grid rows cols ∙ sym (resized_height s.grid rows cols)))
    (λ _. rw (second, first) (resized_width s.other_grid rows cols ∙ sym (resized_width s.grid rows cols))) keeps
    other_keeps (λ live. rw first (proper_resized s.grid rows cols (i.proper (sym same ∙ live))))
    (λ live. rw second (proper_resized s.other_grid rows cols (i.other_proper (sym same ∙ live))))
settled_screen s g h rows cols answer (Err e) failed i done same marked is other keeps other_keeps some other_some =
    changed-screen s g h s.last_char failed i (some i.shown) (λ e. other_some (i.main e))
    (λ live. absurd (both_ways failed live marked)) (λ live. absurd (both_ways failed live marked)) keeps other_keeps
    (λ live. absurd (both_ways failed live marked)) (λ live. absurd (both_ways failed live marked))

-- ---- the alternate sheet is shown

abbrev HasLimits : GridView → GridView → Type 0
HasLimits g h = (h.height ≡ g.height) × (h.width ≡ g.width) × (h.kept.keeps ≡ g.kept.keeps)

allocated-limits : (g : GridView) → HasLimits g (allocated g)
allocated-limits g =
    cond_both (length g.rows == 0) (record g { rows = replicate g.height (blank_row g.width) }) g (λ x. HasLimits g x)
    (λ _. (refl, refl, refl)) (λ _. (refl, refl, refl))

-- which wasn't
pub entered_screen : (s : Inside) (g h : GridView) → IsInside s → s.alternate_screen ≡ false
    → g ≡ scrollback_shown s.grid 0 → h ≡ allocated s.other_grid → IsAllocated g → IsAllocated h
    → IsInside (record s { grid = h; other_grid = g; alternate_screen = true })
entered_screen s g h i main is other_is some other_some =
    let l = allocated-limits s.other_grid in
    record {
      shown = other_some;
      main = λ _. some;
      height = λ live. rw (is, other_is) (sym (l.0 ∙ i.height live));
      width = λ live. rw (is, other_is) (sym (l.1 ∙ i.width live));
      shown_keeps = rw other_is (l.2 ∙ i.other_keeps ∙ main);
      other_keeps = rw is (i.shown_keeps ∙ ap not main);
      attrs = i.attrs;
      saved_attrs = i.saved_attrs;
      proper = λ live. rw other_is (proper_allocated s.other_grid (i.other_proper live));
      other_proper = λ live. rw is (proper_scrollback_shown s.grid 0 (i.proper live));
    }

-- or is already
pub stayed_screen : (s : Inside) (g h : GridView) → IsInside s → g ≡ scrollback_shown s.grid 0
    → h ≡ allocated s.other_grid → IsAllocated g → IsAllocated h → IsInside (record s { grid = g; other_grid = h })
stayed_screen s g h i is other_is some other_some =
    let l = allocated-limits s.other_grid in
    changed-screen s g h s.last_char s.failed i some (λ _. other_some) (λ live. rw (is, other_is) (l.0 ∙ i.height live))
    (λ live. rw (is, other_is) (l.1 ∙ i.width live)) (rw is refl) (rw other_is l.2)
    (λ live. rw is (proper_scrollback_shown s.grid 0 (i.proper live)))
    (λ live. rw other_is (proper_allocated s.other_grid (i.other_proper live)))

-- ---- a new screen

pub fresh_screen : (s : Inside) (height width capacity : ℕ)
    → s.grid ≡ allocated (new_grid height width (Enabled capacity)) → s.other_grid ≡ new_grid height width Disabled
    → IsAllocated s.grid → s.alternate_screen ≡ false → s.attrs ≡ default_attrs → s.saved_attrs ≡ default_attrs
    → IsInside s
fresh_screen s height width capacity is other_is some main attrs saved_attrs =
    let g = new_grid height width (Enabled capacity) in
    let l = allocated-limits g in
    record {
      shown = some;
      main = λ e. absurd (false≢true (sym main ∙ e));
      height = λ _. rw (is, other_is) (sym l.0);
      width = λ _. rw (is, other_is) (sym l.1);
      shown_keeps = rw (is, main) l.2;
      other_keeps = rw (other_is, main) refl;
      attrs = rw attrs default-proper;
      saved_attrs = rw saved_attrs default-proper;
      proper = λ _. rw is (proper_allocated g (proper_new height width (Enabled capacity)));
      other_proper = λ _. rw other_is (proper_new height width Disabled);
    }
