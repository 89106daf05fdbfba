-- What is true of every terminal after bytes and resizes.
use Rattle.std.proofs.Common.{◌≡◌, ◌∙◌, ℕ, ◌<◌, ◌≤◌, Bool, cond, List, [], ◌∷◌, ◌++◌, length, refl, sym, ap, subst, All}
use Rattle.std.proofs.Common.{⊎_elim, arith, Contains, ◌+◌, ◌-◌, true, false, nat_lt}
use Rattle.std.proofs.lemmas.Bool.{cond_both, cases_lt}
use Rattle.std.proofs.lemmas.List.Elements.{All-head, All-tail, All-contains}
use Rattle.vte_core.specs.Event.{Event}
use Rattle.vt100_cells.specs.Cell.{CellView}
use Rattle.vt100_cells.specs.Cells.{cell_at}
use Rattle.vt100_rows.specs.Row.{RowView, IsRow}
use Rattle.vt100_rows.proofs.RowLemmas.{IsRow-blank}
use Rattle.vt100_rows.specs.Sheet.{row_at}
use Rattle.vt100_rows.proofs.SheetLemmas.{row_at_past}
use Rattle.vt100_core.specs.Grid.{GridView, IsGrid, visible_at}
use Rattle.vt100_core.specs.Resize.{resized}
use Rattle.vt100_core.specs.Scroll.{Scrolled}
use Rattle.screen_model.specs.State.{State, main_sheet, alternate_sheet, fresh_state}
use Rattle.screen_model.specs.Step.{reports_of, resized_to}
use Rattle.screen_model.specs.Effect.{effect}
use Rattle.screen_model.specs.Made.{Act, Fed, Resized, played, events_added, made_on, made}
use Rattle.screen_model.specs.Holds.{IsAct, AreActs, last_rows, last_cols, MakesStates, MakesLastSize}
use Rattle.screen_model.specs.Holds.{MakesCapacity, MakesNoOffset, MakesCells, MakesProperCells, MakesByteColors}
use Rattle.screen_model.specs.Holds.{KeepsAtSameSize}
use Rattle.screen_model.proofs.RowTraits.{IsKnown, IsClean, IsCleanRow, sound, clean-row, clean-cell}
use Rattle.screen_model.proofs.SheetTraits.{IsCleanSheet}
use Rattle.screen_model.proofs.UnscrolledSizes.{resized-same}
use Rattle.screen_model.proofs.UnscrolledStates.{Bounds, IsUnscrolledState, is-state, well-fresh, well-resized}
use Rattle.screen_model.proofs.UnscrolledStates.{main-fine}
use Rattle.screen_model.proofs.ScalarEvents.{IsReported, added-reported}
use Rattle.screen_model.proofs.UnscrolledEvents.{effect-well}

played-well : (es : List Event) → All IsReported es → (b : Bounds) (s : State) → IsUnscrolledState b s
    → IsUnscrolledState b (played es s)
played-well [] h b s w = w
played-well (e ∷ es) h b s w =
    played-well es (All-tail IsReported e es h) b (effect e s).state (effect-well e (All-head IsReported e es h) b s w)

abbrev pub bounded : Bounds → List Act → Bounds
bounded b acts = record b { height = last_rows b.height acts; width = last_cols b.width acts }

acts-well : (acts : List Act) → All IsAct acts → (past : List ℕ) (b : Bounds) (s : State) → IsUnscrolledState b s
    → IsUnscrolledState (bounded b acts) (made_on past s acts)
acts-well [] h past b s w = w
acts-well (Fed bytes ∷ acts) h past b s w =
    acts-well acts (All-tail IsAct (Fed bytes) acts h) (past ++ bytes) b (played (events_added past bytes) s)
    (played-well (events_added past bytes) (added-reported past bytes) b s w)
acts-well (Resized rows cols ∷ acts) h past b s w =
    let is = All-head IsAct (Resized rows cols) acts h in
    acts-well acts (All-tail IsAct (Resized rows cols) acts h) past (record b { height = rows; width = cols })
    (resized_to rows cols s).state (well-resized b s rows cols w is.0.0 is.0.1 is.1.0 is.1.1)

abbrev pub first_bounds : ℕ → ℕ → ℕ → Bounds
first_bounds rows cols capacity = record { height = rows; width = cols; capacity = capacity }

pub made-well : (rows cols capacity : ℕ) (acts : List Act) → AreActs rows cols capacity acts
    → IsUnscrolledState (bounded (first_bounds rows cols capacity) acts) (made rows cols capacity acts)
made-well rows cols capacity acts h =
    acts-well acts h.each [] (first_bounds rows cols capacity) (fresh_state rows cols capacity)
    (well-fresh (first_bounds rows cols capacity) (record {
      some_rows = h.height.0;
      few_rows = h.height.1;
      some_cols = h.width.0;
      few_cols = h.width.1;
      few = h.few;
    }))

pub makes-states : MakesStates
makes-states rows cols capacity acts h = is-state _ _ (made-well rows cols capacity acts h)

pub makes-last_size : MakesLastSize
makes-last_size rows cols capacity acts h =
    let w = made-well rows cols capacity acts h in
    record {
      height = w.shown.fine.limits.height;
      width = w.shown.fine.limits.width;
      other_height = w.other.limits.height;
      other_width = w.other.limits.width;
    }

pub makes-capacity : MakesCapacity
makes-capacity rows cols capacity acts h =
    (main-fine (bounded (first_bounds rows cols capacity) acts) (made rows cols capacity acts)
    (made-well rows cols capacity acts h)).capacity

pub makes-no_offset : MakesNoOffset
makes-no_offset rows cols capacity acts h =
    let w = made-well rows cols capacity acts h in
    record { shown = w.shown.fine.limits.hidden; other = w.other.limits.hidden }

-- ---- cells that are shown

rows-are : (rows : List RowView) → ((r : ℕ) → r < length rows → IsRow (row_at rows r)) → (r : ℕ) → IsRow (row_at rows r)
rows-are rows h r =
    ⊎_elim (h r)
    (λ (l : length rows ≤ r). subst IsRow (sym (row_at_past rows r l)) (IsRow-blank 0 (omega arith)))
    (cases_lt r (length rows))

shown-row : (g : GridView) → IsGrid g → IsCleanSheet sound g → (r : ℕ)
    → IsRow (visible_at g r) × IsCleanRow sound (visible_at g r)
shown-row g i d r =
    let kept = length g.kept.rows - g.kept.offset + r in
    let drawn = r - g.kept.offset in
    cond_both (nat_lt r g.kept.offset) (row_at g.kept.rows kept) (row_at g.rows drawn)
    (λ v. IsRow v × IsCleanRow sound v)
    (λ _. (rows-are g.kept.rows i.kept.each kept, clean-row sound g.kept.rows d.kept kept))
    (λ _. (rows-are g.rows (λ k h. (i.sheet.each k h).row) drawn, clean-row sound g.rows d.drawn drawn))

known : (x : CellView) → IsClean sound x → Contains x.text 0xFFFD → ⊥
known x h c = All-contains IsKnown x.text 0xFFFD h.text c refl

pub makes-cells : MakesCells
makes-cells rows cols capacity acts h r c =
    let s = made rows cols capacity acts in
    let w = made-well rows cols capacity acts h in
    let row = shown-row s.shown w.shown.fine.grid w.clean r in
    (row.0.cells c, known (cell_at (visible_at s.shown r).cells c) (clean-cell sound (visible_at s.shown r) row.1 c))

pub makes-proper_cells : MakesProperCells
makes-proper_cells rows cols capacity acts h r c =
    let s = made rows cols capacity acts in
    let w = made-well rows cols capacity acts h in
    (clean-cell sound (visible_at s.shown r) (shown-row s.shown w.shown.fine.grid w.clean r).1 c).attrs

pub makes-byte_colors : MakesByteColors
makes-byte_colors rows cols capacity acts h =
    let w = made-well rows cols capacity acts h in
    record { cells = λ r c. (makes-proper_cells rows cols capacity acts h r c).colors; drawn = w.drawn.attrs.colors }

-- ---- the same size

same-shown : (g h : GridView) → h.height ≡ g.height → h.width ≡ g.width
    → resized h g.height g.width ≡ record { grid = h; sunk = [] }
same-shown g h p q =
    ap (λ n. resized h n g.width) (sym p) ∙ ap (λ n. resized h h.height n) (sym q) ∙ resized-same h

none-reported : (x y : Scrolled) → x.sunk ≡ [] → y.sunk ≡ [] → reports_of false x.sunk ++ reports_of true y.sunk ≡ []
none-reported x y p q =
    ap (λ (vs : List RowView). reports_of false vs ++ reports_of true y.sunk) p
    ∙ ap (λ (vs : List RowView). reports_of true vs) q

sunk-if : (b : Bool) (g h : GridView) (height width : ℕ) → (resized g height width).sunk ≡ []
    → (resized h height width).sunk ≡ [] → (resized (cond b g h) height width).sunk ≡ []
sunk-if b g h height width p q = cond_both b g h (λ x. (resized x height width).sunk ≡ []) (λ _. p) (λ _. q)

pub keeps-at_same_size : KeepsAtSameSize
keeps-at_same_size s i =
    let g = s.shown in
    let shown = same-shown g g refl refl in
    let other = same-shown g s.other i.height i.width in
    let shown_sunk = ap (λ (x : Scrolled). x.sunk) shown in
    let other_sunk = ap (λ (x : Scrolled). x.sunk) other in
    let reports = none-reported (resized (main_sheet s) g.height g.width) (resized (alternate_sheet s) g.height g.width)
    (sunk-if s.alternate s.other g g.height g.width other_sunk shown_sunk)
    (sunk-if s.alternate g s.other g.height g.width shown_sunk other_sunk) in
    λ j. record {
      state = record s { shown = (shown j).grid; other = (other j).grid; updating = false };
      reports = reports j;
    }

pub ruleset held = (
  makes-states,
  makes-last_size,
  makes-capacity,
  makes-no_offset,
  makes-cells,
  makes-proper_cells,
  makes-byte_colors,
  keeps-at_same_size,
)
