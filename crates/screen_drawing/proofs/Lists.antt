-- What is true of every list of forms that is written for a screen, if it is true of each part: that its forms are of
-- some kind, or that it has a limited number of bytes.
use Rattle.std.proofs.Common.{◌≡◌, ℕ, zero, suc, ◌+◌, ◌-◌, ◌*◌, ◌<◌, ◌≤◌, Bool, true, nat_lt, List, [], ◌∷◌, ◌++◌}
use Rattle.std.proofs.Common.{Option, Some, None, arith}
use Rattle.std.specs.Prelude.{replicate}
use Rattle.std.specs.List.{AllByRecursion}
use Rattle.std.proofs.Math.Nat.{suc-mul}
use Rattle.std.proofs.lemmas.Bool.{cond_both, ltb-true}
use Rattle.vt100_forms.specs.declared.attrs.Attrs.{Attrs}
use Rattle.vt100_forms.specs.declared.position.Pos.{Pos}
use Rattle.vt100_forms.specs.declared.modes.MouseProtocolMode.{MouseProtocolMode}
use Rattle.vt100_forms.specs.declared.modes.MouseProtocolEncoding.{MouseProtocolEncoding}
use Rattle.vt100_forms.specs.declared.modes.CursorStyle.{CursorStyle}
use Rattle.vt100_forms.specs.Attrs.{default_attrs}
use Rattle.vt100_forms.specs.Form.{Form, Text, EraseChar, ClearScreen, ClearAttrs, Lf, Backspace, SaveCursor}
use Rattle.vt100_forms.specs.Form.{RestoreCursor, HideCursor, Keypad, CursorKeys, Paste, Mouse, Encoding, Style, change}
use Rattle.vt100_cells.specs.Cell.{has_text, bool_eq}
use Rattle.terminal_model.specs.Term.{Size, Shown}
use Rattle.row_drawing.specs.declared.pen.Pen.{Pen}
use Rattle.row_drawing.specs.Writer.{Drawn, Writer, ◌>>◌, skip}
use Rattle.row_drawing.proofs.Texts.{all-join}
use Rattle.screen_drawing.specs.Rows.{pen_at, is_continued, RowWriters, next_row, in_turn, no_flags, redraws_of}
use Rattle.screen_drawing.specs.Rows.{differences_of}
use Rattle.screen_drawing.specs.Cursor.{place, arriving, is_pen_at, end_col, end_cell, row_with_end, printed_with}
use Rattle.screen_drawing.specs.Cursor.{wait_behind, wait_on_empty, wait, cursor_position_formatted}
use Rattle.screen_drawing.specs.Modes.{switch, input_mode_formatted, input_mode_diff, attributes_formatted}
use Rattle.screen_drawing.specs.Screen.{cursor_placed, grid_redraw, grid_contents_formatted, grid_difference}
use Rattle.screen_drawing.specs.Screen.{contents_formatted, state_formatted, contents_diff, state_diff}
use Rattle.screen_drawing.specs.Screen.{cursor_state_formatted}
use Rattle.screen_drawing.specs.Laws.{IsTrueOfLists}
use Rattle.screen_drawing.proofs.CursorForms.{Ends, ends}

-- W n fs says what is wanted of the list fs, which has at most n bytes if bytes are counted
pub record IsMeasure (W : ℕ → List Form → Type 0) : Type 0 where
  pub none : (n : ℕ) → W n []
  pub join : (fs gs : List Form) (m n k : ℕ) → W m fs → W n gs → m + n ≤ k → W k (fs ++ gs)

-- forms of some kind, however many
pub all-measure : (Q : Form → Type 0) → IsMeasure (λ n fs. AllByRecursion Q fs)
all-measure Q = record { none = λ n. tt; join = λ fs gs m n k a b l. all-join Q fs gs a b }

-- the forms fulfil W, and the pen fulfils K
pub record IsWritten (W : ℕ → List Form → Type 0) (K : Pen → Type 0) (n : ℕ) (d : Drawn) : Type 0 where
  pub forms : W n d.forms
  pub pen : K d.pen

abbrev pub Writes : (ℕ → List Form → Type 0) → (Pen → Type 0) → Writer → ℕ → Type 0
Writes W K f n = (p : Pen) → K p → IsWritten W K n (f p)

-- ---- the parts

-- what is drawn of a screen, if the attributes fulfil A
pub record Rules (W : ℕ → List Form → Type 0) (A : Attrs → Type 0) (K : Pen → Type 0)
    (z : Size) (s : Shown) : Type 0 where
  pub space : W 1 (Text (32 ∷ []) ∷ [])
  pub text : (r k : ℕ) → has_text (s.cell r k) ≡ true → W 21 (Text (s.cell r k).text ∷ [])
  pub feed : W 1 (Lf ∷ [])
  pub wipes : W 13 (SaveCursor ∷ Backspace ∷ EraseChar 1 ∷ RestoreCursor ∷ [])
  pub clears_attrs : W 3 (ClearAttrs ∷ [])
  pub clears : W 6 (ClearScreen ∷ [])
  pub hides : (b : Bool) → W 6 (HideCursor b ∷ [])
  pub arrives : (p : Option Pos) (r c : ℕ) → r ≤ s.row → c ≤ z.cols → W 14 (arriving p (place r c))
  pub changes : (a b : Attrs) → A b → W 48 (change a b)
  pub plain : A default_attrs
  pub colors : (r k : ℕ) → A (s.cell r k).attrs
  pub attrs : A s.attrs
  pub begun : (row col : ℕ) (a : Attrs) → A a → K (pen_at row col a)
  pub held : (p : Pen) → K p → A p.attrs
  pub moved : (p : Pen) (q : Pos) → K p → K (record p { pos = q })
  pub redraw : (i : ℕ) → i < z.rows → Writes W K (next_row no_flags (redraws_of z s) i) (428 * z.cols)
  pub difference : (old : Shown) (i : ℕ) → i < z.rows
      → Writes W K (next_row (is_continued old.wrapped) (differences_of z old s) i) (428 * z.cols)

pub record ModeRules (W : ℕ → List Form → Type 0) : Type 0 where
  pub keypad : (b : Bool) → W 2 (Keypad b ∷ [])
  pub keys : (b : Bool) → W 5 (CursorKeys b ∷ [])
  pub paste : (b : Bool) → W 8 (Paste b ∷ [])
  pub mouse : (to from : MouseProtocolMode) → W 8 (Mouse to from ∷ [])
  pub encoding : (to from : MouseProtocolEncoding) → W 8 (Encoding to from ∷ [])
  pub style : (to from : CursorStyle) → W 5 (Style to from ∷ [])

module _ (W : ℕ → List Form → Type 0) (measure : IsMeasure W) where
  joined : {fs gs : List Form} {m n k : ℕ} → W m fs → W n gs → m + n ≤ k → W k (fs ++ gs)
  joined a b l = measure.join _ _ _ _ _ a b l

  both : {fs gs : List Form} {m n : ℕ} → W m fs → W n gs → W (m + n) (fs ++ gs)
  both {m = m} {n = n} a b = measure.join _ _ m n (m + n) a b (omega arith)

  more : {fs : List Form} {m k : ℕ} → W m fs → m ≤ k → W k fs
  more {fs = fs} {m = m} {k = k} a l = measure.join [] fs 0 m k (measure.none 0) a (omega (arith, l))

  pub then : (K : Pen → Type 0) {f g : Writer} {m n k : ℕ} → Writes W K f m → Writes W K g n → m + n ≤ k
      → Writes W K (f >> g) k
  unfolding ◌>>◌
  then K {f = f} a b l p s =
      let first = a p s in
      let second = b (f p).pen first.pen in
      record { forms = joined first.forms second.forms l; pen = second.pen }

  -- ---- modes

  switched : (f : Bool → Form) (old new : Bool) (n : ℕ) → W n (f new ∷ []) → W n (switch f old new)
  switched f old new n h = cond_both (bool_eq new old) [] (f new ∷ []) (W n) (λ _. measure.none n) (λ _. h)

  pub modes-set : ModeRules W → (s : Shown) → W 36 (input_mode_formatted s)
  unfolding input_mode_formatted
  modes-set m s =
      joined (m.keypad _) (both (m.keys _)
      (both (m.paste _) (both (m.mouse _ _) (both (m.encoding _ _) (m.style _ _)))))
      (omega arith)

  pub modes-changed : ModeRules W → (old new : Shown) → W 36 (input_mode_diff old new)
  unfolding input_mode_diff
  modes-changed m old new =
      joined (both (both (switched Keypad old.modes.keypad _ 2 (m.keypad new.modes.keypad))
      (switched CursorKeys old.modes.cursor_keys _ 5 (m.keys new.modes.cursor_keys)))
      (switched Paste old.modes.paste _ 8 (m.paste new.modes.paste)))
      (both (m.mouse _ _) (both (m.encoding _ _) (m.style _ _))) (omega arith)

  module _ (A : Attrs → Type 0) (K : Pen → Type 0) (z : Size) (s : Shown) (h : Rules W A K z s) where
    -- ---- the cursor

    feeds : (n : ℕ) → W n (replicate n Lf)
    feeds zero = measure.none 0
    feeds (suc n) = joined h.feed (feeds n) (omega arith)

    printed : (a : Attrs) (r k : ℕ) → A a → has_text (s.cell r k) ≡ true → W 117 (printed_with a (s.cell r k))
    printed a r k ha some =
        let x = (s.cell r k).attrs in
        joined (h.changes a x (h.colors r k)) (both (h.text r k some) (h.changes x a ha)) (omega arith)

    end-in : (r : ℕ) → end_col z s.cell r ≤ z.cols
    end-in r = cond_both (s.cell r (z.cols - 1)).continuation (z.cols - 2) (z.cols - 1) (λ c. c ≤ z.cols)
        (λ _. omega arith) (λ _. omega arith)

    behind : (p : Option Pos) (a : Attrs) (r : ℕ) → A a → r ≤ s.row → has_text (end_cell z s.cell r) ≡ true
        → W 131 (wait_behind z s.cell p a r)
    unfolding wait_behind
    behind p a r ha up some =
        let c = end_col z s.cell r in
        cond_both (is_pen_at p (place r z.cols)) [] _ (W 131) (λ _. measure.none 131)
        (λ _. joined (h.arrives p r c up (end-in r)) (printed a r c ha some) (omega arith))

    on_empty : (p : Option Pos) (a : Attrs) → A a
        → W 131 (wait_on_empty z p a s.row (s.cell s.row (z.cols - 1)))
    unfolding wait_on_empty
    on_empty p a ha =
        let c = z.cols - 1 in
        let x = (s.cell s.row c).attrs in
        joined (h.arrives p s.row c (omega arith) (omega arith))
        (both h.space (both (h.changes a x (h.colors s.row c)) (both h.wipes (h.changes x a ha))))
        (omega arith)

    waits : (p : Option Pos) (a : Attrs) (o : Option ℕ) → A a → Ends z s s.row o
        → W (131 + s.row) (wait z s.cell p a s.row o)
    unfolding wait Ends
    waits p a None ha e = more (on_empty p a ha) (omega arith)
    waits p a (Some r) ha e = joined (behind p a r ha e.0 e.1) (feeds (s.row - r)) (omega arith)

    cursor : (p : Option Pos) (a : Attrs) → A a → W (131 + s.row) (cursor_position_formatted z s p a)
    unfolding cursor_position_formatted
    cursor p a ha =
        cond_both (nat_lt s.col z.cols) _ _ (W (131 + s.row))
        (λ l. more (h.arrives p s.row s.col (omega arith) (omega (arith, ltb-true s.col z.cols l)))
        (omega arith))
        (λ _. cond_both (is_pen_at p (place s.row s.col)) [] _ (W (131 + s.row))
        (λ _. measure.none (131 + s.row))
        (λ _. waits p a (row_with_end z s.cell s.row) ha (ends z s s.row)))

    pub placed : Writes W K (cursor_placed z s) (131 + s.row)
    unfolding cursor_placed
    placed p k = record {
      forms = cursor (Some p.pos) p.attrs (h.held p k);
      pen = h.moved p (place s.row s.col) k;
    }

    -- ---- grids

    pub rows : (had : ℕ → Bool) (rs : RowWriters)
        → ((i : ℕ) → i < z.rows → Writes W K (next_row had rs i) (428 * z.cols))
        → (n : ℕ) → n ≤ z.rows → Writes W K (in_turn had rs n) (428 * (n * z.cols))
    unfolding in_turn skip
    rows had rs each zero l = λ p k. record { forms = measure.none (428 * (0 * z.cols)); pen = k }
    rows had rs each (suc n) l =
        then K (rows had rs each n (omega arith)) (each n (omega arith)) (omega (arith, suc-mul n z.cols))

    redraw : IsWritten W K (428 * (z.rows * z.cols) + (131 + s.row)) (grid_redraw z s)
    unfolding grid_redraw
    redraw = then K (rows _ _ h.redraw z.rows (omega arith)) placed (omega arith) (pen_at 0 0 default_attrs)
        (h.begun 0 0 default_attrs h.plain)

    difference : (old : Shown) → A old.attrs
        → IsWritten W K (428 * (z.rows * z.cols) + (131 + s.row)) (grid_difference z old s)
    unfolding grid_difference
    difference old ha =
        then K (rows _ _ (h.difference old) z.rows (omega arith)) placed (omega arith)
        (pen_at old.row old.col old.attrs) (h.begun old.row old.col old.attrs ha)

    grid : W (428 * (z.rows * z.cols) + s.row + 140) (grid_contents_formatted z s)
    unfolding grid_contents_formatted
    grid = joined h.clears_attrs (both h.clears redraw.forms) (omega arith)

    -- ---- screens

    pub contents : W (428 * (z.rows * z.cols) + s.row + 194) (contents_formatted z s)
    unfolding contents_formatted grid_contents_formatted
    contents =
        joined (h.hides s.hidden) (both grid (h.changes (grid_redraw z s).pen.attrs s.attrs h.attrs))
        (omega arith)

    pub contents_changed : (old : Shown) → A old.attrs
        → W (428 * (z.rows * z.cols) + s.row + 194) (contents_diff z old s)
    unfolding contents_diff
    contents_changed old ha =
        joined (both (switched HideCursor old.hidden s.hidden 6 (h.hides s.hidden)) (difference old ha).forms)
        (h.changes (grid_difference z old s).pen.attrs s.attrs h.attrs) (omega arith)

    pub cursor_state : W (428 * (z.rows * z.cols) + s.row + 194) (cursor_state_formatted z s)
    unfolding cursor_state_formatted
    cursor_state = joined (h.hides s.hidden) (cursor None default_attrs h.plain) (omega arith)

    attributes : W 51 (attributes_formatted s)
    unfolding attributes_formatted
    attributes = joined h.clears_attrs (h.changes default_attrs s.attrs h.attrs) (omega arith)

    pub every-list : ModeRules W → (old : Shown) → A old.attrs
        → IsTrueOfLists (W (428 * (z.rows * z.cols) + s.row + 230)) A z old s
    unfolding state_formatted state_diff
    every-list m old ha = record {
      state_formatted = joined contents (modes-set m s) (omega arith);
      contents_formatted = more contents (omega arith);
      state_diff = joined (contents_changed old ha) (modes-changed m old s) (omega arith);
      contents_diff = more (contents_changed old ha) (omega arith);
      cursor_state_formatted = more cursor_state (omega arith);
      input_mode_formatted = more (modes-set m s) (omega arith);
      input_mode_diff = more (modes-changed m old s) (omega arith);
      attributes_formatted = more attributes (omega arith);
      grid_formatted = more grid (omega arith);
      grid_diff = more (difference old ha).forms (omega arith);
      cursor = λ p a k. more (cursor p a k) (omega arith);
    }
