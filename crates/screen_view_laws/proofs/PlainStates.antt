-- Plain states.
use Rattle.std.proofs.Common.{◌≡◌, ◌+◌, ◌==◌, ◌<◌, ◌≤◌, true, false, not, refl, sym, ◌∙◌, subst}
use Rattle.std.proofs.lemmas.Bool.{and_parts, not-true, eqb-true, eq-eqb}
use Rattle.terminal_model.specs.Term.{Term}
use Rattle.vt100_rows.specs.Sheet.{IsSheet}
use Rattle.vt100_core.specs.Grid.{GridView, IsAllocated}
use Rattle.vt100_core.proofs.InputLemmas.{IsDrawable}
use Rattle.screen_model.specs.State.{State, IsState, is_plain}
use Rattle.screen_view_laws.specs.Plain.{terminal_of, IsPlainGrid, IsPlainState}
use Rattle.screen_view_laws.specs.StateLaws.{Shows, EachPlainStateIsRead}

plain-of : (s : State) → IsState s → is_plain s ≡ true → IsPlainState s
plain-of s i h =
    let g = s.shown in
    let one = and_parts (not s.alternate) _ h in
    let two = and_parts (g.kept.offset == 0) _ one.1 in
    let three = and_parts (g.top == 0) _ two.1 in
    let four = and_parts ((g.bottom + 1) == g.height) _ three.1 in
    let five = and_parts (not g.origin) (not g.saved_origin) four.1 in
    let k = i.shown in (
      not-true s.alternate one.0,
      record {
        sheet = k.sheet;
        some = i.drawn;
        few_rows = k.few_rows;
        few_cols = k.few_cols;
        some_cols = k.some_cols;
        cursor_row = k.cursor_row;
        cursor_col = k.cursor_col;
        saved_row = k.saved_row;
        saved_col = k.saved_col;
        top = eqb-true g.top 0 three.0;
        bottom = eqb-true (g.bottom + 1) g.height four.0;
        origin = not-true g.origin five.0;
        saved_origin = not-true g.saved_origin five.1;
        offset = eqb-true g.kept.offset 0 two.0;
      },
    )

is_plain-of : (s : State) → IsPlainState s → is_plain s ≡ true
is_plain-of s h =
    let g = s.shown in
    let p = h.1 in
    rw (
      h.0,
      eq-eqb g.kept.offset 0 p.offset,
      eq-eqb g.top 0 p.top,
      eq-eqb (g.bottom + 1) g.height p.bottom,
      p.origin,
      p.saved_origin,
    ) refl

pub plain-read : EachPlainStateIsRead
plain-read s = (plain-of s, is_plain-of s)

-- a grid of the same size and scroll region, with its own rows, cursors, modes and scrollback rows
pub plain-as : (g h : GridView) → IsPlainGrid g → IsSheet g.height g.width h.rows → IsAllocated h → h.row < g.height
    → h.col ≤ g.width → h.saved_row < g.height → h.saved_col ≤ g.width → h.origin ≡ false → h.saved_origin ≡ false
    → h.kept.offset ≡ 0
    → IsPlainGrid (record h { height = g.height; width = g.width; top = g.top; bottom = g.bottom })
plain-as g h p sheet some row col saved_row saved_col origin saved_origin offset = record {
  sheet = sheet;
  some = some;
  few_rows = p.few_rows;
  few_cols = p.few_cols;
  some_cols = p.some_cols;
  cursor_row = row;
  cursor_col = col;
  saved_row = saved_row;
  saved_col = saved_col;
  top = p.top;
  bottom = p.bottom;
  origin = origin;
  saved_origin = saved_origin;
  offset = offset;
}

pub drawable : (g : GridView) → IsPlainGrid g → IsDrawable g
drawable g p = record {
  sheet = p.sheet;
  some = p.some;
  few_rows = p.few_rows;
  few_cols = p.few_cols;
  row = p.cursor_row;
  col = p.cursor_col;
  top = p.top;
  bottom = p.bottom;
}

-- ---- showing

-- another way to the same state and terminal
pub shows-at : (s u v : State) (t w : Term) → u ≡ v → t ≡ w → Shows s w v → Shows s t u
shows-at s u v t w e f h = subst (λ (x : State). Shows s t x) (sym e) (subst (λ (x : Term). Shows s x v) (sym f) h)

pub shows-same : (s : State) → IsPlainState s → Shows s (terminal_of s) s
shows-same s p = record { shows = refl; size = refl; plain = p }

pub shows-then : (s u v : State) (t w : Term) → Shows s t u → Shows u w v → Shows s w v
shows-then s u v t w h k = record { shows = k.shows; size = k.size ∙ h.size; plain = k.plain }
